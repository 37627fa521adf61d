use Rattle.std.proofs.Common.{◌≡◌, ◌+◌, ◌<◌, ◌^◌, ◌++◌, map, length, drop}
use Rattle.c_raw.specs.Files.{more_params_view}
use Rattle.c_names.specs.Declarations.{param_of}
use Rattle.c_names.specs.Faults.{noted_all}
use Rattle.c_names.specs.Files.{param_text, params_faults}
use Rattle.c_prog.specs.Valid.Functions.{with_params}
use Rattle.c_scope.specs.Tables.{names_from}
use Rattle.c_scope.specs.Views as v
use Rattle.c_heads.proofs.params.add_more.Given as goal

abbrev pub invariant-loop-next : goal.invariant-loop-next
invariant-loop-next l = record {
  counted : l.listing.scope.count + length (drop l.next-index l.more) ≡ l.initial.listing.scope.count + length l.more;
  fits : l.initial.listing.scope.count + length l.more < 2 ^ 32;
  noted : noted_all l.listing.least (params_faults (names_from l.names) (v.kind_view l.kind) l.listing.scope (map param_of (map (λ y. y.1) (more_params_view (drop l.next-index l.more))))) ≡ noted_all l.initial.listing.least (params_faults (names_from l.names) (v.kind_view l.kind) l.initial.listing.scope (map param_of (map (λ y. y.1) (more_params_view l.more))));
  seen : with_params (v.kind_view l.kind) (map param_text (map param_of (map (λ y. y.1) (more_params_view (drop l.next-index l.more))))) l.listing.scope ≡ with_params (v.kind_view l.kind) (map param_text (map param_of (map (λ y. y.1) (more_params_view l.more)))) l.initial.listing.scope;
  built : l.listing.texts ++ map param_text (map param_of (map (λ y. y.1) (more_params_view (drop l.next-index l.more)))) ≡ l.initial.listing.texts ++ map param_text (map param_of (map (λ y. y.1) (more_params_view l.more)));
}
