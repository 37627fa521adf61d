use Rattle.std.proofs.Common.{◌≡◌, ◌+◌, ◌<◌, ◌^◌, map, length, drop}
use Rattle.c_names.specs.Declarations.{numbered}
use Rattle.c_names.specs.Faults.{noted_all}
use Rattle.c_declare.specs.Declaring.{with_declarations, all_again_faults}
use Rattle.c_declare.proofs.declare.declare_more.Given as goal

abbrev pub invariant-loop-declarator : goal.invariant-loop-declarator
invariant-loop-declarator g l = record {
  fits : l.next + length (drop l.declarator-index l.more) < 2 ^ 32;
  seen : with_declarations l.table (numbered l.next (map g.D.Declarator.variable (map (λ y. y.1) (drop l.declarator-index l.more)))) ≡ with_declarations l.initial.table (numbered l.initial.next (map g.D.Declarator.variable (map (λ y. y.1) l.more)));
  noted : noted_all l.least (all_again_faults l.table (numbered l.next (map g.D.Declarator.variable (map (λ y. y.1) (drop l.declarator-index l.more))))) ≡ noted_all l.initial.least (all_again_faults l.initial.table (numbered l.initial.next (map g.D.Declarator.variable (map (λ y. y.1) l.more))));
}
