-- The parts of the tree are those of the file.
use Rattle.std.proofs.Common.{◌≡◌, [], None, map, sym, subst}
use Rattle.std.specs.Prelude.{IfOk, IfErr, OnOk}
use Rattle.c_raw.specs.Files.{top_view, file_view}
use Rattle.c_names.specs.Faults.{noted_all}
use Rattle.c_names.specs.Files.{faults_of}
use Rattle.c_grammar.specs.Parsed.{IsParsed}
use Rattle.c_names.specs.Sources.{source_of}
use Rattle.c_types.specs.Outcome.{Tells}
use Rattle.c_types.proofs.Sound.{valid-where, refused-where}
use Rattle.c_types.proofs.resolving.resolve.Goals as goal

pub resolve_file-requires : goal.resolve_file-requires
resolve_file-requires c = record { parsed = subst (λ ts. IsParsed c.args.raw.now.end (map top_view ts)) (sym c.as_slice.ensures) c.requires.parsed }

pub returns-clause-spelled : goal.returns-clause-spelled
returns-clause-spelled c = subst (λ ts. IfOk c.resolve_file.result (λ source. source ≡ source_of (map top_view ts))) c.as_slice.ensures c.resolve_file.ensures.spelled

pub returns-clause-clean : goal.returns-clause-clean
returns-clause-clean c = subst (λ ts. OnOk c.resolve_file.result (faults_of c.args.raw.now.end (map top_view ts) ≡ [])) c.as_slice.ensures c.resolve_file.ensures.clean

pub returns-clause-valid : goal.returns-clause-valid
returns-clause-valid c =
    valid-where c.resolve_file.result c.args.raw.now.end (file_view c.args.raw.now) c.requires.parsed
    (subst (λ ts. IfOk c.resolve_file.result (λ source. source ≡ source_of (map top_view ts))) c.as_slice.ensures c.resolve_file.ensures.spelled)
    (subst (λ ts. OnOk c.resolve_file.result (faults_of c.args.raw.now.end (map top_view ts) ≡ [])) c.as_slice.ensures c.resolve_file.ensures.clean)

pub returns-clause-told : goal.returns-clause-told
returns-clause-told c =
    subst (λ ts. IfErr c.resolve_file.result (λ e. Tells e (noted_all None (faults_of c.args.raw.now.end (map top_view ts))))) c.as_slice.ensures c.resolve_file.ensures.told

pub returns-clause-fault : goal.returns-clause-fault
returns-clause-fault c =
    refused-where c.resolve_file.result (faults_of c.args.raw.now.end (file_view c.args.raw.now))
    (subst (λ ts. IfErr c.resolve_file.result (λ e. Tells e (noted_all None (faults_of c.args.raw.now.end (map top_view ts))))) c.as_slice.ensures c.resolve_file.ensures.told)
