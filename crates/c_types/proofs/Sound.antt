-- What is resolved is valid, and what is told is the least fault.
use Rattle.std.proofs.Common.{◌≡◌, List, [], None, sym, subst}
use Rattle.std.specs.Prelude.{Result, Ok, Err, IfOk, OnOk, IfErr}
use Rattle.cfix_base.specs.declared.Spot.{Spot}
use Rattle.c_grammar.specs.File.{File}
use Rattle.c_names.specs.declared.fault.Fault.{Fault}
use Rattle.c_names.specs.Faults.{noted_all}
use Rattle.c_names.specs.Files.{faults_of}
use Rattle.c_grammar.specs.Parsed.{IsParsed}
use Rattle.c_names.specs.Sources.{source_of}
use Rattle.c_prog.specs.Lines.{SourceTree}
use Rattle.c_prog.specs.Valid.{IsValid}
use Rattle.c_types.specs.declared.fault.NameFault.{NameFault}
use Rattle.c_types.specs.Outcome.{Refuses, Tells}
use Rattle.c_types.proofs.Told.{refuses}
use Rattle.valid_law.proofs.ValidSpelled.{valid_spelled}

pub valid-where : (result : Result SourceTree NameFault) (end : Spot) (file : File) → IsParsed end file
    → IfOk result (λ source. source ≡ source_of file) → OnOk result (faults_of end file ≡ []) → IfOk result (λ source. IsValid source.tree)
valid-where (Ok source) end file parsed is clean = subst (λ s. IsValid s.tree) (sym is) (valid_spelled end file parsed clean)
valid-where (Err e) end file parsed is clean = tt

pub refused-where : (result : Result SourceTree NameFault) (faults : List Fault) → IfErr result (λ e. Tells e (noted_all None faults)) → IfErr result (λ e. Refuses e faults)
refused-where (Ok source) faults told = tt
refused-where (Err e) faults told = refuses e faults told
