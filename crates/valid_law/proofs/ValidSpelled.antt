-- What a file without faults spells is a valid program.
use Rattle.std.proofs.Common.{◌≡◌, true, []}
use Rattle.cfix_base.specs.declared.Spot.{Spot}
use Rattle.c_grammar.specs.File.{File, file_marks}
use Rattle.c_prog.specs.Valid.{IsValid}
use Rattle.c_prog.specs.Valid.Kinds.{file_of}
use Rattle.c_names.specs.Declarations.{names_of}
use Rattle.c_names.specs.Files.{faults_of}
use Rattle.c_grammar.specs.Parsed.{IsParsed}
use Rattle.c_names.specs.Sources.{source_of}
use Rattle.valid_law.specs.Agrees.{Agrees}
use Rattle.valid_law.specs.Lexical.{are_lexical}
use Rattle.valid_law.proofs.Agreement.{agrees_of}
use Rattle.valid_law.proofs.Bodies.{functions-valid}
use Rattle.valid_law.proofs.Counts.{few-accesses, few-nodes, few-functions, few-variables, few-cells, few-locals, few-local_cells}
use Rattle.valid_law.proofs.FaultlessParts.{FileFaultless, file_parts}
use Rattle.valid_law.proofs.FileNames.{names-valid}
use Rattle.valid_law.proofs.Globals.{globals-valid}
use Rattle.valid_law.proofs.Lexical.{parsed-lexical}
use Rattle.valid_law.proofs.Main.{has_main-valid}
use Rattle.valid_law.proofs.Operations.{operations-valid}
use Rattle.valid_law.proofs.Starts.{starts-valid}

pub valid_spelled : (end : Spot) (file : File) → IsParsed end file → faults_of end file ≡ [] → IsValid (source_of file).tree
valid_spelled end file parsed none =
    let parts : FileFaultless (names_of file) end file = file_parts (names_of file) end file none in
    let lexical : are_lexical (file_marks file) ≡ true = parsed-lexical end file parsed in
    let agrees : Agrees (names_of file) (file_of (source_of file).tree) = agrees_of file lexical in
    record {
      names = names-valid file lexical parts.twice parts.tops;
      globals = globals-valid file agrees.number lexical parts.tops;
      has_main = has_main-valid file end agrees parts.tops parts.main;
      functions = functions-valid end file agrees lexical none;
      operations = operations-valid (names_of file) file parts.tops;
      starts = starts-valid file parts.twice;
      few_nodes = few-nodes end file parts;
      few_functions = few-functions end file parts;
      few_variables = few-variables end file parts;
      few_cells = few-cells end file parts;
      few_locals = few-locals end file parts;
      few_local_cells = few-local_cells end file parts;
      few_accesses = few-accesses end file parsed;
    }
