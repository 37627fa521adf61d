-- The names of a file and what its program declares say the same of each name.
use Rattle.std.proofs.Common.{◌≡◌, true, map}
use Rattle.c_grammar.specs.Marks.{each}
use Rattle.c_grammar.specs.File.{File, file_marks}
use Rattle.c_prog.specs.Valid.Kinds.{signature_of, file_of}
use Rattle.c_names.specs.Uses.{OfVariable, OfFunction, OfNumber}
use Rattle.c_names.specs.Declarations.{names_of}
use Rattle.c_names.specs.Sources.{top_globals, top_functions_of, source_of}
use Rattle.valid_law.specs.Agrees.{Agrees}
use Rattle.valid_law.specs.Lexical.{are_lexical}
use Rattle.valid_law.proofs.Lookups.{counted-is, meaning-is}

pub agrees_of : (file : File) → are_lexical (file_marks file) ≡ true → Agrees (names_of file) (file_of (source_of file).tree)
agrees_of file l =
    let names = names_of file in
    record {
      global = λ text n kind h.
          let found = meaning-is names text 0 0 file (OfVariable n kind) l h in
          record { global = found.0; found = counted-is (each (top_globals names) file) n found.0 found.1.0; named = found.1.1; is_kind = found.1.2 };
      function = λ text n kind params h.
          counted-is (map signature_of (each (top_functions_of names) file)) n (record { name = text; kind = kind; params = params })
          (meaning-is names text 0 0 file (OfFunction n kind params) l h);
      number = λ text value h. meaning-is names text 0 0 file (OfNumber value) l h;
    }
