-- What the answer says, from what the grammar's reader of files answers.
use Rattle.std.proofs.Common.{◌≡◌, List, [], Result, Ok, Err, refl, sym, ap, ◌∙◌, inl, inr}
use Rattle.std.specs.Prelude.{IfOk, IfErr}
use Rattle.c_lex.specs.Lexed.{Lexed, IsLexed}
use Rattle.c_grammar.specs.Token.{Token}
use Rattle.c_grammar.specs.Lexical.{tokens_read}
use Rattle.c_grammar.specs.Parsed.{IsParsed}
use Rattle.c_reading.specs.Reader.{Unexpected, Deep, Out, Got, Stop}
use Rattle.c_grammar.specs.File.{File, file_marks, is_file}
use Rattle.c_reading.specs.ReadFile.{read_file}
use Rattle.c_reading.specs.Exact.{ReadsExactly}
use Rattle.c_reading.proofs.Reader.{Got-inj}
use Rattle.c_reading.proofs.ReadFile.{file_reads_exactly}
use Rattle.c_raw.specs.declared.file.Raw.{Raw}
use Rattle.c_raw.specs.Files.{file_view}
use Rattle.c_parse.specs.declared.fault.ParseFault.{ParseFault}
use Rattle.c_parse.specs.declared.fault.ParseFault.TheVariants as fault
use Rattle.c_parse.specs.Parsed.{Answers, Parses, FaultIs, IsFileOf, IsTreeOf, IsUnexpected, IsDeep, IsFault, spot_in}

exact : ReadsExactly 200 file_marks is_file (read_file 200)
exact = file_reads_exactly 200

pub tree_from : (lexed : Lexed) (r : Result Raw ParseFault) → Answers lexed r → IfOk r (λ raw. Parses lexed raw)
tree_from lexed (Ok raw) a = record { file = (exact.found (tokens_read lexed.tokens) (file_view raw) [] a.0).1; end = a.1 }
tree_from lexed (Err e) a = tt

pub parsed_from : (lexed : Lexed) (r : Result Raw ParseFault) → Answers lexed r → IfOk r (λ raw. IsLexed lexed → IsParsed raw.end (file_view raw))
parsed_from lexed (Ok raw) a = λ l. record {
  text = l.text;
  bytes = l.bytes;
  lexed = lexed;
  lexes = l.lexes;
  read = (tree_from lexed (Ok raw) a).file;
  ends = a.1;
}
parsed_from lexed (Err e) a = tt

pub fault_from : (lexed : Lexed) (r : Result Raw ParseFault) → Answers lexed r → IfErr r (λ e. FaultIs e lexed)
fault_from lexed (Ok raw) a = tt
fault_from lexed (Err fault.NoMemory) a = tt
fault_from lexed (Err (fault.Unexpected spot)) a = (a.0, exact.unexpected (tokens_read lexed.tokens) a.0 a.1, a.2)
fault_from lexed (Err (fault.Deep spot)) a = (a.0, exact.deep (tokens_read lexed.tokens) a.0 a.1, a.2)

stop_is_no_got : {A : Type 0} (f : Rattle.c_reading.specs.Reader.Fault) (r s : List Token) (a : A) (o : Out Token A) → o ≡ Stop f r → o ≡ Got a s → ⊥
stop_is_no_got f r s a o e h = let z : Stop f r ≡ Got a s = sym e ∙ h in cc

same_rest : {A : Type 0} (f : Rattle.c_reading.specs.Reader.Fault) (r s : List Token) (o : Out Token A) → o ≡ Stop f r → o ≡ Stop f s → r ≡ s
same_rest {A} f r s o e h = let P : Out Token A → List Token = (λ x. rest_of r x) in ap P (sym e ∙ h)
  where
    rest_of : List Token → Out Token A → List Token
    rest_of d (Got a t) = d
    rest_of d (Stop x t) = t

pub read_from : (lexed : Lexed) (r : Result Raw ParseFault) → Answers lexed r → (file : File) → IsFileOf lexed file → IsTreeOf file r
read_from lexed (Ok raw) a file h = (Got-inj (file_view raw) file [] [] (sym a.0 ∙ exact.finds (tokens_read lexed.tokens) file h)).0
read_from lexed (Err fault.NoMemory) a file h = refl
read_from lexed (Err (fault.Unexpected spot)) a file h = absurd (stop_is_no_got Unexpected a.0 [] file _ a.1 (exact.finds (tokens_read lexed.tokens) file h))
read_from lexed (Err (fault.Deep spot)) a file h = absurd (stop_is_no_got Deep a.0 [] file _ a.1 (exact.finds (tokens_read lexed.tokens) file h))

no_two_faults : {A : Type 0} (r s : List Token) (o : Out Token A) → o ≡ Stop Unexpected r → o ≡ Stop Deep s → ⊥
no_two_faults {A} r s o e h = let z : Stop Unexpected r ≡ Stop Deep s = sym e ∙ h in cc

pub unexpected_from : (lexed : Lexed) (r : Result Raw ParseFault) → Answers lexed r → (rest : List Token) → IsUnexpected lexed rest → IsFault (fault.Unexpected (spot_in lexed rest)) r
unexpected_from lexed (Ok raw) a rest h = absurd (stop_is_no_got Unexpected rest [] (file_view raw) _ (exact.stops_unexpected (tokens_read lexed.tokens) rest h) a.0)
unexpected_from lexed (Err fault.NoMemory) a rest h = inr refl
unexpected_from lexed (Err (fault.Unexpected spot)) a rest h =
    inl (ap (λ x. Err (fault.Unexpected x)) (a.2 ∙ ap (spot_in lexed) (same_rest Unexpected a.0 rest _ a.1 (exact.stops_unexpected (tokens_read lexed.tokens) rest h))))
unexpected_from lexed (Err (fault.Deep spot)) a rest h = absurd (no_two_faults rest a.0 _ (exact.stops_unexpected (tokens_read lexed.tokens) rest h) a.1)

pub deep_from : (lexed : Lexed) (r : Result Raw ParseFault) → Answers lexed r → (rest : List Token) → IsDeep lexed rest → IsFault (fault.Deep (spot_in lexed rest)) r
deep_from lexed (Ok raw) a rest h = absurd (stop_is_no_got Deep rest [] (file_view raw) _ (exact.stops_deep (tokens_read lexed.tokens) rest h) a.0)
deep_from lexed (Err fault.NoMemory) a rest h = inr refl
deep_from lexed (Err (fault.Unexpected spot)) a rest h = absurd (no_two_faults a.0 rest _ a.1 (exact.stops_deep (tokens_read lexed.tokens) rest h))
deep_from lexed (Err (fault.Deep spot)) a rest h =
    inl (ap (λ x. Err (fault.Deep x)) (a.2 ∙ ap (spot_in lexed) (same_rest Deep a.0 rest _ a.1 (exact.stops_deep (tokens_read lexed.tokens) rest h))))
