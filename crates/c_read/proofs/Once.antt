-- A text is read as one source, or refused for one flaw, and not both.
use Rattle.std.proofs.Common.{◌≡◌, ◌⊎◌, inl, inr, ℕ, List, [], Option, Some, None, Result, Ok, Err, refl, subst, ap, sym, ◌∙◌}
use Rattle.std.specs.Prelude.{IfOk, IfErr}
use Rattle.c_lex.specs.Faults.{spot_behind}
use Rattle.c_lex.specs.Lexed.{Lexed, Lexes}
use Rattle.c_lex.proofs.Exact.{lexes_once, fault_once, no_fault_lexes}
use Rattle.c_grammar.specs.File.{File, file_marks, is_file}
use Rattle.c_reading.specs.Reader.{Fault, Unexpected, Deep, Out, Got, Stop}
use Rattle.c_reading.specs.ReadFile.{read_file}
use Rattle.c_grammar.specs.Token.{Token}
use Rattle.c_grammar.specs.Verdict.{IsRead}
use Rattle.c_reading.specs.Exact.{ReadsExactly}
use Rattle.c_reading.proofs.ReadFile.{file_reads_exactly}
use Rattle.c_parse.specs.declared.fault.ParseFault.{ParseFault}
use Rattle.c_parse.specs.declared.fault.ParseFault.TheVariants as parse
use Rattle.c_parse.specs.Parsed.{FaultIs, spot_in}
use Rattle.c_names.specs.declared.fault.Fault as f
use Rattle.c_names.specs.Faults.{noted_all}
use Rattle.c_names.specs.Files.{faults_of}
use Rattle.c_names.specs.Sources.{source_of}
use Rattle.c_grammar.specs.Lexical.{tokens_read}
use Rattle.c_names.specs.Texts.{Accepts}
use Rattle.c_prog.specs.Lines.{SourceTree}
use Rattle.c_read.specs.declared.flaw.Flaw.{Flaw}
use Rattle.c_read.specs.declared.flaw.FlawKind.{FlawKind}
use Rattle.c_read.specs.declared.flaw.FlawKind.TheVariants as flaw_kind
use Rattle.c_read.specs.declared.flaw.ReadFault.{ReadFault}
use Rattle.c_read.specs.declared.flaw.ReadFault.TheVariants.{NoMemory, Flawed}
use Rattle.c_read.specs.Flaws.{flaw, token_flaw, grammar_flaw, name_flaw}
use Rattle.c_read.specs.Reading.{Reads, HasBadToken, BreaksGrammar, HasBadGrammar, HasBadName, IsFlawed, FailsBy}

same_some : {X : Type 0} (o : Option X) (a b : X) → o ≡ Some a → o ≡ Some b → a ≡ b
same_some o a b p q = cc

none_some : {X : Type 0} (x : X) → None ≡ Some x → ⊥
none_some x e = cc

-- ---- what the grammar's reader answers

abbrev read_all : Lexed → Out Token File
read_all lexed = read_file 200 (tokens_read lexed.tokens)

exact : ReadsExactly 200 file_marks is_file (read_file 200)
exact = file_reads_exactly 200

-- the tokens are those of this file
abbrev IsFile : Lexed → File → Type 0
IsFile lexed file = IsRead 200 file_marks is_file (tokens_read lexed.tokens) file

is_got : (lexed : Lexed) (file : File) → IsFile lexed file → read_all lexed ≡ Got file []
is_got lexed file h =
    exact.finds (tokens_read lexed.tokens) file h

abbrev file_from : File → Out Token File → File
file_from other (Got file rest) = file
file_from other (Stop f rest) = other

same_got : (o : Out Token File) (a b : File) → o ≡ Got a [] → o ≡ Got b [] → a ≡ b
same_got o a b p q = ap (file_from a) (sym p ∙ q)

abbrev flaw_in : Fault → FlawKind
flaw_in Unexpected = flaw_kind.Unexpected
flaw_in Deep = flaw_kind.Deep

abbrev flaw_from : Lexed → Flaw → Out Token File → Flaw
flaw_from lexed other (Got file rest) = other
flaw_from lexed other (Stop f rest) = flaw (flaw_in f) (spot_in lexed rest)

-- the reader stops there
record Stopped (lexed : Lexed) (w : Flaw) : Type 0 where
  why : Fault
  rest : List Token
  stops : read_all lexed ≡ Stop why rest
  is_flaw : w ≡ flaw (flaw_in why) (spot_in lexed rest)

some_is : (a b : Flaw) → Some a ≡ Some b → b ≡ a
some_is a b e = cc

stopped_by : (lexed : Lexed) (w : Flaw) (e : ParseFault) → grammar_flaw e ≡ Some w → FaultIs e lexed → Stopped lexed w
stopped_by lexed w parse.NoMemory is h = absurd (none_some w is)
stopped_by lexed w (parse.Unexpected spot) is h = record {
  why = Unexpected;
  rest = h.0;
  stops = exact.stops_unexpected (tokens_read lexed.tokens) h.0 h.1;
  is_flaw = some_is (flaw flaw_kind.Unexpected spot) w is ∙ ap (flaw flaw_kind.Unexpected) h.2;
}
stopped_by lexed w (parse.Deep spot) is h = record {
  why = Deep;
  rest = h.0;
  stops = exact.stops_deep (tokens_read lexed.tokens) h.0 h.1;
  is_flaw = some_is (flaw flaw_kind.Deep spot) w is ∙ ap (flaw flaw_kind.Deep) h.2;
}

stopped : (lexed : Lexed) (w : Flaw) → BreaksGrammar lexed w → Stopped lexed w
stopped lexed w h = stopped_by lexed w h.fault h.is_flaw h.explained

stop_got : (o : Out Token File) (why : Fault) (rest : List Token) (file : File) → o ≡ Stop why rest → o ≡ Got file [] → ⊥
stop_got o why rest file p q = let z : Stop why rest ≡ Got file [] = sym p ∙ q in cc

grammar_read : (lexed : Lexed) (w : Flaw) (file : File) → BreaksGrammar lexed w → IsFile lexed file → ⊥
grammar_read lexed w file h is =
    let s = stopped lexed w h in
    stop_got (read_all lexed) s.why s.rest file s.stops (is_got lexed file is)

grammar_once : (lexed : Lexed) (a b : Flaw) → BreaksGrammar lexed a → BreaksGrammar lexed b → a ≡ b
grammar_once lexed a b p q =
    let s = stopped lexed a p in
    let r = stopped lexed b q in
    s.is_flaw ∙ ap (flaw_from lexed a) (sym s.stops ∙ r.stops) ∙ sym r.is_flaw

-- ---- one flaw

tokens_once : (text : List ℕ) (a b : Flaw) → HasBadToken text a → HasBadToken text b → a ≡ b
tokens_once text a b p q =
    same_some (token_flaw q.fault) a b (sym (ap token_flaw (fault_once text p.fault q.fault p.first q.first)) ∙ p.is_flaw) q.is_flaw

grammars_once : (text : List ℕ) (a b : Flaw) → HasBadGrammar text a → HasBadGrammar text b → a ≡ b
grammars_once text a b p q =
    grammar_once q.lexed a b (subst (λ lexed. BreaksGrammar lexed a) (lexes_once text p.lexed q.lexed p.lexes q.lexes) p.breaks) q.breaks

one_file : (text : List ℕ) (x y : Lexed) (a b : File) → Lexes text x → Lexes text y → IsFile x a → IsFile y b → a ≡ b
one_file text x y a b p q h k =
    let moved : IsFile y a = subst (λ lexed. IsFile lexed a) (lexes_once text x y p q) h in
    same_got (read_all y) a b (is_got y a moved) (is_got y b k)

names_once : (text : List ℕ) (a b : Flaw) → HasBadName text a → HasBadName text b → a ≡ b
names_once text a b p q =
    let file : p.file ≡ q.file = one_file text p.lexed q.lexed p.file q.file p.lexes q.lexes p.read q.read in
    let told : noted_all None (faults_of (spot_behind text) q.file) ≡ Some p.breaks.fault =
    sym (ap (λ z. noted_all None (faults_of (spot_behind text) z)) file) ∙ p.breaks.told in
    p.breaks.is_flaw
    ∙ ap name_flaw (same_some (noted_all None (faults_of (spot_behind text) q.file)) p.breaks.fault q.breaks.fault told q.breaks.told)
    ∙ sym q.breaks.is_flaw

token_lexes : (text : List ℕ) (a : Flaw) (lexed : Lexed) → HasBadToken text a → Lexes text lexed → ⊥
token_lexes text a lexed p q = no_fault_lexes text lexed p.fault q p.first

grammar_names : (text : List ℕ) (a : Flaw) (lexed : Lexed) (file : File) → HasBadGrammar text a → Lexes text lexed → IsFile lexed file → ⊥
grammar_names text a lexed file p q h =
    grammar_read lexed a file (subst (λ z. BreaksGrammar z a) (lexes_once text p.lexed lexed p.lexes q) p.breaks) h

pub one_flaw : (text : List ℕ) (a b : Flaw) → IsFlawed text a → IsFlawed text b → a ≡ b
one_flaw text a b (inl p) (inl q) = tokens_once text a b p q
one_flaw text a b (inl p) (inr (inl q)) = absurd (token_lexes text a q.lexed p q.lexes)
one_flaw text a b (inl p) (inr (inr q)) = absurd (token_lexes text a q.lexed p q.lexes)
one_flaw text a b (inr (inl p)) (inl q) = absurd (token_lexes text b p.lexed q p.lexes)
one_flaw text a b (inr (inl p)) (inr (inl q)) = grammars_once text a b p q
one_flaw text a b (inr (inl p)) (inr (inr q)) = absurd (grammar_names text a q.lexed q.file p q.lexes q.read)
one_flaw text a b (inr (inr p)) (inl q) = absurd (token_lexes text b p.lexed q p.lexes)
one_flaw text a b (inr (inr p)) (inr (inl q)) = absurd (grammar_names text b p.lexed p.file q p.lexes p.read)
one_flaw text a b (inr (inr p)) (inr (inr q)) = names_once text a b p q

-- ---- one source, and no flaw of it

some_fault : (faults : List f.Fault) (fault : f.Fault) → faults ≡ [] → noted_all None faults ≡ Some fault → ⊥
some_fault faults fault none told = none_some fault (sym (ap (noted_all None) none) ∙ told)

faultless_names : (text : List ℕ) (a : Flaw) → HasBadName text a → Accepts text → ⊥
faultless_names text a p q =
    let file : p.file ≡ q.file = one_file text p.lexed q.lexed p.file q.file p.lexes q.lexes p.read q.read in
    some_fault (faults_of (spot_behind text) p.file) p.breaks.fault (ap (faults_of (spot_behind text)) file ∙ q.faultless) p.breaks.told

-- what is read has no flaw
pub no_flaw : (text : List ℕ) (source : SourceTree) (a : Flaw) → Reads text source → IsFlawed text a → ⊥
no_flaw text source a r (inl p) = token_lexes text a r.accepted.lexed p r.accepted.lexes
no_flaw text source a r (inr (inl p)) = grammar_names text a r.accepted.lexed r.accepted.file p r.accepted.lexes r.accepted.read
no_flaw text source a r (inr (inr p)) = faultless_names text a p r.accepted

pub one_reading : (text : List ℕ) (a b : SourceTree) → Reads text a → Reads text b → a ≡ b
one_reading text a b p q =
    p.is_source
    ∙ ap source_of (one_file text p.accepted.lexed q.accepted.lexed p.accepted.file q.accepted.file p.accepted.lexes q.accepted.lexes p.accepted.read q.accepted.read)
    ∙ sym q.is_source

-- ---- the answer is fixed

abbrev Answer : Type 0
Answer = Result SourceTree ReadFault

pub reads_so : (text : List ℕ) (result : Answer) → IfOk result (Reads text) → IfErr result (FailsBy (IsFlawed text))
    → (source : SourceTree) → Reads text source → (result ≡ Ok source) ⊎ (result ≡ Err NoMemory)
reads_so text (Ok found) read flawed source h = inl (ap (λ z. Ok z) (one_reading text found source read h))
reads_so text (Err NoMemory) read flawed source h = inr refl
reads_so text (Err (Flawed a)) read flawed source h = absurd (no_flaw text source a h flawed)

pub tells_so : (text : List ℕ) (result : Answer) → IfOk result (Reads text) → IfErr result (FailsBy (IsFlawed text))
    → (a : Flaw) → IsFlawed text a → (result ≡ Err (Flawed a)) ⊎ (result ≡ Err NoMemory)
tells_so text (Ok found) read flawed a h = absurd (no_flaw text found a read h)
tells_so text (Err NoMemory) read flawed a h = inr refl
tells_so text (Err (Flawed b)) read flawed a h = inl (ap (λ z. Err (Flawed z)) (one_flaw text b a flawed h))
