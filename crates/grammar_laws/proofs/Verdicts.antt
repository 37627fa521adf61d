-- The verdict on a list of tokens is what reading it answers.
use Rattle.std.proofs.Common.{◌≡◌, ℕ, List, refl, sym, ap, ◌∙◌}
use Rattle.c_grammar.specs.Token.{Token}
use Rattle.c_grammar.specs.File.{File}
use Rattle.c_reading.specs.Reader.{Unexpected, Deep, Out, Got, Stop}
use Rattle.c_reading.specs.ReadFile.{read_file}
use Rattle.c_reading.proofs.ReadFile.{file_reads_exactly}
use Rattle.grammar_laws.specs.Verdicts.{HasVerdict}

pub is_verdict : (limit : ℕ) (ts : List Token) → HasVerdict limit ts (read_file limit ts)
is_verdict limit ts = of (read_file limit ts) refl
  where
    of : (out : Out Token File) → read_file limit ts ≡ out → HasVerdict limit ts out
    of (Got file rest) e = (file_reads_exactly limit).found ts file rest e
    of (Stop Unexpected rest) e = (file_reads_exactly limit).unexpected ts rest e
    of (Stop Deep rest) e = (file_reads_exactly limit).deep ts rest e

is_answer : (limit : ℕ) (ts : List Token) (out : Out Token File) → HasVerdict limit ts out → read_file limit ts ≡ out
is_answer limit ts (Got file rest) h = (file_reads_exactly limit).finds ts file h.1 ∙ ap (λ (z : List Token). Got file z) (sym h.0)
is_answer limit ts (Stop Unexpected rest) h = (file_reads_exactly limit).stops_unexpected ts rest h
is_answer limit ts (Stop Deep rest) h = (file_reads_exactly limit).stops_deep ts rest h

pub one_verdict : (limit : ℕ) (ts : List Token) (a b : Out Token File) → HasVerdict limit ts a → HasVerdict limit ts b → a ≡ b
one_verdict limit ts a b p q = sym (is_answer limit ts a p) ∙ is_answer limit ts b q
