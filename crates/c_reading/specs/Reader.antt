-- Readers on lists of tokens, and the languages that they read, whatever a token is.
use Rattle.std.specs.Prelude.{ℕ, zero, suc, ltb, Bool, true, false, List, [], ◌∷◌, ◌++◌, ◌-◌, Option, Some, None, ◌⊎◌, cond}
use Rattle.std.proofs.Common.{inl, inr}
use Rattle.c_grammar.specs.Marks.{head, tokens}

pub data Fault : Type 0 where
  Unexpected : Fault
  Deep : Fault

-- what a reader answers: a value and the tokens after it, or a fault and the tokens from the faulty one on
pub data Out (T A : Type 0) : Type 0 where
  Got : A → List T → Out T A
  Stop : Fault → List T → Out T A

abbrev pub next : {T A B : Type 0} → Out T A → (A → List T → Out T B) → Out T B
next (Got a r) f = f a r
next (Stop e r) f = Stop e r

-- those from the first one on that is deeper than the limit
abbrev pub first_deep : {T : Type 0} → ℕ → List (T × ℕ) → Option (List T)
first_deep limit [] = None
first_deep limit (m ∷ ms) = cond (ltb limit m.1) (Some (m.0 ∷ tokens ms)) (first_deep limit ms)

-- A language: the tokens of each value with their depths, which values are in it, and
-- which tokens may follow a value so that it is not read further.
pub record Lang (T A : Type 0) : Type 0 where
  pub marks : A → List (T × ℕ)
  pub good : A → Bool
  pub stops : A → Option T → Bool

abbrev pub toks : {T A : Type 0} → Lang T A → A → List T
toks l a = tokens (l.marks a)

abbrev pub deep : {T A : Type 0} → ℕ → Lang T A → A → Option (List T)
deep limit l a = first_deep limit (l.marks a)

-- what a reader must answer at a value and the tokens after it
abbrev pub outcome : {T A : Type 0} → A → Option (List T) → List T → Out T A
outcome a None rest = Got a rest
outcome a (Some s) rest = Stop Deep (s ++ rest)

abbrev pub both_deep : {T : Type 0} → Option (List T) → List T → Option (List T) → Option (List T)
both_deep (Some s) more d = Some (s ++ more)
both_deep None more d = d

-- ---- the readers

abbrev pub one_at : {T A : Type 0} → Option A → T → List T → Out T A
one_at None x ts = Stop Unexpected (x ∷ ts)
one_at (Some a) x ts = Got a ts

-- a token with what it carries
abbrev pub one_of : {T A : Type 0} → (T → Option A) → List T → Out T A
one_of by [] = Stop Unexpected []
one_of by (x ∷ ts) = one_at (by x) x ts

-- one after the other
abbrev pub seq : {T A B : Type 0} → (List T → Out T A) → (List T → Out T B) → List T → Out T (A × B)
seq p q ts = next (p ts) (λ a r. next (q r) (λ b s. Got (a, b) s))

-- one after the other, where the second reader depends on what the first read
abbrev pub seq_dep : {T A B : Type 0} → (List T → Out T A) → (A → List T → Out T B) → List T → Out T (A × B)
seq_dep p q ts = next (p ts) (λ a r. next (q a r) (λ b s. Got (a, b) s))

abbrev pub map_out : {T A B : Type 0} → (A → B) → Out T A → Out T B
map_out f (Got a r) = Got (f a) r
map_out f (Stop e r) = Stop e r

abbrev pub mapped : {T A B : Type 0} → (A → B) → (List T → Out T A) → List T → Out T B
mapped f p ts = map_out f (p ts)

abbrev pub holds : {T : Type 0} → (T → Bool) → Option T → Bool
holds b None = false
holds b (Some x) = b x

-- whether the list begins with a token of this kind
abbrev pub begins : {T : Type 0} → (T → Bool) → List T → Bool
begins b ts = holds b (head ts)

abbrev pub either : {T A : Type 0} → Bool → Out T A → Out T A → Out T A
either true p q = p
either false p q = q

-- nothing of this kind: it would be too deep
abbrev pub shut : {T A : Type 0} → (T → Bool) → List T → Out T A
shut b ts = Stop (cond (begins b ts) Deep Unexpected) ts

abbrev pub nothing : {T : Type 0} → List T → Out T (Unit {0})
nothing ts = Got tt ts

-- the first where a token of this kind is next, and else the second
abbrev pub alt : {T A C : Type 0} → (T → Bool) → (List T → Out T A) → (List T → Out T C) → List T → Out T (A ⊎ C)
alt b p q ts = either (begins b ts) (map_out inl (p ts)) (map_out inr (q ts))

abbrev pub option_from : {A : Type 0} → A ⊎ Unit {0} → Option A
option_from (inl a) = Some a
option_from (inr u) = None

-- a part that may be absent
abbrev pub maybe_read : {T A : Type 0} → (T → Bool) → (List T → Out T A) → List T → Out T (Option A)
maybe_read b p = mapped option_from (alt b p nothing)

-- a list from its first item and the rest of it
abbrev pub glue : {A : Type 0} → (A × List A) ⊎ Unit {0} → List A
glue (inl x) = x.0 ∷ x.1
glue (inr u) = []

abbrev pub size : {T : Type 0} → List T → ℕ
size [] = zero
size (x ∷ ts) = suc (size ts)

-- items while one begins; the fuel is no less than the number of tokens
abbrev pub many_by : {T A : Type 0} → ℕ → (T → Bool) → (List T → Out T A) → List T → Out T (List A)
many_by zero b p ts = Got [] ts
many_by (suc fuel) b p ts = map_out glue (alt b (seq p (many_by fuel b p)) nothing ts)

-- items while one begins
abbrev pub many : {T A : Type 0} → (T → Bool) → (List T → Out T A) → List T → Out T (List A)
many b p ts = many_by (size ts) b p ts

-- Items while one begins, which share a budget: an item costs 1 and more, which is gone for those
-- behind it. The fuel is no less than the budget.
abbrev pub chain : {T A : Type 0} → (A → ℕ) → (fuel budget : ℕ) → (T → Bool) → (ℕ → List T → Out T A) → List T → Out T (List A)
chain more zero n b p = mapped glue (alt b (shut b) nothing)
chain more (suc fuel) n b p = mapped glue (alt b (seq_dep (p n) (λ a. chain more fuel (n - suc (more a)) b p)) nothing)

-- all of the tokens
abbrev pub ended : {T A : Type 0} → Out T A → Out T A
ended (Got a []) = Got a []
ended (Got a (x ∷ r)) = Stop Unexpected (x ∷ r)
ended (Stop f r) = Stop f r

abbrev pub whole : {T A : Type 0} → (List T → Out T A) → List T → Out T A
whole p ts = ended (p ts)
