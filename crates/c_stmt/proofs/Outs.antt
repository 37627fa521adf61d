-- Laws of what readers answer: a value or a fault goes through what is done with it.
use Rattle.std.proofs.Common.{◌≡◌, Bool, true, false, List, refl, ap, ◌∙◌, inl, inr, ◌⊎◌}
use Rattle.c_reading.specs.Reader.{Out, Got, Stop, next, seq, seq_dep, map_out, mapped, begins, either, alt}

pub map_map : {T A B C : Type 0} (f : B → C) (g : A → B) (o : Out T A) → map_out f (map_out g o) ≡ map_out (λ x. f (g x)) o
map_map f g (Got a r) = refl
map_map f g (Stop e r) = refl

pub next_same : {T A B : Type 0} (o : Out T A) (f g : A → List T → Out T B) → ((a : A) (r : List T) → f a r ≡ g a r) → next o f ≡ next o g
next_same (Got a r) f g h = h a r
next_same (Stop e r) f g h = refl

pub either_same : {T A : Type 0} (b : Bool) (o o2 p p2 : Out T A) → o ≡ o2 → p ≡ p2 → either b o p ≡ either b o2 p2
either_same true o o2 p p2 e h = e
either_same false o o2 p p2 e h = h

pair_same : {T A B C : Type 0} (f : A × B → C) (a : A) (o : Out T B) → map_out f (next o (λ b s. Got (a, b) s)) ≡ map_out (λ b. f (a, b)) o
pair_same f a (Got b s) = refl
pair_same f a (Stop e s) = refl

pub seq_is : {T A B C : Type 0} (f : A × B → C) (p : List T → Out T A) (q : List T → Out T B) (ts : List T) → map_out f (seq p q ts) ≡ next (p ts) (λ a r. map_out (λ b. f (a, b)) (q r))
seq_is {T} {A} {B} f p q ts = at (p ts)
  where
    at : (o : Out T A) → map_out f (next {B = A × B} o (λ a r. next (q r) (λ b s. Got (a, b) s))) ≡ next o (λ a r. map_out (λ b. f (a, b)) (q r))
    at (Got a r) = pair_same f a (q r)
    at (Stop e r) = refl

pub dep_is : {T A B C : Type 0} (f : A × B → C) (p : List T → Out T A) (q : A → List T → Out T B) (ts : List T) → map_out f (seq_dep p q ts) ≡ next (p ts) (λ a r. map_out (λ b. f (a, b)) (q a r))
dep_is {T} {A} {B} f p q ts = at (p ts)
  where
    at : (o : Out T A) → map_out f (next {B = A × B} o (λ a r. next (q a r) (λ b s. Got (a, b) s))) ≡ next o (λ a r. map_out (λ b. f (a, b)) (q a r))
    at (Got a r) = pair_same f a (q a r)
    at (Stop e r) = refl

pub alt_is : {T A B C : Type 0} (f : A ⊎ B → C) (b : T → Bool) (p : List T → Out T A) (q : List T → Out T B) (ts : List T)
    → map_out f (alt b p q ts) ≡ either (begins b ts) (map_out (λ x. f (inl x)) (p ts)) (map_out (λ y. f (inr y)) (q ts))
alt_is {T} {A} {B} {C} f b p q ts = at (begins b ts)
  where
    at : (v : Bool) → map_out f (either v (map_out {B = A ⊎ B} inl (p ts)) (map_out inr (q ts))) ≡ either v (map_out (λ x. f (inl x)) (p ts)) (map_out (λ y. f (inr y)) (q ts))
    at true = map_map f inl (p ts)
    at false = map_map f inr (q ts)

first_same : {T A B C D : Type 0} (f : B × C → D) (g : A → B) (a : A) (o : Out T C) → map_out f (next o (λ b s. Got (g a, b) s)) ≡ map_out (λ (x : A × C). f (g x.0, x.1)) (next o (λ b s. Got (a, b) s))
first_same f g a (Got b s) = refl
first_same f g a (Stop e s) = refl

pub seq_mapped : {T A B C D : Type 0} (f : B × C → D) (g : A → B) (p : List T → Out T A) (q : List T → Out T C) (ts : List T)
    → map_out f (seq (mapped g p) q ts) ≡ map_out (λ (x : A × C). f (g x.0, x.1)) (seq p q ts)
seq_mapped {T} {A} {B} {C} f g p q ts = at (p ts)
  where
    at : (o : Out T A) → map_out f (next {B = B × C} (map_out g o) (λ b r. next (q r) (λ x s. Got (b, x) s))) ≡ map_out (λ (x : A × C). f (g x.0, x.1)) (next {B = A × C} o (λ a r. next (q r) (λ x s. Got (a, x) s)))
    at (Got a r) = first_same f g a (q r)
    at (Stop e r) = refl

got_same : {T B : Type 0} (a b : B) (r : List T) → a ≡ b → Got a r ≡ Got b r
got_same {T} {B} a b r e = ap (λ (x : B). Got x r) e

pub map_same : {T A B : Type 0} (f g : A → B) (o : Out T A) → ((a : A) → f a ≡ g a) → map_out f o ≡ map_out g o
map_same f g (Got a r) h = got_same (f a) (g a) r (h a)
map_same f g (Stop e r) h = refl

pub next_map : {T A B C : Type 0} (g : A → B) (o : Out T A) (k : B → List T → Out T C) → next (map_out g o) k ≡ next o (λ a r. k (g a) r)
next_map g (Got a r) k = refl
next_map g (Stop e r) k = refl

pub next_next : {T A B C : Type 0} (o : Out T A) (f : A → List T → Out T B) (k : B → List T → Out T C) → next (next o f) k ≡ next o (λ a r. next (f a r) k)
next_next (Got a r) f k = refl
next_next (Stop e r) f k = refl

pub map_next : {T A B C : Type 0} (g : B → C) (o : Out T A) (f : A → List T → Out T B) → map_out g (next o f) ≡ next o (λ a r. map_out g (f a r))
map_next g (Got a r) f = refl
map_next g (Stop e r) f = refl

seq_last : {T A B C D : Type 0} (f : A × (B × C) → D) (a : A) (b : B) (o : Out T C)
    → map_out f (next {B = A × (B × C)} (next {B = B × C} o (λ c s. Got (b, c) s)) (λ y s. Got (a, y) s)) ≡ map_out (λ (x : (A × B) × C). f (x.0.0, (x.0.1, x.1))) (next {B = (A × B) × C} o (λ c s. Got ((a, b), c) s))
seq_last f a b (Got c s) = refl
seq_last f a b (Stop e s) = refl

seq_behind : {T A B C D : Type 0} (f : A × (B × C) → D) (a : A) (o : Out T B) (t : List T → Out T C)
    → map_out f (next {B = A × (B × C)} (next {B = B × C} o (λ b r. next (t r) (λ c s. Got (b, c) s))) (λ y s. Got (a, y) s))
    ≡ map_out (λ (x : (A × B) × C). f (x.0.0, (x.0.1, x.1))) (next {B = (A × B) × C} (next {B = A × B} o (λ b s. Got (a, b) s)) (λ x r. next (t r) (λ c s. Got (x, c) s)))
seq_behind f a (Got b r) t = seq_last f a b (t r)
seq_behind f a (Stop e r) t = refl

-- readers in a row, those before the last taken together
seq_assoc : {T A B C D : Type 0} (f : A × (B × C) → D) (p : List T → Out T A) (q : List T → Out T B) (t : List T → Out T C) (ts : List T)
    → map_out f (seq p (seq q t) ts) ≡ map_out (λ (x : (A × B) × C). f (x.0.0, (x.0.1, x.1))) (seq (seq p q) t ts)
seq_assoc {T} {A} {B} {C} f p q t ts = at (p ts)
  where
    at : (o : Out T A) → map_out f (next {B = A × (B × C)} o (λ a r. next (seq q t r) (λ y s. Got (a, y) s)))
        ≡ map_out (λ (x : (A × B) × C). f (x.0.0, (x.0.1, x.1))) (next {B = (A × B) × C} (next {B = A × B} o (λ a r. next (q r) (λ b s. Got (a, b) s))) (λ x r. next (t r) (λ c s. Got (x, c) s)))
    at (Got a r) = seq_behind f a (q r) t
    at (Stop e r) = refl

pub three_then : {T A B C D E : Type 0} (f : A × (B × (C × D)) → E) (p : List T → Out T A) (q : List T → Out T B) (r : List T → Out T C) (t : List T → Out T D) (ts : List T)
    → map_out f (seq p (seq q (seq r t)) ts) ≡ map_out (λ (x : ((A × B) × C) × D). f (x.0.0.0, (x.0.0.1, (x.0.1, x.1)))) (seq (seq (seq p q) r) t ts)
three_then {T} {A} {B} {C} {D} f p q r t ts = seq_assoc f p q (seq r t) ts ∙ seq_assoc (λ (x : (A × B) × (C × D)). f (x.0.0, (x.0.1, x.1))) (seq p q) r t ts

pub four_then : {T A B C D E F : Type 0} (f : A × (B × (C × (D × E))) → F) (p : List T → Out T A) (q : List T → Out T B) (r : List T → Out T C) (s : List T → Out T D) (t : List T → Out T E) (ts : List T)
    → map_out f (seq p (seq q (seq r (seq s t))) ts) ≡ map_out (λ (x : (((A × B) × C) × D) × E). f (x.0.0.0.0, (x.0.0.0.1, (x.0.0.1, (x.0.1, x.1))))) (seq (seq (seq (seq p q) r) s) t ts)
four_then {T} {A} {B} {C} {D} {E} f p q r s t ts = three_then f p q r (seq s t) ts ∙ seq_assoc (λ (x : ((A × B) × C) × (D × E)). f (x.0.0.0, (x.0.0.1, (x.0.1, x.1)))) (seq (seq p q) r) s t ts
