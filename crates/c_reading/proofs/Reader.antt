-- What each reader keeps, and that the ways to put readers together keep it.
use Rattle.std.proofs.Common.{◌≡◌, ℕ, ltb, ◌≤◌, Bool, true, false, ◌&&◌, List, [], ◌∷◌, ◌++◌, Option, Some, None, refl, sym, ap, subst, ◌∙◌, append_assoc, arith, inl, inr, ◌⊎◌, cond}
use Rattle.std.proofs.lemmas.Bool.{and_from, and_parts, le-ltb}
use Rattle.c_reading.specs.Reader.{Fault, Unexpected, Deep, Out, Got, Stop, next, first_deep, Lang, toks, deep, outcome, both_deep, one_at, one_of, seq, seq_dep, map_out, mapped, holds, begins, either, shut, nothing, alt, size, option_from, maybe_read}
use Rattle.c_grammar.specs.Marks.{first, head, tokens, Agree, maybe}

-- a value was read
pub record Reads {T A : Type 0} (limit : ℕ) (l : Lang T A) (p : List T → Out T A) (ts : List T) (a : A) (rest : List T) : Type 0 where
  pub whole : ts ≡ toks l a ++ rest
  pub good : l.good a ≡ true
  pub level : deep limit l a ≡ None
  pub again : (rest' : List T) → head rest' ≡ head rest → p (toks l a ++ rest') ≡ Got a rest'

abbrev pub IsAt : {T : Type 0} → Fault → List T → List T → Type 0
IsAt Unexpected rest suffix = Unit {0}
IsAt {T} Deep rest suffix = (x : T) × (head rest ≡ Some x) × (head suffix ≡ Some x)

-- Reading stopped: the tokens before the fault go on to a whole value, and the fault is the same whatever follows it.
pub record Faults {T A : Type 0} (l : Lang T A) (p : List T → Out T A) (ts : List T) (f : Fault) (rest : List T) : Type 0 where
  pub seen : List T
  pub parts : ts ≡ seen ++ rest
  pub same : (rest' : List T) → head rest' ≡ head rest → p (seen ++ rest') ≡ Stop f rest'
  pub value : A
  pub suffix : List T
  pub whole : toks l value ≡ seen ++ suffix
  pub good : l.good value ≡ true
  pub place : IsAt f rest suffix

pub record IsReader {T A : Type 0} (limit : ℕ) (l : Lang T A) (p : List T → Out T A) : Type 0 where
  pub sound : (ts : List T) (a : A) (rest : List T) → p ts ≡ Got a rest → Reads limit l p ts a rest
  pub complete : (a : A) (rest : List T) → l.good a ≡ true → l.stops a (head rest) ≡ true → p (toks l a ++ rest) ≡ outcome a (deep limit l a) rest
  pub fault : (ts : List T) (f : Fault) (rest : List T) → p ts ≡ Stop f rest → Faults l p ts f rest
  -- the tokens up to a token fix its depth
  pub fixed : (a b : A) (h k : Option T) → l.good a ≡ true → l.good b ≡ true → l.stops a h ≡ true → l.stops b k ≡ true → deep limit l a ≡ None → deep limit l b ≡ None → Agree (l.marks a) (l.marks b)

-- ---- tools

pub Got-inj : {T A : Type 0} (a b : A) (r s : List T) → Got a r ≡ Got b s → (a ≡ b) × (r ≡ s)
Got-inj a b r s e = (cc, cc)

pub head-append : {T : Type 0} (xs ys zs : List T) → head ys ≡ head zs → head (xs ++ ys) ≡ head (xs ++ zs)
head-append [] ys zs e = e
head-append (x ∷ xs) ys zs e = refl

pub head-grow : {T : Type 0} (xs ys : List T) (x : T) → head xs ≡ Some x → head (xs ++ ys) ≡ Some x
head-grow [] ys x e = absurd cc
head-grow (y ∷ xs) ys x e = e

pub IsAt-grow : {T : Type 0} (f : Fault) (rest suffix more : List T) → IsAt f rest suffix → IsAt f rest (suffix ++ more)
IsAt-grow Unexpected rest suffix more h = tt
IsAt-grow Deep rest suffix more h = (h.0, h.1, head-grow suffix more h.0 h.2)

-- a step of a chain that ended well
pub next_got : {T A B : Type 0} (o : Out T A) (f : A → List T → Out T B) (b : B) (s : List T) → next o f ≡ Got b s → (a : A) × (r : List T) × (o ≡ Got a r) × (f a r ≡ Got b s)
next_got (Got a r) f b s e = (a, r, refl, e)
next_got (Stop x r) f b s e = absurd cc

-- a chain that stopped: in the first step, or after it
pub next_stop : {T A B : Type 0} (o : Out T A) (f : A → List T → Out T B) (x : Fault) (s : List T) → next o f ≡ Stop x s → (o ≡ Stop x s) ⊎ ((a : A) × (r : List T) × (o ≡ Got a r) × (f a r ≡ Stop x s))
next_stop (Got a r) f x s e = inr (a, r, refl, e)
next_stop (Stop y r) f x s e = inl cc

pub first-append : {T : Type 0} (xs ys : List T) → head (xs ++ ys) ≡ first xs (head ys)
first-append [] ys = refl
first-append (x ∷ xs) ys = refl

pub first-append_or : {T : Type 0} (xs ys : List T) (h : Option T) → first (xs ++ ys) h ≡ first xs (first ys h)
first-append_or [] ys h = refl
first-append_or (x ∷ xs) ys h = refl

pub tokens-append : {T : Type 0} (xs ys : List (T × ℕ)) → tokens (xs ++ ys) ≡ tokens xs ++ tokens ys
tokens-append [] ys = refl
tokens-append {T} (m ∷ xs) ys = ap (λ (z : List T). m.0 ∷ z) (tokens-append xs ys)

deep_step : {T : Type 0} (v : Bool) (x : T) (xs ys : List (T × ℕ)) (dx dy dxy : Option (List T)) → dxy ≡ both_deep dx (tokens ys) dy
    → cond v (Some (x ∷ tokens (xs ++ ys))) dxy ≡ both_deep (cond v (Some (x ∷ tokens xs)) dx) (tokens ys) dy
deep_step {T} true x xs ys dx dy dxy e = ap (λ (z : List T). Some (x ∷ z)) (tokens-append xs ys)
deep_step false x xs ys dx dy dxy e = e

pub deep-append : {T : Type 0} (limit : ℕ) (xs ys : List (T × ℕ)) → first_deep limit (xs ++ ys) ≡ both_deep (first_deep limit xs) (tokens ys) (first_deep limit ys)
deep-append limit [] ys = refl
deep-append limit (m ∷ xs) ys = deep_step (ltb limit m.1) m.0 xs ys (first_deep limit xs) (first_deep limit ys) (first_deep limit (xs ++ ys)) (deep-append limit xs ys)

pub size_behind : {T : Type 0} (xs r : List T) → size r ≤ size (xs ++ r)
size_behind [] r = omega arith
size_behind (x ∷ xs) r = let h = size_behind xs r in omega (arith, h)

-- ---- lists that agree

pub agree_nil : {T : Type 0} (xs : List (T × ℕ)) → Agree xs []
agree_nil [] = tt
agree_nil (x ∷ xs) = tt

-- the list does not begin with this token
abbrev Apart : {T : Type 0} → List (T × ℕ) → T → Type 0
Apart [] y = Unit {0}
Apart (u ∷ us) y = u.0 ≡ y → ⊥

apart_left : {T : Type 0} (us : List (T × ℕ)) (y : T × ℕ) (ys : List (T × ℕ)) → Apart us y.0 → Agree us (y ∷ ys)
apart_left [] y ys h = tt
apart_left (u ∷ us) y ys h = λ e. absurd (h e)

apart_right : {T : Type 0} (vs : List (T × ℕ)) (x : T × ℕ) (xs : List (T × ℕ)) → Apart vs x.0 → Agree (x ∷ xs) vs
apart_right [] x xs h = tt
apart_right (v ∷ vs) x xs h = λ e. absurd (h (sym e))

cons_same : {T : Type 0} (x y : T) (xs ys : List T) → x ≡ y → xs ≡ ys → x ∷ xs ≡ y ∷ ys
cons_same x y xs ys e k = cc

agree_walk : {T : Type 0} (xs ys us vs : List (T × ℕ)) → Agree xs ys → (tokens xs ≡ tokens ys → Agree us vs)
    → ((y : T) (zs : List T) → tokens ys ≡ tokens xs ++ y ∷ zs → Apart us y) → ((x : T) (zs : List T) → tokens xs ≡ tokens ys ++ x ∷ zs → Apart vs x) → Agree (xs ++ us) (ys ++ vs)
agree_walk [] [] us vs ag both left right = both refl
agree_walk [] (y ∷ ys) us vs ag both left right = apart_left us y (ys ++ vs) (left y.0 (tokens ys) refl)
agree_walk (x ∷ xs) [] us vs ag both left right = apart_right vs x (xs ++ us) (right x.0 (tokens xs) refl)
agree_walk (x ∷ xs) (y ∷ ys) us vs ag both left right = λ e.
    let g = ag e in
    (g.0, agree_walk xs ys us vs g.1 (λ k. both (cons_same x.0 y.0 (tokens xs) (tokens ys) e k)) (λ z zs k. left z zs (cons_same y.0 x.0 (tokens ys) (tokens xs ++ z ∷ zs) (sym e) k)) (λ z zs k. right z zs (cons_same x.0 y.0 (tokens xs) (tokens ys ++ z ∷ zs) e k)))

grown : {T : Type 0} (x : T) (xs r : List T) → x ∷ (xs ++ r) ≡ r → ⊥
grown x xs r e = let h = ap size e in let k = size_behind xs r in omega (arith, h, k)

pub none_parts : {T : Type 0} (d e : Option (List T)) (ts : List T) → both_deep d ts e ≡ None → (d ≡ None) × (e ≡ None)
none_parts None e ts h = (refl, h)
none_parts (Some s) e ts h = absurd cc

abbrev option_list : {T : Type 0} → Option T → List T
option_list None = []
option_list (Some x) = x ∷ []

head_list : {T : Type 0} (h : Option T) → head (option_list h) ≡ h
head_list None = refl
head_list (Some x) = refl

module _ {T A : Type 0} (limit : ℕ) (l : Lang T A) (p : List T → Out T A) (rp : IsReader limit l p) where
  -- the value ends where a token follows that may follow it
  reads_back : (a : A) (h : Option T) (r : List T) → l.good a ≡ true → l.stops a h ≡ true → deep limit l a ≡ None → head r ≡ h → p (toks l a ++ r) ≡ Got a r
  reads_back a h r g st dn e = rp.complete a r g (ap (l.stops a) e ∙ st) ∙ rw dn refl

  -- no value with a token behind it begins another, with the same token next
  not_inside : (a a2 : A) (u : T) (zs : List T) (k : Option T) → l.good a ≡ true → l.good a2 ≡ true → l.stops a (Some u) ≡ true → l.stops a2 k ≡ true → deep limit l a ≡ None → deep limit l a2 ≡ None
      → toks l a2 ≡ toks l a ++ u ∷ zs → ⊥
  not_inside a a2 u zs k g g2 st st2 dn dn2 e =
      let r = option_list k in
      let e1 = reads_back a (Some u) (u ∷ (zs ++ r)) g st dn refl in
      let e2 = reads_back a2 k r g2 st2 dn2 (head_list k) in
      let i = Got-inj a a2 (u ∷ (zs ++ r)) r (sym e1 ∙ ap p (sym (ap (λ (z : List T). z ++ r) e ∙ append_assoc (toks l a) (u ∷ zs) r)) ∙ e2) in
      grown u zs r i.1

  apart_from : (a a2 : A) (us : List (T × ℕ)) (h k : Option T) → l.good a ≡ true → l.good a2 ≡ true → l.stops a (first (tokens us) h) ≡ true → l.stops a2 k ≡ true → deep limit l a ≡ None → deep limit l a2 ≡ None
      → (y : T) (zs : List T) → toks l a2 ≡ toks l a ++ y ∷ zs → Apart us y
  apart_from a a2 [] h k g g2 st st2 dn dn2 y zs e = tt
  apart_from a a2 (u ∷ us) h k g g2 st st2 dn dn2 y zs e = λ same. not_inside a a2 u.0 zs k g g2 st st2 dn dn2 (e ∙ ap (λ (z : T). toks l a ++ z ∷ zs) (sym same))

  both_agree : (a a2 : A) (us vs : List (T × ℕ)) (h k : Option T) → l.good a ≡ true → l.good a2 ≡ true → l.stops a (first (tokens us) h) ≡ true → l.stops a2 (first (tokens vs) k) ≡ true
      → deep limit l a ≡ None → deep limit l a2 ≡ None → (a ≡ a2 → Agree us vs) → toks l a ≡ toks l a2 → Agree us vs
  both_agree a a2 [] vs h k g g2 st st2 dn dn2 f e = tt
  both_agree a a2 (u ∷ us) [] h k g g2 st st2 dn dn2 f e = tt
  both_agree a a2 (u ∷ us) (v ∷ vs) h k g g2 st st2 dn dn2 f e = λ same.
      let e1 = reads_back a (Some u.0) (u.0 ∷ []) g st dn refl in
      let e2 = reads_back a2 (Some v.0) (v.0 ∷ []) g2 st2 dn2 refl in
      let i = Got-inj a a2 (u.0 ∷ []) (v.0 ∷ []) (sym e1 ∙ ap p (rw (e, same) refl) ∙ e2) in
      f i.0 same

  pub pair_agree : (a a2 : A) (us vs : List (T × ℕ)) (h k : Option T) → l.good a ≡ true → l.good a2 ≡ true → l.stops a (first (tokens us) h) ≡ true → l.stops a2 (first (tokens vs) k) ≡ true
      → deep limit l a ≡ None → deep limit l a2 ≡ None → (a ≡ a2 → Agree us vs) → Agree (l.marks a ++ us) (l.marks a2 ++ vs)
  pair_agree a a2 us vs h k g g2 st st2 dn dn2 f =
      agree_walk (l.marks a) (l.marks a2) us vs (rp.fixed a a2 (first (tokens us) h) (first (tokens vs) k) g g2 st st2 dn dn2)
      (both_agree a a2 us vs h k g g2 st st2 dn dn2 f)
      (apart_from a a2 us h (first (tokens vs) k) g g2 st st2 dn dn2)
      (apart_from a2 a vs k (first (tokens us) h) g2 g st2 st dn2 dn)

-- ---- one after the other

abbrev pub pair : {T A B : Type 0} → Lang T A → Lang T B → (A × B → Option T → Bool) → Lang T (A × B)
pair l m s = record { marks = λ x. l.marks x.0 ++ m.marks x.1; good = λ x. l.good x.0 && m.good x.1; stops = s }

abbrev pub pair_dep : {T A B : Type 0} → Lang T A → (A → Lang T B) → (A × B → Option T → Bool) → Lang T (A × B)
pair_dep l m s = record { marks = λ x. l.marks x.0 ++ (m x.0).marks x.1; good = λ x. l.good x.0 && (m x.0).good x.1; stops = s }

-- where the second part also decides whether the first is right
abbrev pub pair_fit : {T A B : Type 0} → Lang T A → Lang T B → (A → B → Bool) → (A × B → Option T → Bool) → Lang T (A × B)
pair_fit l m fit s = record { marks = λ x. l.marks x.0 ++ m.marks x.1; good = λ x. l.good x.0 && (m.good x.1 && fit x.0 x.1); stops = s }

module _ {T A B : Type 0} (limit : ℕ) (l : Lang T A) (m : A → Lang T B) (good : A × B → Bool) (s : A × B → Option T → Bool) (Fit : A → B → Type 0)
    (from : (a : A) (b : B) → l.good a ≡ true → (m a).good b ≡ true → Fit a b → good (a, b) ≡ true)
    (p : List T → Out T A) (q : A → List T → Out T B) where
  abbrev both : Lang T (A × B)
  both = record { marks = λ x. l.marks x.0 ++ (m x.0).marks x.1; good = good; stops = s }

  both_toks : (a : A) (b : B) → toks both (a, b) ≡ toks l a ++ toks (m a) b
  both_toks a b = tokens-append (l.marks a) ((m a).marks b)

  both_whole : (a : A) (b : B) (t : List T) → toks both (a, b) ++ t ≡ toks l a ++ (toks (m a) b ++ t)
  both_whole a b t = ap (λ (z : List T). z ++ t) (both_toks a b) ∙ append_assoc (toks l a) (toks (m a) b) t

  pub both_reads : (ts r t : List T) (a : A) (b : B) → Fit a b → Reads limit l p ts a r → Reads limit (m a) (q a) r b t → Reads limit both (seq_dep p q) ts (a, b) t
  both_reads ts r t a b fit x y = record {
    whole = x.whole ∙ ap (λ (z : List T). toks l a ++ z) y.whole ∙ sym (both_whole a b t);
    good = from a b x.good y.good fit;
    level = deep-append limit (l.marks a) ((m a).marks b) ∙ rw (x.level, y.level) refl;
    again = λ rest h. let e1 = x.again (toks (m a) b ++ rest) (head-append (toks (m a) b) rest t h ∙ sym (ap head y.whole)) in
        let e2 = y.again rest h in rw (both_whole a b rest, e1, e2) refl;
  }

  pub both_faults_second : (ts r t : List T) (a : A) (f : Fault) → Reads limit l p ts a r → (y : Faults (m a) (q a) r f t) → Fit a y.value → Faults both (seq_dep p q) ts f t
  both_faults_second ts r t a f x y fit = record {
    seen = toks l a ++ y.seen;
    parts = x.whole ∙ ap (λ (z : List T). toks l a ++ z) y.parts ∙ sym (append_assoc (toks l a) y.seen t);
    same = λ rest h. let e1 = x.again (y.seen ++ rest) (head-append y.seen rest t h ∙ sym (ap head y.parts)) in
        let e2 = y.same rest h in rw (append_assoc, e1, e2) refl;
    value = (a, y.value);
    suffix = y.suffix;
    whole = both_toks a y.value ∙ ap (λ (z : List T). toks l a ++ z) y.whole ∙ sym (append_assoc (toks l a) y.seen y.suffix);
    good = from a y.value x.good y.good fit;
    place = y.place;
  }

  pub both_faults_first : (b0 : A → B) (b0_good : (a : A) → (m a).good (b0 a) ≡ true) (b0_fit : (a : A) → Fit a (b0 a)) (ts t : List T) (f : Fault) → Faults l p ts f t → Faults both (seq_dep p q) ts f t
  both_faults_first b0 b0_good b0_fit ts t f x = record {
    seen = x.seen;
    parts = x.parts;
    same = λ rest h. let e1 = x.same rest h in rw e1 refl;
    value = (x.value, b0 x.value);
    suffix = x.suffix ++ toks (m x.value) (b0 x.value);
    whole = both_toks x.value (b0 x.value) ∙ ap (λ (z : List T). z ++ toks (m x.value) (b0 x.value)) x.whole ∙ append_assoc x.seen x.suffix (toks (m x.value) (b0 x.value));
    good = from x.value (b0 x.value) x.good (b0_good x.value) (b0_fit x.value);
    place = IsAt-grow f t x.suffix (toks (m x.value) (b0 x.value)) x.place;
  }

  both_outcome : (a : A) (b : B) (da db : Option (List T)) (tb rest : List T) (o : Out T A) → o ≡ outcome a da (tb ++ rest) → q a (tb ++ rest) ≡ outcome b db rest
      → next {B = A × B} o (λ a r. next (q a r) (λ b s. Got (a, b) s)) ≡ outcome (a, b) (both_deep da tb db) rest
  both_outcome a b None None tb rest o e1 e2 = rw (e1, e2) refl
  both_outcome a b None (Some s) tb rest o e1 e2 = rw (e1, e2) refl
  both_outcome a b (Some s) db tb rest o e1 e2 = rw (e1, append_assoc) refl

  -- the parts answer what they must, and so does the whole
  pub both_complete : (a : A) (b : B) (rest : List T) → p (toks l a ++ (toks (m a) b ++ rest)) ≡ outcome a (deep limit l a) (toks (m a) b ++ rest) → q a (toks (m a) b ++ rest) ≡ outcome b (deep limit (m a) b) rest
      → seq_dep p q (toks both (a, b) ++ rest) ≡ outcome (a, b) (deep limit both (a, b)) rest
  both_complete a b rest e1 e2 =
      ap (seq_dep p q) (both_whole a b rest)
      ∙ both_outcome a b (deep limit l a) (deep limit (m a) b) (toks (m a) b) rest (p (toks l a ++ (toks (m a) b ++ rest))) e1 e2
      ∙ ap (λ (z : Option (List T)). outcome (a, b) z rest) (sym (deep-append limit (l.marks a) ((m a).marks b)))

  module _ (parts : (a : A) (b : B) → good (a, b) ≡ true → (l.good a ≡ true) × ((m a).good b ≡ true) × Fit a b)
      (rp : IsReader limit l p) (rq : (a : A) → IsReader limit (m a) (q a))
      (fits : (a : A) (b : B) (h : Option T) → l.good a ≡ true → (m a).good b ≡ true → Fit a b → s (a, b) h ≡ true → (l.stops a (first (toks (m a) b) h) ≡ true) × ((m a).stops b h ≡ true))
      (fit_got : (ts r t : List T) (a : A) (b : B) → p ts ≡ Got a r → q a r ≡ Got b t → Fit a b)
      (fit_stop : (ts r t : List T) (a : A) (f : Fault) → p ts ≡ Got a r → (e : q a r ≡ Stop f t) → Fit a ((rq a).fault r f t e).value)
      (b0 : A → B) (b0_good : (a : A) → (m a).good (b0 a) ≡ true) (b0_fit : (a : A) → Fit a (b0 a)) where
    both_sound : (ts : List T) (x : A × B) (rest : List T) → seq_dep p q ts ≡ Got x rest → Reads limit both (seq_dep p q) ts x rest
    both_sound ts x rest e =
        let n1 = next_got (p ts) (λ a r. next (q a r) (λ b t. Got (a, b) t)) x rest e in
        let n2 = next_got (q n1.0 n1.1) (λ b t. Got (n1.0, b) t) x rest n1.3 in
        let i = Got-inj (n1.0, n2.0) x n2.1 rest n2.3 in
        let here = both_reads ts n1.1 n2.1 n1.0 n2.0 (fit_got ts n1.1 n2.1 n1.0 n2.0 n1.2 n2.2) (rp.sound ts n1.0 n1.1 n1.2) ((rq n1.0).sound n1.1 n2.0 n2.1 n2.2) in
        subst (λ (y : A × B). Reads limit both (seq_dep p q) ts y rest) i.0 (subst (λ (t : List T). Reads limit both (seq_dep p q) ts (n1.0, n2.0) t) i.1 here)

    both_fault : (ts : List T) (f : Fault) (rest : List T) → seq_dep p q ts ≡ Stop f rest → Faults both (seq_dep p q) ts f rest
    both_fault ts f rest e =
        elim (next_stop (p ts) (λ a r. next (q a r) (λ b t. Got (a, b) t)) f rest e) [
          | inl e1 ↦ both_faults_first b0 b0_good b0_fit ts rest f (rp.fault ts f rest e1)
          | inr n1 ↦ elim (next_stop (q n1.0 n1.1) (λ b t. Got (n1.0, b) t) f rest n1.3) [
            | inl e2 ↦ both_faults_second ts n1.1 rest n1.0 f (rp.sound ts n1.0 n1.1 n1.2) ((rq n1.0).fault n1.1 f rest e2) (fit_stop ts n1.1 rest n1.0 f n1.2 e2)
            | inr n2 ↦ absurd (let e3 = n2.3 in cc)
          ]
        ]

    both_completes : (x : A × B) (rest : List T) → good x ≡ true → s x (head rest) ≡ true → seq_dep p q (toks both x ++ rest) ≡ outcome x (deep limit both x) rest
    both_completes (a, b) rest g h =
        let gs = parts a b g in
        let st = fits a b (head rest) gs.0 gs.1 gs.2 h in
        both_complete a b rest (rp.complete a (toks (m a) b ++ rest) gs.0 (rw first-append st.0)) ((rq a).complete b rest gs.1 st.1)

    both_fixed : (x y : A × B) (h k : Option T) → good x ≡ true → good y ≡ true → s x h ≡ true → s y k ≡ true → deep limit both x ≡ None → deep limit both y ≡ None → Agree (both.marks x) (both.marks y)
    both_fixed (a, b) (a2, b2) h k g g2 st st2 dn dn2 =
        let gs = parts a b g in
        let gs2 = parts a2 b2 g2 in
        let f = fits a b h gs.0 gs.1 gs.2 st in
        let f2 = fits a2 b2 k gs2.0 gs2.1 gs2.2 st2 in
        let n = none_parts _ _ _ (sym (deep-append limit (l.marks a) ((m a).marks b)) ∙ dn) in
        let n2 = none_parts _ _ _ (sym (deep-append limit (l.marks a2) ((m a2).marks b2)) ∙ dn2) in
        pair_agree limit l p rp a a2 ((m a).marks b) ((m a2).marks b2) h k gs.0 gs2.0 f.0 f2.0 n.0 n2.0
        (λ e. second a2 e gs2.1 f2.1 n2.1 gs.1 f.1 n.1)
      where
        second : (c : A) → a ≡ c → (m c).good b2 ≡ true → (m c).stops b2 k ≡ true → deep limit (m c) b2 ≡ None → (m a).good b ≡ true → (m a).stops b h ≡ true → deep limit (m a) b ≡ None → Agree ((m a).marks b) ((m c).marks b2)
        second c e g2 s2 d2 g1 s1 d1 =
            subst (λ (z : A). (m z).good b2 ≡ true → (m z).stops b2 k ≡ true → deep limit (m z) b2 ≡ None → Agree ((m a).marks b) ((m z).marks b2)) e
            (λ g2 s2 d2. (rq a).fixed b b2 h k g1 g2 s1 s2 d1 d2) g2 s2 d2

    pub both_reader : IsReader limit both (seq_dep p q)
    both_reader = record { sound = both_sound; complete = both_completes; fault = both_fault; fixed = both_fixed }

-- where both parts stop, if the whole does
abbrev pub Fits : {T A B : Type 0} → Lang T A → Lang T B → (A × B → Option T → Bool) → Type 0
Fits {T} {A} {B} l m s = (a : A) (b : B) (h : Option T) → l.good a ≡ true → m.good b ≡ true → s (a, b) h ≡ true → (l.stops a (first (toks m b) h) ≡ true) × (m.stops b h ≡ true)

pub seq_reader : {T A B : Type 0} (limit : ℕ) (l : Lang T A) (m : Lang T B) (s : A × B → Option T → Bool) (p : List T → Out T A) (q : List T → Out T B) → IsReader limit l p → IsReader limit m q
    → Fits l m s → (b0 : B) → m.good b0 ≡ true → IsReader limit (pair l m s) (seq p q)
seq_reader limit l m s p q rp rq fits b0 b0_good =
    both_reader limit l (λ _. m) (λ x. l.good x.0 && m.good x.1) s (λ a b. Unit {0}) (λ a b g1 g2 u. and_from _ _ g1 g2) p (λ _. q)
    (λ a b g. let gs = and_parts _ _ g in (gs.0, gs.1, tt)) rp (λ a. rq) (λ a b h g1 g2 u e. fits a b h g1 g2 e) (λ ts r t a b e1 e2. tt) (λ ts r t a f e1 e2. tt)
    (λ a. b0) (λ a. b0_good) (λ a. tt)

pub dep_reader : {T A B : Type 0} (limit : ℕ) (l : Lang T A) (m : A → Lang T B) (s : A × B → Option T → Bool) (p : List T → Out T A) (q : A → List T → Out T B) → IsReader limit l p → ((a : A) → IsReader limit (m a) (q a))
    → ((a : A) (b : B) (h : Option T) → l.good a ≡ true → (m a).good b ≡ true → s (a, b) h ≡ true → (l.stops a (first (toks (m a) b) h) ≡ true) × ((m a).stops b h ≡ true))
    → (b0 : A → B) → ((a : A) → (m a).good (b0 a) ≡ true) → IsReader limit (pair_dep l m s) (seq_dep p q)
dep_reader limit l m s p q rp rq fits b0 b0_good =
    both_reader limit l m (λ x. l.good x.0 && (m x.0).good x.1) s (λ a b. Unit {0}) (λ a b g1 g2 u. and_from _ _ g1 g2) p q
    (λ a b g. let gs = and_parts _ _ g in (gs.0, gs.1, tt)) rp rq (λ a b h g1 g2 u e. fits a b h g1 g2 e) (λ ts r t a b e1 e2. tt) (λ ts r t a f e1 e2. tt)
    b0 b0_good (λ a. tt)

pub fit_reader : {T A B : Type 0} (limit : ℕ) (l : Lang T A) (m : Lang T B) (fit : A → B → Bool) (s : A × B → Option T → Bool) (p : List T → Out T A) (q : List T → Out T B) (rp : IsReader limit l p) (rq : IsReader limit m q)
    → ((a : A) (b : B) (h : Option T) → l.good a ≡ true → m.good b ≡ true → fit a b ≡ true → s (a, b) h ≡ true → (l.stops a (first (toks m b) h) ≡ true) × (m.stops b h ≡ true))
    → ((ts r t : List T) (a : A) (b : B) → p ts ≡ Got a r → q r ≡ Got b t → fit a b ≡ true)
    → ((ts r t : List T) (a : A) (f : Fault) → p ts ≡ Got a r → (e : q r ≡ Stop f t) → fit a (rq.fault r f t e).value ≡ true)
    → (b0 : B) → m.good b0 ≡ true → ((a : A) → fit a b0 ≡ true) → IsReader limit (pair_fit l m fit s) (seq p q)
fit_reader limit l m fit s p q rp rq fits fit_got fit_stop b0 b0_good b0_fit =
    both_reader limit l (λ _. m) (λ x. l.good x.0 && (m.good x.1 && fit x.0 x.1)) s (λ a b. fit a b ≡ true) (λ a b g1 g2 e. and_from _ _ g1 (and_from _ _ g2 e)) p (λ _. q)
    (λ a b g. let gs = and_parts _ _ g in let gt = and_parts _ _ gs.1 in (gs.0, gt.0, gt.1)) rp (λ a. rq) fits fit_got fit_stop
    (λ a. b0) (λ a. b0_good) b0_fit

-- ---- the same under another type

pub record Same {T A B : Type 0} (l : Lang T A) (m : Lang T B) (f : A → B) (g : B → A) : Type 0 where
  pub back : (b : B) → m.good b ≡ true → f (g b) ≡ b
  pub good_back : (b : B) → m.good b ≡ true → l.good (g b) ≡ true
  pub marks : (a : A) → l.good a ≡ true → m.marks (f a) ≡ l.marks a
  pub good : (a : A) → l.good a ≡ true → m.good (f a) ≡ true
  pub stops : (b : B) (h : Option T) → m.good b ≡ true → m.stops b h ≡ true → l.stops (g b) h ≡ true

-- where the tests are equal
pub same_all : {T A B : Type 0} (l : Lang T A) (m : Lang T B) (f : A → B) (g : B → A) → ((b : B) → f (g b) ≡ b) → ((a : A) → m.marks (f a) ≡ l.marks a) → ((a : A) → m.good (f a) ≡ l.good a)
    → ((a : A) (h : Option T) → m.stops (f a) h ≡ true → l.stops a h ≡ true) → Same l m f g
same_all {T} {A} {B} l m f g back marks good stops = record {
  back = λ b e. back b;
  good_back = λ b e. sym (good (g b)) ∙ ap m.good (back b) ∙ e;
  marks = λ a e. marks a;
  good = λ a e. good a ∙ e;
  stops = λ b h e st. stops (g b) h (ap (λ (z : B). m.stops z h) (back b) ∙ st);
}

pub map_got : {T A B : Type 0} (f : A → B) (o : Out T A) (b : B) (r : List T) → map_out f o ≡ Got b r → (a : A) × (o ≡ Got a r) × (f a ≡ b)
map_got {T} {A} f (Got a t) b r e = let i = Got-inj (f a) b t r e in (a, ap (λ (z : List T). Got a z) i.1, i.0)
map_got f (Stop x t) b r e = absurd cc

pub map_stop : {T A B : Type 0} (f : A → B) (o : Out T A) (x : Fault) (r : List T) → map_out f o ≡ Stop x r → o ≡ Stop x r
map_stop f (Got a t) x r e = absurd cc
map_stop f (Stop y t) x r e = cc

pub map_outcome : {T A B : Type 0} (f : A → B) (a : A) (d : Option (List T)) (rest : List T) → map_out f (outcome a d rest) ≡ outcome (f a) d rest
map_outcome f a None rest = refl
map_outcome f a (Some s) rest = refl

module _ {T A B : Type 0} (limit : ℕ) (l : Lang T A) (m : Lang T B) (f : A → B) (g : B → A) (same : Same l m f g) (p : List T → Out T A) where
  same_toks : (a : A) → l.good a ≡ true → toks m (f a) ≡ toks l a
  same_toks a e = ap tokens (same.marks a e)

  pub map_reads : (ts : List T) (a : A) (rest : List T) → Reads limit l p ts a rest → Reads limit m (mapped f p) ts (f a) rest
  map_reads ts a rest x = record {
    whole = rw (same_toks a x.good) x.whole;
    good = same.good a x.good;
    level = ap (first_deep limit) (same.marks a x.good) ∙ x.level;
    again = λ r h. let e = x.again r h in rw (same_toks a x.good, e) refl;
  }

  pub map_faults : (ts : List T) (x : Fault) (rest : List T) → Faults l p ts x rest → Faults m (mapped f p) ts x rest
  map_faults ts x rest y = record {
    seen = y.seen;
    parts = y.parts;
    value = f y.value;
    suffix = y.suffix;
    place = y.place;
    same = λ r h. let e1 = y.same r h in rw e1 refl;
    whole = same_toks y.value y.good ∙ y.whole;
    good = same.good y.value y.good;
  }

  module _ (rp : IsReader limit l p) where
    map_sound : (ts : List T) (b : B) (rest : List T) → mapped f p ts ≡ Got b rest → Reads limit m (mapped f p) ts b rest
    map_sound ts b rest e =
        let n = map_got f (p ts) b rest e in
        subst (λ (y : B). Reads limit m (mapped f p) ts y rest) n.2 (map_reads ts n.0 rest (rp.sound ts n.0 rest n.1))

    map_fault : (ts : List T) (x : Fault) (rest : List T) → mapped f p ts ≡ Stop x rest → Faults m (mapped f p) ts x rest
    map_fault ts x rest e = map_faults ts x rest (rp.fault ts x rest (map_stop f (p ts) x rest e))

    map_complete_at : (a : A) (rest : List T) → l.good a ≡ true → l.stops a (head rest) ≡ true → mapped f p (toks m (f a) ++ rest) ≡ outcome (f a) (deep limit m (f a)) rest
    map_complete_at a rest h st =
        let e1 = rp.complete a rest h st in
        let e2 = same.marks a h in
        rw (same_toks a h, e2, e1) (map_outcome f a (deep limit l a) rest)

    map_complete : (b : B) (rest : List T) → m.good b ≡ true → m.stops b (head rest) ≡ true → mapped f p (toks m b ++ rest) ≡ outcome b (deep limit m b) rest
    map_complete b rest h st = subst (λ (y : B). mapped f p (toks m y ++ rest) ≡ outcome y (deep limit m y) rest) (same.back b h)
        (map_complete_at (g b) rest (same.good_back b h) (same.stops b (head rest) h st))

    same_back : (b : B) → m.good b ≡ true → m.marks b ≡ l.marks (g b)
    same_back b h = ap m.marks (sym (same.back b h)) ∙ same.marks (g b) (same.good_back b h)

    map_fixed : (a b : B) (h k : Option T) → m.good a ≡ true → m.good b ≡ true → m.stops a h ≡ true → m.stops b k ≡ true → deep limit m a ≡ None → deep limit m b ≡ None → Agree (m.marks a) (m.marks b)
    map_fixed a b h k ga gb sa sb da db =
        let ea = same_back a ga in
        let eb = same_back b gb in
        rw (ea, eb) (rp.fixed (g a) (g b) h k (same.good_back a ga) (same.good_back b gb) (same.stops a h ga sa) (same.stops b k gb sb) (ap (first_deep limit) (sym ea) ∙ da) (ap (first_deep limit) (sym eb) ∙ db))

    pub map_reader : IsReader limit m (mapped f p)
    map_reader = record { sound = map_sound; complete = map_complete; fault = map_fault; fixed = map_fixed }

-- ---- a token

pub record IsToken {T A : Type 0} (limit : ℕ) (l : Lang T A) (by : T → Option A) (of : A → T) : Type 0 where
  pub back : (a : A) → l.good a ≡ true → by (of a) ≡ Some a
  pub only : (x : T) (a : A) → by x ≡ Some a → (x ≡ of a) × (l.good a ≡ true)
  pub depth : ℕ
  pub marks : (a : A) → l.marks a ≡ (of a, depth) ∷ []
  pub shallow : depth ≤ limit
  pub some : A
  pub some_good : l.good some ≡ true

module _ {T A : Type 0} (limit : ℕ) (l : Lang T A) (by : T → Option A) (of : A → T) (t : IsToken limit l by of) where
  t_toks : (a : A) → toks l a ≡ of a ∷ []
  t_toks a = ap tokens (t.marks a)

  t_deep : (a : A) → deep limit l a ≡ None
  t_deep a = ap (first_deep limit) (t.marks a) ∙ rw (le-ltb limit t.depth t.shallow) refl

  one_faults : (ts : List T) → ((rest : List T) → head rest ≡ head ts → one_of by rest ≡ Stop Unexpected rest) → Faults l (one_of by) ts Unexpected ts
  one_faults ts same = record { seen = []; parts = refl; same = same; value = t.some; suffix = of t.some ∷ []; whole = t_toks t.some; good = t.some_good; place = tt }

  one_got : (x : T) (ts : List T) (a : A) (rest : List T) (o : Option A) → by x ≡ o → one_at o x ts ≡ Got a rest → Reads limit l (one_of by) (x ∷ ts) a rest
  one_got x ts a rest None e h = absurd cc
  one_got x ts a rest (Some b) e h =
      let i = Got-inj b a ts rest h in
      let o = t.only x a (e ∙ ap (λ (z : A). Some z) i.0) in
      record {
        whole = rw (t_toks a) (ap (λ (k : T). k ∷ ts) o.0 ∙ ap (λ (z : List T). of a ∷ z) i.1);
        good = o.1;
        level = t_deep a;
        again = λ r k. rw (t_toks a, t.back a o.1) refl;
      }

  one_sound : (ts : List T) (a : A) (rest : List T) → one_of by ts ≡ Got a rest → Reads limit l (one_of by) ts a rest
  one_sound [] a rest e = absurd cc
  one_sound (x ∷ ts) a rest e = one_got x ts a rest (by x) refl e

  one_same : (x : T) (ts rest : List T) → by x ≡ None → head rest ≡ head (x ∷ ts) → one_of by rest ≡ Stop Unexpected rest
  one_same x ts [] e h = absurd cc
  one_same x ts (y ∷ rest) e h = let k : y ≡ x = cc in rw (k, e) refl

  one_same_end : (rest : List T) → head rest ≡ None → one_of by rest ≡ Stop Unexpected rest
  one_same_end [] h = refl
  one_same_end (y ∷ rest) h = absurd cc

  one_stop : (x : T) (ts : List T) (f : Fault) (rest : List T) (o : Option A) → by x ≡ o → one_at o x ts ≡ Stop f rest → Faults l (one_of by) (x ∷ ts) f rest
  one_stop x ts f rest (Some b) e h = absurd cc
  one_stop x ts f rest None e h =
      let f-is : Unexpected ≡ f = cc in
      let r-is : x ∷ ts ≡ rest = cc in
      let here = one_faults (x ∷ ts) (λ r k. one_same x ts r e k) in
      subst (λ (g : Fault). Faults l (one_of by) (x ∷ ts) g rest) f-is (subst (λ (z : List T). Faults l (one_of by) (x ∷ ts) Unexpected z) r-is here)

  one_fault : (ts : List T) (f : Fault) (rest : List T) → one_of by ts ≡ Stop f rest → Faults l (one_of by) ts f rest
  one_fault [] f rest e =
      let f-is : Unexpected ≡ f = cc in
      let r-is : [] ≡ rest = cc in
      let here = one_faults [] (λ r k. one_same_end r k) in
      subst (λ (g : Fault). Faults l (one_of by) [] g rest) f-is (subst (λ (z : List T). Faults l (one_of by) [] Unexpected z) r-is here)
  one_fault (x ∷ ts) f rest e = one_stop x ts f rest (by x) refl e

  one_complete : (a : A) (rest : List T) → l.good a ≡ true → l.stops a (head rest) ≡ true → one_of by (toks l a ++ rest) ≡ outcome a (deep limit l a) rest
  one_complete a rest g h = rw (t_toks a, t_deep a, t.back a g) refl

  pub one_reader : IsReader limit l (one_of by)
  one_reader = record { sound = one_sound; complete = one_complete; fault = one_fault; fixed = λ a b h k ga gb sa sb da db. let ea = t.marks a in let eb = t.marks b in rw (ea, eb) (λ e. (refl, tt)) }

-- ---- a choice by the next token

abbrev pub sum : {T A C : Type 0} → Lang T A → Lang T C → (A ⊎ C → Option T → Bool) → Lang T (A ⊎ C)
sum l m s = record {
  marks = λ x. elim x [ inl a ↦ l.marks a | inr c ↦ m.marks c ];
  good = λ x. elim x [ inl a ↦ l.good a | inr c ↦ m.good c ];
  stops = s;
}

pub record Chooses {T A C : Type 0} (b : T → Bool) (l : Lang T A) (m : Lang T C) (s : A ⊎ C → Option T → Bool) : Type 0 where
  pub one : (a : A) (h : Option T) → l.good a ≡ true → holds b (first (tokens (l.marks a)) h) ≡ true
  pub other : (c : C) (h : Option T) → m.good c ≡ true → s (inr c) h ≡ true → holds b (first (tokens (m.marks c)) h) ≡ false
  pub stops_one : (a : A) (h : Option T) → l.good a ≡ true → s (inl a) h ≡ true → l.stops a h ≡ true
  pub stops_other : (c : C) (h : Option T) → m.good c ≡ true → s (inr c) h ≡ true → m.stops c h ≡ true

module _ {T A C : Type 0} (limit : ℕ) (b : T → Bool) (l : Lang T A) (m : Lang T C) (s : A ⊎ C → Option T → Bool) (p : List T → Out T A) (q : List T → Out T C) where
  pub in_one : (x : List T) → begins b x ≡ true → alt b p q x ≡ map_out inl (p x)
  in_one x e = rw e refl

  pub in_other : (x : List T) → begins b x ≡ false → alt b p q x ≡ map_out inr (q x)
  in_other x e = rw e refl

  moved : (ts seen rest r : List T) (v : Bool) → ts ≡ seen ++ rest → head r ≡ head rest → begins b ts ≡ v → begins b (seen ++ r) ≡ v
  moved ts seen rest r v parts h e = ap (holds b) (head-append seen r rest h ∙ sym (ap head parts)) ∙ e

  pub alt_reads_one : (ts : List T) (a : A) (rest : List T) → begins b ts ≡ true → Reads limit l p ts a rest → Reads limit (sum l m s) (alt b p q) ts (inl a) rest
  alt_reads_one ts a rest e x = record {
    whole = x.whole;
    good = x.good;
    level = x.level;
    again = λ r h. in_one (toks l a ++ r) (moved ts (toks l a) rest r true x.whole h e) ∙ ap (map_out inl) (x.again r h);
  }

  pub alt_reads_other : (ts : List T) (c : C) (rest : List T) → begins b ts ≡ false → Reads limit m q ts c rest → Reads limit (sum l m s) (alt b p q) ts (inr c) rest
  alt_reads_other ts c rest e x = record {
    whole = x.whole;
    good = x.good;
    level = x.level;
    again = λ r h. in_other (toks m c ++ r) (moved ts (toks m c) rest r false x.whole h e) ∙ ap (map_out inr) (x.again r h);
  }

  pub alt_faults_one : (ts : List T) (f : Fault) (rest : List T) → begins b ts ≡ true → Faults l p ts f rest → Faults (sum l m s) (alt b p q) ts f rest
  alt_faults_one ts f rest e y = record {
    seen = y.seen;
    parts = y.parts;
    value = inl y.value;
    suffix = y.suffix;
    place = y.place;
    whole = y.whole;
    good = y.good;
    same = λ r k. in_one (y.seen ++ r) (moved ts y.seen rest r true y.parts k e) ∙ ap (map_out inl) (y.same r k);
  }

  pub alt_faults_other : (ts : List T) (f : Fault) (rest : List T) → begins b ts ≡ false → Faults m q ts f rest → Faults (sum l m s) (alt b p q) ts f rest
  alt_faults_other ts f rest e y = record {
    seen = y.seen;
    parts = y.parts;
    value = inr y.value;
    suffix = y.suffix;
    place = y.place;
    whole = y.whole;
    good = y.good;
    same = λ r k. in_other (y.seen ++ r) (moved ts y.seen rest r false y.parts k e) ∙ ap (map_out inr) (y.same r k);
  }

  module _ (ch : Chooses b l m s) (rp : IsReader limit l p) (rq : IsReader limit m q) where
    alt_sound_at : (ts : List T) (x : A ⊎ C) (rest : List T) (v : Bool) → begins b ts ≡ v → either v (map_out inl (p ts)) (map_out inr (q ts)) ≡ Got x rest → Reads limit (sum l m s) (alt b p q) ts x rest
    alt_sound_at ts x rest true e h =
        let n = map_got inl (p ts) x rest h in
        subst (λ (y : A ⊎ C). Reads limit (sum l m s) (alt b p q) ts y rest) n.2 (alt_reads_one ts n.0 rest e (rp.sound ts n.0 rest n.1))
    alt_sound_at ts x rest false e h =
        let n = map_got inr (q ts) x rest h in
        subst (λ (y : A ⊎ C). Reads limit (sum l m s) (alt b p q) ts y rest) n.2 (alt_reads_other ts n.0 rest e (rq.sound ts n.0 rest n.1))

    alt_fault_at : (ts : List T) (f : Fault) (rest : List T) (v : Bool) → begins b ts ≡ v → either v (map_out inl (p ts)) (map_out inr (q ts)) ≡ Stop f rest → Faults (sum l m s) (alt b p q) ts f rest
    alt_fault_at ts f rest true e h = alt_faults_one ts f rest e (rp.fault ts f rest (map_stop inl (p ts) f rest h))
    alt_fault_at ts f rest false e h = alt_faults_other ts f rest e (rq.fault ts f rest (map_stop inr (q ts) f rest h))

    alt_complete : (x : A ⊎ C) (rest : List T) → (sum l m s).good x ≡ true → s x (head rest) ≡ true → alt b p q (toks (sum l m s) x ++ rest) ≡ outcome x (deep limit (sum l m s) x) rest
    alt_complete (inl a) rest g h =
        in_one (toks l a ++ rest) (ap (holds b) (first-append (toks l a) rest) ∙ ch.one a (head rest) g)
        ∙ ap (map_out inl) (rp.complete a rest g (ch.stops_one a (head rest) g h)) ∙ map_outcome inl a (deep limit l a) rest
    alt_complete (inr c) rest g h =
        in_other (toks m c ++ rest) (ap (holds b) (first-append (toks m c) rest) ∙ ch.other c (head rest) g h)
        ∙ ap (map_out inr) (rq.complete c rest g (ch.stops_other c (head rest) g h)) ∙ map_outcome inr c (deep limit m c) rest

    holds_apart : (xs ys : List (T × ℕ)) (h k : Option T) → holds b (first (tokens xs) h) ≡ true → holds b (first (tokens ys) k) ≡ false → Agree xs ys
    holds_apart [] ys h k e1 e2 = tt
    holds_apart (x ∷ xs) [] h k e1 e2 = tt
    holds_apart (x ∷ xs) (y ∷ ys) h k e1 e2 = λ e. absurd (let same : b x.0 ≡ b y.0 = ap b e in cc)

    holds_apart_back : (xs ys : List (T × ℕ)) (h k : Option T) → holds b (first (tokens xs) h) ≡ false → holds b (first (tokens ys) k) ≡ true → Agree xs ys
    holds_apart_back [] ys h k e1 e2 = tt
    holds_apart_back (x ∷ xs) [] h k e1 e2 = tt
    holds_apart_back (x ∷ xs) (y ∷ ys) h k e1 e2 = λ e. absurd (let same : b x.0 ≡ b y.0 = ap b e in cc)

    alt_fixed : (x y : A ⊎ C) (h k : Option T) → (sum l m s).good x ≡ true → (sum l m s).good y ≡ true → s x h ≡ true → s y k ≡ true → deep limit (sum l m s) x ≡ None → deep limit (sum l m s) y ≡ None
        → Agree ((sum l m s).marks x) ((sum l m s).marks y)
    alt_fixed (inl a) (inl c) h k ga gb sa sb da db = rp.fixed a c h k ga gb (ch.stops_one a h ga sa) (ch.stops_one c k gb sb) da db
    alt_fixed (inr a) (inr c) h k ga gb sa sb da db = rq.fixed a c h k ga gb (ch.stops_other a h ga sa) (ch.stops_other c k gb sb) da db
    alt_fixed (inl a) (inr c) h k ga gb sa sb da db = holds_apart (l.marks a) (m.marks c) h k (ch.one a h ga) (ch.other c k gb sb)
    alt_fixed (inr a) (inl c) h k ga gb sa sb da db = holds_apart_back (m.marks a) (l.marks c) h k (ch.other a h ga sa) (ch.one c k gb)

    pub alt_reader : IsReader limit (sum l m s) (alt b p q)
    alt_reader = record { fixed = alt_fixed; sound = λ ts x rest e. alt_sound_at ts x rest (begins b ts) refl e; complete = alt_complete; fault = λ ts f rest e. alt_fault_at ts f rest (begins b ts) refl e }

-- ---- nothing at all, and what would be too deep

abbrev pub empty : {T : Type 0} → Lang T (Unit {0})
empty = record { marks = λ _. []; good = λ _. true; stops = λ _ _. true }

pub nothing_reader : {T : Type 0} (limit : ℕ) → IsReader {T = T} limit empty nothing
nothing_reader limit = record {
  sound = λ ts a rest e. record { whole = cc; good = refl; level = refl; again = λ r h. refl };
  complete = λ a rest g h. refl;
  fault = λ ts f rest e. absurd cc;
  fixed = λ a b h k ga gb sa sb da db. tt;
}

-- a value that begins with this token
abbrev pub Begins : {T A : Type 0} → Lang T A → T → Type 0
Begins {T} {A} l x = (a : A) × (t : List T) × (tokens (l.marks a) ≡ x ∷ t) × (l.good a ≡ true)

pub record IsShut {T A : Type 0} (limit : ℕ) (l : Lang T A) (b : T → Bool) : Type 0 where
  pub begun : (a : A) (h : Option T) → l.good a ≡ true → holds b (first (tokens (l.marks a)) h) ≡ true
  pub deep : (a : A) → l.good a ≡ true → first_deep limit (l.marks a) ≡ Some (tokens (l.marks a))
  pub each : (x : T) → b x ≡ true → Begins l x
  pub some : A
  pub some_good : l.good some ≡ true

abbrev pub stop_in : (T A : Type 0) → Fault → List T → Out T A
stop_in T A f r = Stop f r

module _ {T A : Type 0} (limit : ℕ) (l : Lang T A) (b : T → Bool) (is : IsShut limit l b) where
  shut_same : (ts rest : List T) (v : Bool) → begins b ts ≡ v → head rest ≡ head ts → shut b rest ≡ stop_in T A (cond v Deep Unexpected) rest
  shut_same ts rest v e h = ap (λ (w : Bool). stop_in T A (cond w Deep Unexpected) rest) (ap (holds b) h ∙ e)

  shut_unexpected : (ts : List T) → begins b ts ≡ false → Faults l (shut b) ts Unexpected ts
  shut_unexpected ts e = record { seen = []; parts = refl; same = λ r k. shut_same ts r false e k; value = is.some; suffix = toks l is.some; whole = refl; good = is.some_good; place = tt }

  shut_deep : (x : T) (ts : List T) → b x ≡ true → Faults l (shut b) (x ∷ ts) Deep (x ∷ ts)
  shut_deep x ts e =
      let v = is.each x e in
      record { seen = []; parts = refl; same = λ r k. shut_same (x ∷ ts) r true e k; value = v.0; suffix = x ∷ v.1; whole = v.2; good = v.3; place = (x, refl, refl) }

  shut_here : (x : T) (ts : List T) (v : Bool) → b x ≡ v → Faults l (shut b) (x ∷ ts) (cond v Deep Unexpected) (x ∷ ts)
  shut_here x ts true e = shut_deep x ts e
  shut_here x ts false e = shut_unexpected (x ∷ ts) e

  shut_all : (ts : List T) → Faults l (shut b) ts (cond (begins b ts) Deep Unexpected) ts
  shut_all [] = shut_unexpected [] refl
  shut_all (x ∷ ts) = shut_here x ts (b x) refl

  shut_fault : (ts : List T) (f : Fault) (rest : List T) → stop_in T A (cond (begins b ts) Deep Unexpected) ts ≡ Stop f rest → Faults l (shut b) ts f rest
  shut_fault ts f rest e =
      let f-is : cond (begins b ts) Deep Unexpected ≡ f = cc in
      let r-is : ts ≡ rest = cc in
      subst (λ (g : Fault). Faults l (shut b) ts g rest) f-is (subst (λ (z : List T). Faults l (shut b) ts (cond (begins b ts) Deep Unexpected) z) r-is (shut_all ts))

  shut_complete : (a : A) (rest : List T) → l.good a ≡ true → l.stops a (head rest) ≡ true → shut b (toks l a ++ rest) ≡ outcome a (deep limit l a) rest
  shut_complete a rest g h = rw (is.deep a g) (ap (λ (v : Bool). stop_in T A (cond v Deep Unexpected) (toks l a ++ rest)) (ap (holds b) (first-append (toks l a) rest) ∙ is.begun a (head rest) g))

  pub shut_reader : IsReader limit l (shut b)
  shut_reader = record { sound = λ ts a rest e. absurd cc; complete = shut_complete; fault = shut_fault; fixed = λ a c h k ga gb sa sb da db. absurd (let e = is.deep a ga in cc) }

-- a reader that answers the same keeps the same
pub same_reader : {T A : Type 0} (limit : ℕ) (l : Lang T A) (p q : List T → Out T A) → ((ts : List T) → q ts ≡ p ts) → IsReader limit l p → IsReader limit l q
same_reader limit l p q e r = record {
  sound = λ ts a rest h. let x = r.sound ts a rest (sym (e ts) ∙ h) in
      record { whole = x.whole; good = x.good; level = x.level; again = λ rest' k. e (toks l a ++ rest') ∙ x.again rest' k };
  complete = λ a rest g h. e (toks l a ++ rest) ∙ r.complete a rest g h;
  fixed = r.fixed;
  fault = λ ts f rest h. let x = r.fault ts f rest (sym (e ts) ∙ h) in
      record {
        seen = x.seen;
        parts = x.parts;
        value = x.value;
        suffix = x.suffix;
        place = x.place;
        whole = x.whole;
        good = x.good;
        same = λ rest' k. e (x.seen ++ rest') ∙ x.same rest' k;
      };
}

-- ---- a choice, where each value stops as its own language says

abbrev pub choice : {T A C : Type 0} → Lang T A → Lang T C → Lang T (A ⊎ C)
choice l m = sum l m (λ x h. elim x [ inl a ↦ l.stops a h | inr c ↦ m.stops c h ])

pub choice_reader : {T A C : Type 0} (limit : ℕ) (b : T → Bool) (l : Lang T A) (m : Lang T C) (p : List T → Out T A) (q : List T → Out T C)
    → ((a : A) (h : Option T) → l.good a ≡ true → holds b (first (toks l a) h) ≡ true) → ((c : C) (h : Option T) → m.good c ≡ true → m.stops c h ≡ true → holds b (first (toks m c) h) ≡ false)
    → IsReader limit l p → IsReader limit m q → IsReader limit (choice l m) (alt b p q)
choice_reader limit b l m p q one other rp rq =
    alt_reader limit b l m (choice l m).stops p q (record { one = one; other = other; stops_one = λ a h g e. e; stops_other = λ c h g e. e }) rp rq

-- ---- a part that may be absent

abbrev pub optional : {T A : Type 0} → Lang T A → (Option T → Bool) → Lang T (Option A)
optional l s = record { marks = maybe [] l.marks; good = maybe true l.good; stops = λ _. s }

abbrev option_to : {A : Type 0} → Option A → A ⊎ Unit {0}
option_to None = inr tt
option_to (Some a) = inl a

-- begun: each value begins with a b; s: what may follow, which is no b
pub maybe_reader : {T A : Type 0} (limit : ℕ) (b : T → Bool) (l : Lang T A) (s : Option T → Bool) (p : List T → Out T A) → IsReader limit l p
    → ((a : A) (h : Option T) → l.good a ≡ true → holds b (first (toks l a) h) ≡ true) → ((h : Option T) → s h ≡ true → holds b h ≡ false) → ((a : A) (h : Option T) → l.good a ≡ true → s h ≡ true → l.stops a h ≡ true)
    → IsReader limit (optional l s) (maybe_read b p)
maybe_reader limit b l s p rp begun ends stops =
    map_reader limit (sum l empty (λ _. s)) (optional l s) option_from option_to
    (record {
      back = elim [ None ↦ λ g. refl | Some a ↦ λ g. refl ];
      good_back = elim [ None ↦ λ g. refl | Some a ↦ λ g. g ];
      marks = elim [ inl a ↦ λ g. refl | inr u ↦ λ g. refl ];
      good = elim [ inl a ↦ λ g. g | inr u ↦ λ g. refl ];
      stops = λ x h g e. e;
    }) (alt b p nothing)
    (alt_reader limit b l empty (λ _. s) p nothing (record { one = begun; other = λ c h g e. ends h e; stops_one = λ a h g e. stops a h g e; stops_other = λ c h g e. refl }) rp (nothing_reader limit))
