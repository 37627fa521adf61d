-- Items one after the other, as long as one begins.
use Rattle.std.proofs.Common.{◌≡◌, ℕ, zero, suc, ◌≤◌, Bool, true, false, ◌&&◌, List, [], ◌∷◌, ◌++◌, Option, None, refl, sym, ap, subst, ◌∙◌, arith, inl, inr, ◌⊎◌}
use Rattle.std.proofs.lemmas.Bool.{and_from, and_parts}
use Rattle.c_reading.specs.Reader.{Fault, Unexpected, Deep, Out, Got, Stop, next, Lang, toks, deep, outcome, seq, map_out, mapped, holds, begins, either, nothing, alt, glue, size, many_by, many, Unexpected}
use Rattle.c_grammar.specs.Marks.{first, head, tokens, Agree, each}
use Rattle.c_reading.proofs.Reader.{Reads, Faults, IsReader, Got-inj, head-append, next_got, next_stop, first-append, both_reads, both_faults_first, both_faults_second, both_complete, Same, map_got, map_stop, map_outcome, map_reads, map_faults, sum, in_one, in_other, alt_reads_one, alt_reads_other, alt_faults_one, empty, nothing_reader, size_behind, none_parts, pair_agree, agree_nil, deep-append, head-append}

abbrev pub list_marks : {T A : Type 0} → Lang T A → List A → List (T × ℕ)
list_marks l = each l.marks

-- after says which token may stand behind an item
abbrev pub list_good_after : {T A : Type 0} → Lang T A → (A → Option T → Bool) → List A → Bool
list_good_after l after [] = true
list_good_after l after (a ∷ more) = l.good a && (after a (head (tokens (list_marks l more))) && list_good_after l after more)

abbrev pub any_after : {T A : Type 0} → A → Option T → Bool
any_after a h = true

abbrev pub list_good : {T A : Type 0} → Lang T A → List A → Bool
list_good l = list_good_after l any_after

-- items; s says what may follow the last
abbrev pub items_after : {T A : Type 0} → Lang T A → (A → Option T → Bool) → (Option T → Bool) → Lang T (List A)
items_after l after s = record { marks = list_marks l; good = list_good_after l after; stops = λ _. s }

abbrev pub items : {T A : Type 0} → Lang T A → (Option T → Bool) → Lang T (List A)
items l s = items_after l any_after s

pub record IsItem {T A : Type 0} (l : Lang T A) (b : T → Bool) (s : Option T → Bool) : Type 0 where
  pub begun : (a : A) (h : Option T) → l.good a ≡ true → holds b (first (tokens (l.marks a)) h) ≡ true
  pub ends : (h : Option T) → s h ≡ true → holds b h ≡ false
  pub stops_more : (a : A) (h : Option T) → l.good a ≡ true → holds b h ≡ true → l.stops a h ≡ true
  pub stops_last : (a : A) (h : Option T) → l.good a ≡ true → s h ≡ true → l.stops a h ≡ true

pub record IsNext {T A : Type 0} (l : Lang T A) (b : T → Bool) (after : A → Option T → Bool) (s : Option T → Bool) (p : List T → Out T A) : Type 0 where
  pub begun : (a : A) (h : Option T) → l.good a ≡ true → holds b (first (tokens (l.marks a)) h) ≡ true
  pub ends : (h : Option T) → s h ≡ true → holds b h ≡ false
  pub stops_more : (a : A) (h : Option T) → l.good a ≡ true → after a h ≡ true → holds b h ≡ true → l.stops a h ≡ true
  pub stops_last : (a : A) (h : Option T) → l.good a ≡ true → s h ≡ true → l.stops a h ≡ true
  pub at_end : (a : A) → after a None ≡ true
  -- the reader of an item looks at the token behind it
  pub looks : (ts r : List T) (a : A) → p ts ≡ Got a r → after a (head r) ≡ true

some_size : {T : Type 0} (b : T → Bool) (xs r : List T) → holds b (first xs None) ≡ true → suc (size r) ≤ size (xs ++ r)
some_size b [] r e = absurd cc
some_size b (x ∷ xs) r e = let h = size_behind xs r in omega (arith, h)

abbrev pub unglue : {A : Type 0} → List A → (A × List A) ⊎ Unit {0}
unglue [] = inr tt
unglue (a ∷ more) = inl (a, more)

module _ {T A : Type 0} (limit : ℕ) (l : Lang T A) (b : T → Bool) (after : A → Option T → Bool) (s : Option T → Bool) (p : List T → Out T A) (is : IsNext l b after s p) (rp : IsReader limit l p) where
  shorter : (ts r : List T) (a : A) → p ts ≡ Got a r → suc (size r) ≤ size ts
  shorter ts r a e =
      let x = rp.sound ts a r e in
      let P : List T → Type 0 = λ z. suc (size r) ≤ size z in
      subst P (sym x.whole) (some_size b (toks l a) r (is.begun a None x.good))

  seq_same : {B : Type 0} (ts : List T) (q q' : List T → Out T B) → ((a : A) (r : List T) → p ts ≡ Got a r → q r ≡ q' r) → seq p q ts ≡ seq p q' ts
  seq_same {B} ts q q' h = at (p ts) refl
    where
      at : (o : Out T A) → p ts ≡ o → next {B = A × B} o (λ a r. next (q r) (λ b s. Got (a, b) s)) ≡ next o (λ a r. next (q' r) (λ b s. Got (a, b) s))
      at (Got a r) e = rw (h a r e) refl
      at (Stop f r) e = refl

  alt_same : (ts : List T) (q q' : List T → Out T (A × List A)) → q ts ≡ q' ts → map_out glue (alt b q nothing ts) ≡ map_out glue (alt b q' nothing ts)
  alt_same ts q q' e = ap (λ (o : Out T (A × List A)). map_out glue (either (begins b ts) (map_out inl o) (map_out inr (nothing ts)))) e

  -- more fuel than tokens changes nothing
  fuel_same : (n k : ℕ) (ts : List T) → size ts ≤ n → size ts ≤ k → many_by n b p ts ≡ many_by k b p ts
  fuel_same zero zero ts h1 h2 = refl
  fuel_same zero (suc k) [] h1 h2 = refl
  fuel_same zero (suc k) (x ∷ ts) h1 h2 = absurd (omega (arith, h1))
  fuel_same (suc n) zero [] h1 h2 = refl
  fuel_same (suc n) zero (x ∷ ts) h1 h2 = absurd (omega (arith, h2))
  fuel_same (suc n) (suc k) ts h1 h2 = alt_same ts (seq p (many_by n b p)) (seq p (many_by k b p))
      (seq_same ts (many_by n b p) (many_by k b p) (λ a r e. let h = shorter ts r a e in fuel_same n k r (omega (arith, h, h1)) (omega (arith, h, h2))))

  -- one item more, or none
  pub many_unfold : (ts : List T) → many b p ts ≡ mapped glue (alt b (seq p (many b p)) nothing) ts
  many_unfold [] = refl
  many_unfold (x ∷ ts) = alt_same (x ∷ ts) (seq p (many_by (size ts) b p)) (seq p (many b p))
      (seq_same (x ∷ ts) (many_by (size ts) b p) (many b p) (λ a r e. let h = shorter (x ∷ ts) r a e in fuel_same (size ts) (size r) r (omega (arith, h)) (omega arith)))

  abbrev l_items : Lang T (List A)
  l_items = items_after l after s

  abbrev Fit : A → List A → Type 0
  Fit a more = after a (head (toks l_items more)) ≡ true

  abbrev one_good : A × List A → Bool
  one_good x = l.good x.0 && (after x.0 (head (toks l_items x.1)) && l_items.good x.1)

  abbrev one_more : Lang T (A × List A)
  one_more = record { marks = λ x. l.marks x.0 ++ l_items.marks x.1; good = one_good; stops = λ _. s }

  from_parts : (a : A) (more : List A) → l.good a ≡ true → l_items.good more ≡ true → Fit a more → one_good (a, more) ≡ true
  from_parts a more g1 g2 f = and_from _ _ g1 (and_from _ _ f g2)

  first_item : (more : List A) (a : A) (h : Option T) → l.good a ≡ true → holds b (first (tokens (l.marks a ++ list_marks l more)) h) ≡ true
  first_item more a h g = first_of (l.marks a) (list_marks l more) h (is.begun a (first (tokens (list_marks l more)) h) g)
    where
      first_of : (xs ys : List (T × ℕ)) (h : Option T) → holds b (first (tokens xs) (first (tokens ys) h)) ≡ true → holds b (first (tokens (xs ++ ys)) h) ≡ true
      first_of [] ys h e = e
      first_of (x ∷ xs) ys h e = e

  -- the first token of items is the first of the text, if there are items
  fit_from : (a : A) (more : List A) (r t : List T) → l_items.good more ≡ true → r ≡ toks l_items more ++ t → after a (head r) ≡ true → Fit a more
  fit_from a [] r t g e f = is.at_end a
  fit_from a (x ∷ more) r t g e f = head_of (toks l_items (x ∷ more)) (first_item more x None (and_parts _ _ g).0) (ap (λ (z : List T). after a (head z)) (sym e) ∙ f)
    where
      head_of : (xs : List T) → holds b (first xs None) ≡ true → after a (head (xs ++ t)) ≡ true → after a (head xs) ≡ true
      head_of [] h k = absurd cc
      head_of (y ∷ xs) h k = k

  glued : Same (sum one_more empty (λ _. s)) l_items glue unglue
  glued = record {
    back = elim [ [] ↦ λ g. refl | a ∷ more ↦ λ g. refl ];
    good_back = elim [ [] ↦ λ g. refl | a ∷ more ↦ λ g. g ];
    marks = elim [ inl x ↦ λ g. refl | inr u ↦ λ g. refl ];
    good = elim [ inl x ↦ λ g. g | inr u ↦ λ g. refl ];
    stops = λ x h g e. e;
  }

  abbrev unfolded : List T → Out T (List A)
  unfolded = mapped glue (alt b (seq p (many b p)) nothing)

  back_reads : (ts : List T) (xs : List A) (rest : List T) → Reads limit l_items unfolded ts xs rest → Reads limit l_items (many b p) ts xs rest
  back_reads ts xs rest x = record { whole = x.whole; good = x.good; level = x.level; again = λ rest' k. many_unfold (toks l_items xs ++ rest') ∙ x.again rest' k }

  back_faults : (ts : List T) (f : Fault) (rest : List T) → Faults l_items unfolded ts f rest → Faults l_items (many b p) ts f rest
  back_faults ts f rest x = record {
    seen = x.seen;
    parts = x.parts;
    value = x.value;
    suffix = x.suffix;
    place = x.place;
    whole = x.whole;
    good = x.good;
    same = λ rest' k. many_unfold (x.seen ++ rest') ∙ x.same rest' k;
  }

  abbrev Sound : List T → Type 0
  Sound ts = (xs : List A) (rest : List T) → many b p ts ≡ Got xs rest → Reads limit l_items (many b p) ts xs rest

  pair_reads : (ts r t : List T) (a : A) (more : List A) → Fit a more → Reads limit l p ts a r → Reads limit l_items (many b p) r more t → Reads limit one_more (seq p (many b p)) ts (a, more) t
  pair_reads ts r t a more fit x y =
      both_reads limit l (λ _. l_items) one_good (λ _. s) Fit from_parts p (λ _. many b p) ts r t a more fit x y

  sound_more : (ts : List T) → ((r : List T) → suc (size r) ≤ size ts → Sound r) → (x : A × List A) (rest : List T) → seq p (many b p) ts ≡ Got x rest → Reads limit one_more (seq p (many b p)) ts x rest
  sound_more ts ih x rest e =
      let n1 = next_got (p ts) (λ a r. next (many b p r) (λ b t. Got (a, b) t)) x rest e in
      let n2 = next_got (many b p n1.1) (λ b t. Got (n1.0, b) t) x rest n1.3 in
      let i = Got-inj (n1.0, n2.0) x n2.1 rest n2.3 in
      let y = ih n1.1 (shorter ts n1.1 n1.0 n1.2) n2.0 n2.1 n2.2 in
      let here = pair_reads ts n1.1 n2.1 n1.0 n2.0 (fit_from n1.0 n2.0 n1.1 n2.1 y.good y.whole (is.looks ts n1.1 n1.0 n1.2)) (rp.sound ts n1.0 n1.1 n1.2) y in
      subst (λ (y : A × List A). Reads limit one_more (seq p (many b p)) ts y rest) i.0 (subst (λ (t : List T). Reads limit one_more (seq p (many b p)) ts (n1.0, n2.0) t) i.1 here)

  sound_at : (ts : List T) → ((r : List T) → suc (size r) ≤ size ts → Sound r) → (x : (A × List A) ⊎ Unit {0}) (rest : List T) (v : Bool) → begins b ts ≡ v
      → either v (map_out inl (seq p (many b p) ts)) (map_out inr (nothing ts)) ≡ Got x rest → Reads limit (sum one_more empty (λ _. s)) (alt b (seq p (many b p)) nothing) ts x rest
  sound_at ts ih x rest true e h =
      let n = map_got inl (seq p (many b p) ts) x rest h in
      subst (λ (y : (A × List A) ⊎ Unit {0}). Reads limit (sum one_more empty (λ _. s)) (alt b (seq p (many b p)) nothing) ts y rest) n.2
      (alt_reads_one limit b one_more empty (λ _. s) (seq p (many b p)) nothing ts n.0 rest e (sound_more ts ih n.0 rest n.1))
  sound_at ts ih x rest false e h =
      let n = map_got inr (nothing ts) x rest h in
      subst (λ (y : (A × List A) ⊎ Unit {0}). Reads limit (sum one_more empty (λ _. s)) (alt b (seq p (many b p)) nothing) ts y rest) n.2
      (alt_reads_other limit b one_more empty (λ _. s) (seq p (many b p)) nothing ts n.0 rest e ((nothing_reader limit).sound ts n.0 rest n.1))

  sound_step : (ts : List T) → ((r : List T) → suc (size r) ≤ size ts → Sound r) → Sound ts
  sound_step ts ih xs rest e =
      let n = map_got glue (alt b (seq p (many b p)) nothing ts) xs rest (sym (many_unfold ts) ∙ e) in
      let here = sound_at ts ih n.0 rest (begins b ts) refl n.1 in
      back_reads ts xs rest (subst (λ (y : List A). Reads limit l_items unfolded ts y rest) n.2
      (map_reads limit (sum one_more empty (λ _. s)) l_items glue unglue glued (alt b (seq p (many b p)) nothing) ts n.0 rest here))

  sound_by : (n : ℕ) (ts : List T) → size ts ≤ n → Sound ts
  sound_by zero ts h = sound_step ts (λ r k. absurd (omega (arith, h, k)))
  sound_by (suc n) ts h = sound_step ts (λ r k. sound_by n r (omega (arith, h, k)))

  abbrev Faulty : List T → Type 0
  Faulty ts = (f : Fault) (rest : List T) → many b p ts ≡ Stop f rest → Faults l_items (many b p) ts f rest

  -- a completed value that may stand behind the item
  settle_unexpected : (r : List T) (a : A) (rest : List T) → after a (head r) ≡ true → (y : Faults l_items (many b p) r Unexpected rest) (sn : List T) → y.seen ≡ sn → (z : Faults l_items (many b p) r Unexpected rest) × Fit a z.value
  settle_unexpected r a rest k y [] e =
      (record { seen = []; parts = y.parts ∙ ap (λ (z : List T). z ++ rest) e; same = λ r2 h. ap (λ (z : List T). many b p (z ++ r2)) (sym e) ∙ y.same r2 h; value = []; suffix = []; whole = refl; good = refl; place = tt }, is.at_end a)
  settle_unexpected r a rest k y (x ∷ sn) e =
      (y, ap (after a) (ap head (y.whole ∙ ap (λ (z : List T). z ++ y.suffix) e) ∙ sym (ap head (y.parts ∙ ap (λ (z : List T). z ++ rest) e))) ∙ k)

  settle : (r : List T) (a : A) (f : Fault) (rest : List T) → after a (head r) ≡ true → (y : Faults l_items (many b p) r f rest) → (z : Faults l_items (many b p) r f rest) × Fit a z.value
  settle r a Unexpected rest k y = settle_unexpected r a rest k y y.seen refl
  settle r a Deep rest k y = (y, ap (after a) (ap head y.whole ∙ head-append y.seen y.suffix rest (y.place.2 ∙ sym y.place.1) ∙ sym (ap head y.parts)) ∙ k)

  fault_more : (ts : List T) → ((r : List T) → suc (size r) ≤ size ts → Faulty r) → (f : Fault) (rest : List T) → seq p (many b p) ts ≡ Stop f rest → Faults one_more (seq p (many b p)) ts f rest
  fault_more ts ih f rest e =
      elim (next_stop (p ts) (λ a r. next (many b p r) (λ b t. Got (a, b) t)) f rest e) [
        | inl e1 ↦ both_faults_first limit l (λ _. l_items) one_good (λ _. s) Fit from_parts p (λ _. many b p)
            (λ _. []) (λ _. refl) (λ a. is.at_end a) ts rest f (rp.fault ts f rest e1)
        | inr n1 ↦ elim (next_stop (many b p n1.1) (λ b t. Got (n1.0, b) t) f rest n1.3) [
          | inl e2 ↦ both_faults_second limit l (λ _. l_items) one_good (λ _. s) Fit from_parts p (λ _. many b p)
              ts n1.1 rest n1.0 f (rp.sound ts n1.0 n1.1 n1.2) (settle n1.1 n1.0 f rest (is.looks ts n1.1 n1.0 n1.2) (ih n1.1 (shorter ts n1.1 n1.0 n1.2) f rest e2)).0 (settle n1.1 n1.0 f rest (is.looks ts n1.1 n1.0 n1.2) (ih n1.1 (shorter ts n1.1 n1.0 n1.2) f rest e2)).1
          | inr n2 ↦ absurd (let e3 = n2.3 in cc)
        ]
      ]

  fault_at : (ts : List T) → ((r : List T) → suc (size r) ≤ size ts → Faulty r) → (f : Fault) (rest : List T) (v : Bool) → begins b ts ≡ v
      → either v (map_out inl (seq p (many b p) ts)) (map_out {B = (A × List A) ⊎ Unit {0}} inr (nothing ts)) ≡ Stop f rest → Faults (sum one_more empty (λ _. s)) (alt b (seq p (many b p)) nothing) ts f rest
  fault_at ts ih f rest true e h = alt_faults_one limit b one_more empty (λ _. s) (seq p (many b p)) nothing ts f rest e (fault_more ts ih f rest (map_stop inl (seq p (many b p) ts) f rest h))
  fault_at ts ih f rest false e h = absurd cc

  fault_step : (ts : List T) → ((r : List T) → suc (size r) ≤ size ts → Faulty r) → Faulty ts
  fault_step ts ih f rest e =
      let here = fault_at ts ih f rest (begins b ts) refl (map_stop glue (alt b (seq p (many b p)) nothing ts) f rest (sym (many_unfold ts) ∙ e)) in
      back_faults ts f rest (map_faults limit (sum one_more empty (λ _. s)) l_items glue unglue glued (alt b (seq p (many b p)) nothing) ts f rest here)

  fault_by : (n : ℕ) (ts : List T) → size ts ≤ n → Faulty ts
  fault_by zero ts h = fault_step ts (λ r k. absurd (omega (arith, h, k)))
  fault_by (suc n) ts h = fault_step ts (λ r k. fault_by n r (omega (arith, h, k)))

  first_head : (xs : List T) (h : Option T) → holds b (first xs None) ≡ true → first xs h ≡ head xs
  first_head [] h e = absurd cc
  first_head (x ∷ xs) h e = refl

  stop_at : (a : A) (more : List A) (h : Option T) → l.good a ≡ true → l_items.good more ≡ true → Fit a more → s h ≡ true → l.stops a (first (toks l_items more) h) ≡ true
  stop_at a [] h g gs f e = is.stops_last a h g e
  stop_at a (c ∷ more) h g gs f e =
      let gc = (and_parts _ _ gs).0 in
      is.stops_more a _ g (ap (after a) (first_head (toks l_items (c ∷ more)) h (first_item more c None gc)) ∙ f) (first_item more c h gc)

  complete_all : (xs : List A) (rest : List T) → l_items.good xs ≡ true → s (head rest) ≡ true → many b p (toks l_items xs ++ rest) ≡ outcome xs (deep limit l_items xs) rest
  complete_all [] rest g h = many_unfold rest ∙ ap (map_out glue) (in_other limit b one_more empty (λ _. s) (seq p (many b p)) nothing rest (is.ends (head rest) h))
  complete_all (a ∷ more) rest g h =
      let gs = and_parts _ _ g in
      let gt = and_parts _ _ gs.1 in
      let e1 = rp.complete a (toks l_items more ++ rest) gs.0 (rw first-append (stop_at a more (head rest) gs.0 gt.1 gt.0 h)) in
      let e2 = complete_all more rest gt.1 h in
      let e3 = both_complete limit l (λ _. l_items) one_good (λ _. s) Fit from_parts p (λ _. many b p) a more rest e1 e2 in
      many_unfold _
      ∙ ap (map_out glue) (in_one limit b one_more empty (λ _. s) (seq p (many b p)) nothing (toks l_items (a ∷ more) ++ rest) (ap (holds b) (first-append (toks l_items (a ∷ more)) rest) ∙ first_item more a (head rest) gs.0)
      ∙ ap (map_out inl) e3 ∙ map_outcome inl (a, more) (deep limit one_more (a, more)) rest)
      ∙ map_outcome glue (inl (a, more)) (deep limit one_more (a, more)) rest

  fixed_all : (xs ys : List A) (h k : Option T) → l_items.good xs ≡ true → l_items.good ys ≡ true → s h ≡ true → s k ≡ true → deep limit l_items xs ≡ None → deep limit l_items ys ≡ None
      → Agree (l_items.marks xs) (l_items.marks ys)
  fixed_all [] ys h k g g2 st st2 dn dn2 = tt
  fixed_all (a ∷ more) [] h k g g2 st st2 dn dn2 = agree_nil (l_items.marks (a ∷ more))
  fixed_all (a ∷ more) (a2 ∷ more2) h k g g2 st st2 dn dn2 =
      let gs = and_parts _ _ g in
      let gs2 = and_parts _ _ g2 in
      let gt = and_parts _ _ gs.1 in
      let gt2 = and_parts _ _ gs2.1 in
      let n = none_parts _ _ _ (sym (deep-append limit (l.marks a) (l_items.marks more)) ∙ dn) in
      let n2 = none_parts _ _ _ (sym (deep-append limit (l.marks a2) (l_items.marks more2)) ∙ dn2) in
      pair_agree limit l p rp a a2 (l_items.marks more) (l_items.marks more2) h k gs.0 gs2.0 (stop_at a more h gs.0 gt.1 gt.0 st) (stop_at a2 more2 k gs2.0 gt2.1 gt2.0 st2) n.0 n2.0
      (λ e. fixed_all more more2 h k gt.1 gt2.1 st st2 n.1 n2.1)

  pub many_after_reader : IsReader limit l_items (many b p)
  many_after_reader = record { sound = λ ts xs rest e. sound_by (size ts) ts (omega arith) xs rest e; complete = complete_all; fixed = fixed_all; fault = λ ts f rest e. fault_by (size ts) ts (omega arith) f rest e }

pub many_reader : {T A : Type 0} (limit : ℕ) (l : Lang T A) (b : T → Bool) (s : Option T → Bool) → IsItem l b s → (p : List T → Out T A) → IsReader limit l p → IsReader limit (items l s) (many b p)
many_reader limit l b s is p rp = many_after_reader limit l b any_after s p
    (record { begun = is.begun; ends = is.ends; stops_more = λ a h g f e. is.stops_more a h g e; stops_last = is.stops_last; at_end = λ a. refl; looks = λ ts r a e. refl }) rp
