-- A search that halves entries whose keys rise.
use Rattle.std.proofs.Common.{◌≡◌, ℕ, ◌+◌, ◌-◌, ◌<◌, Bool, true, false, List, [], ◌∷◌, ◌++◌, take, drop, get_or, length, Some, None, if◌then◌else◌, ap, sym, ◌∙◌, subst, refl, arith}
use Rattle.std.proofs.lemmas.List.{drop_more, length-drop, take-append-drop, take_all}
use Rattle.c_prog.specs.Rising.{keys, IsBefore, Rises, line_in}

-- What the search asks of an order and of equality.
pub record Ordered {K : Type 0} (before same : K → K → Bool) : Type 0 where
  pub later : (a b : K) → before a b ≡ true → same a b ≡ false
  pub earlier : (a b : K) → before a b ≡ true → same b a ≡ false
  pub chain : (a b c : K) → before a b ≡ true → before b c ≡ true → before a c ≡ true
  pub equal : (a b : K) → before a b ≡ false → before b a ≡ false → a ≡ b
  pub itself : (a : K) → same a a ≡ true

module _ {K : Type 0} (before same : K → K → Bool) (order : Ordered before same) where
  -- what is before a key is before all that the key is before
  chained : (a b : K) (ks : List K) → before a b ≡ true → IsBefore before b ks → IsBefore before a ks
  chained a b [] is rest = tt
  chained a b (k ∷ ks) is rest = (order.chain a b k is rest.0, chained a b ks is rest.1)

  -- a key before all entries is not there
  gone : (key : K) (es : List (K × ℕ)) → IsBefore before key (keys es) → line_in same key es ≡ None
  gone key [] is = refl
  gone key (e ∷ es) is =
      ap (λ b. if b then Some e.1 else line_in same key es) (order.earlier key e.0 is.0) ∙ gone key es is.1

  -- the first key is before one in the middle
  reaches : (a : K) (xs : List (K × ℕ)) (x : K × ℕ) (ys : List (K × ℕ)) → IsBefore before a (keys (xs ++ x ∷ ys)) → before a x.0 ≡ true
  reaches a [] x ys is = is.0
  reaches a (z ∷ xs) x ys is = reaches a xs x ys is.1

  left-before : (a : K) (xs ys : List (K × ℕ)) → IsBefore before a (keys (xs ++ ys)) → IsBefore before a (keys xs)
  left-before a [] ys is = tt
  left-before a (z ∷ xs) ys is = (is.0, left-before a xs ys is.1)

  pub rises-left : (xs ys : List (K × ℕ)) → Rises before (keys (xs ++ ys)) → Rises before (keys xs)
  rises-left [] ys is = tt
  rises-left (z ∷ xs) ys is = (left-before z.0 xs ys is.0, rises-left xs ys is.1)

  pub rises-right : (xs : List (K × ℕ)) (x : K × ℕ) (ys : List (K × ℕ)) → Rises before (keys (xs ++ x ∷ ys)) → Rises before (keys ys)
  rises-right [] x ys is = is.1
  rises-right (z ∷ xs) x ys is = rises-right xs x ys is.1

  pub finds-left : (key : K) (xs : List (K × ℕ)) (x : K × ℕ) (ys : List (K × ℕ)) → Rises before (keys (xs ++ x ∷ ys))
      → before key x.0 ≡ true → line_in same key (xs ++ x ∷ ys) ≡ line_in same key xs
  finds-left key [] x ys is less = gone key (x ∷ ys) (less, chained key x.0 (keys ys) less is.0)
  finds-left key (z ∷ xs) x ys is less =
      ap (λ r. if same z.0 key then Some z.1 else r) (finds-left key xs x ys is.1 less)

  pub finds-right : (key : K) (xs : List (K × ℕ)) (x : K × ℕ) (ys : List (K × ℕ)) → Rises before (keys (xs ++ x ∷ ys))
      → before x.0 key ≡ true → line_in same key (xs ++ x ∷ ys) ≡ line_in same key ys
  finds-right key [] x ys is more = ap (λ b. if b then Some x.1 else line_in same key ys) (order.later x.0 key more)
  finds-right key (z ∷ xs) x ys is more =
      ap (λ b. if b then Some z.1 else line_in same key (xs ++ x ∷ ys)) (order.later z.0 key (order.chain z.0 x.0 key (reaches z.0 xs x ys is.0) more))
      ∙ finds-right key xs x ys is.1 more

  finds-itself : (xs : List (K × ℕ)) (x : K × ℕ) (ys : List (K × ℕ)) → Rises before (keys (xs ++ x ∷ ys))
      → line_in same x.0 (xs ++ x ∷ ys) ≡ Some x.1
  finds-itself [] x ys is = ap (λ b. if b then Some x.1 else line_in same x.0 ys) (order.itself x.0)
  finds-itself (z ∷ xs) x ys is =
      ap (λ b. if b then Some z.1 else line_in same x.0 (xs ++ x ∷ ys)) (order.later z.0 x.0 (reaches z.0 xs x ys is.0))
      ∙ finds-itself xs x ys is.1

  pub finds-here : (key : K) (xs : List (K × ℕ)) (x : K × ℕ) (ys : List (K × ℕ)) → Rises before (keys (xs ++ x ∷ ys))
      → before key x.0 ≡ false → before x.0 key ≡ false → line_in same key (xs ++ x ∷ ys) ≡ Some x.1
  finds-here key xs x ys is less more =
      ap (λ k. line_in same k (xs ++ x ∷ ys)) (order.equal key x.0 less more) ∙ finds-itself xs x ys is

  -- the entries around the one in the middle
  halves : (es : List (K × ℕ)) (m : ℕ) (d : K × ℕ) → m < length es → es ≡ take m es ++ get_or es m d ∷ drop (m + 1) es
  halves es m d within = sym (take-append-drop m es) ∙ ap (λ rest. take m es ++ rest) (drop_more es m d within)

  -- all behind the middle, as it is taken
  behind : (es : List (K × ℕ)) (m : ℕ) → take (length es - (m + 1)) (drop (m + 1) es) ≡ drop (m + 1) es
  behind es m = take_all (length es - (m + 1)) (drop (m + 1) es) (omega (arith, length-drop (m + 1) es))

  pub half-rises : (es : List (K × ℕ)) (m : ℕ) → Rises before (keys es) → Rises before (keys (take m es))
  half-rises es m is = rises-left (take m es) (drop m es) (subst (λ xs. Rises before (keys xs)) (sym (take-append-drop m es)) is)

  pub other-rises : (es : List (K × ℕ)) (m : ℕ) (d : K × ℕ) → m < length es → Rises before (keys es)
      → Rises before (keys (take (length es - (m + 1)) (drop (m + 1) es)))
  other-rises es m d within is =
      subst (λ xs. Rises before (keys xs)) (sym (behind es m))
      (rises-right (take m es) (get_or es m d) (drop (m + 1) es) (subst (λ xs. Rises before (keys xs)) (halves es m d within) is))

  pub in-half : (key : K) (es : List (K × ℕ)) (m : ℕ) (d : K × ℕ) → m < length es → Rises before (keys es)
      → before key (get_or es m d).0 ≡ true → line_in same key (take m es) ≡ line_in same key es
  in-half key es m d within is less =
      sym (ap (line_in same key) (halves es m d within)
      ∙ finds-left key (take m es) (get_or es m d) (drop (m + 1) es) (subst (λ xs. Rises before (keys xs)) (halves es m d within) is) less)

  pub in-other : (key : K) (es : List (K × ℕ)) (m : ℕ) (d : K × ℕ) → m < length es → Rises before (keys es)
      → before (get_or es m d).0 key ≡ true
      → line_in same key (take (length es - (m + 1)) (drop (m + 1) es)) ≡ line_in same key es
  in-other key es m d within is more =
      ap (line_in same key) (behind es m)
      ∙ sym (ap (line_in same key) (halves es m d within)
      ∙ finds-right key (take m es) (get_or es m d) (drop (m + 1) es) (subst (λ xs. Rises before (keys xs)) (halves es m d within) is) more)

  pub in-middle : (key : K) (es : List (K × ℕ)) (m : ℕ) (d : K × ℕ) → m < length es → Rises before (keys es)
      → before key (get_or es m d).0 ≡ false → before (get_or es m d).0 key ≡ false
      → Some (get_or es m d).1 ≡ line_in same key es
  in-middle key es m d within is less more =
      sym (ap (line_in same key) (halves es m d within)
      ∙ finds-here key (take m es) (get_or es m d) (drop (m + 1) es) (subst (λ xs. Rises before (keys xs)) (halves es m d within) is) less more)
