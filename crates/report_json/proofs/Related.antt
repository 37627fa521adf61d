-- Lists of values that are related to lists of items.
use Rattle.std.proofs.Common.{◌≡◌, ℕ, suc, ◌+◌, ◌<◌, List, [], ◌∷◌, ◌++◌, length, get_or, take, drop, map, refl, sym, ap, subst, ◌∙◌, arith}
use Rattle.std.proofs.lemmas.List.{take_more, map-append, take-append-drop, length-take, length-map}
use Rattle.std.proofs.Math.Seq.{drop-cons}
use Rattle.serde_json.specs.Data.{Data}
use Rattle.report_json.specs.Members.{Each}

module _ {X : Type 0} (R : Data → X → Type 0) where
  pub each-push : (ds : List Data) (d : Data) (xs : List X) (x : X) → Each R ds xs → R d x → Each R (ds ++ d ∷ []) (xs ++ x ∷ [])
  each-push [] d [] x h r = (r, tt)
  each-push [] d (y ∷ xs) x h r = absurd h
  each-push (e ∷ ds) d [] x h r = absurd h
  each-push (e ∷ ds) d (y ∷ xs) x h r = (h.0, each-push ds d xs x h.1 r)

  -- a value that is related to nothing is not among values that are
  pub each-bad : (front : List Data) (bad : Data) (more : List Data) (xs : List X) → Each R (front ++ bad ∷ more) xs → ((x : X) → R bad x → ⊥) → ⊥
  each-bad [] bad more [] h none = h
  each-bad [] bad more (x ∷ xs) h none = none x h.0
  each-bad (d ∷ front) bad more [] h none = h
  each-bad (d ∷ front) bad more (x ∷ xs) h none = each-bad front bad more xs h.1 none

  pub each-unique : ((d : Data) (x y : X) → R d x → R d y → x ≡ y) → (ds : List Data) (xs ys : List X) → Each R ds xs → Each R ds ys → xs ≡ ys
  each-unique same [] [] [] h k = refl
  each-unique same [] [] (y ∷ ys) h k = absurd k
  each-unique same [] (x ∷ xs) ys h k = absurd h
  each-unique same (d ∷ ds) [] ys h k = absurd h
  each-unique same (d ∷ ds) (x ∷ xs) [] h k = absurd k
  each-unique same (d ∷ ds) (x ∷ xs) (y ∷ ys) h k =
      let first : x ≡ y = same d x y h.0 k.0 in
      let more : xs ≡ ys = each-unique same ds xs ys h.1 k.1 in
      cc

  -- the first value that is related to nothing has one place
  pub each-first : (g h : List Data) (b c : Data) (m n : List Data) (xs ys : List X) → Each R g xs → Each R h ys
      → ((x : X) → R b x → ⊥) → ((x : X) → R c x → ⊥) → g ++ b ∷ m ≡ h ++ c ∷ n → length g ≡ length h
  each-first [] [] b c m n xs ys eg eh nb nc is = refl
  each-first [] (d ∷ h) b c m n xs [] eg eh nb nc is = absurd eh
  each-first [] (d ∷ h) b c m n xs (y ∷ ys) eg eh nb nc is =
      let head : d ≡ b = cc in
      absurd (nb y (subst (λ (z : Data). R z y) head eh.0))
  each-first (d ∷ g) [] b c m n [] ys eg eh nb nc is = absurd eg
  each-first (d ∷ g) [] b c m n (x ∷ xs) ys eg eh nb nc is =
      let head : d ≡ c = cc in
      absurd (nc x (subst (λ (z : Data). R z x) head eg.0))
  each-first (d ∷ g) (e ∷ h) b c m n [] ys eg eh nb nc is = absurd eg
  each-first (d ∷ g) (e ∷ h) b c m n (x ∷ xs) [] eg eh nb nc is = absurd eh
  each-first (d ∷ g) (e ∷ h) b c m n (x ∷ xs) (y ∷ ys) eg eh nb nc is =
      let tails : g ++ b ∷ m ≡ h ++ c ∷ n = cc in
      ap suc (each-first g h b c m n xs ys eg.1 eh.1 nb nc tails)

-- ---- the turns of a loop over items that are seen as values

module _ {V : Type 0} (view : V → Data) where
  pub seen_more : (vs : List V) (i : ℕ) (v : V) → i < length vs → v ≡ get_or vs i v → map view (take (i + 1) vs) ≡ map view (take i vs) ++ view v ∷ []
  seen_more vs i v within is =
      ap (map view) (take_more vs i v within) ∙ map-append view (take i vs) (get_or vs i v ∷ []) ∙ ap (λ (z : V). map view (take i vs) ++ view z ∷ []) (sym is)

  pub seen_parts : (vs : List V) (i : ℕ) (v : V) → i < length vs → v ≡ get_or vs i v → map view vs ≡ map view (take i vs) ++ view v ∷ map view (drop (suc i) vs)
  seen_parts vs i v within is =
      ap (map view) (sym (take-append-drop i vs) ∙ ap (λ (z : List V). take i vs ++ z) (drop-cons vs i v within))
      ∙ map-append view (take i vs) (get_or vs i v ∷ drop (suc i) vs) ∙ ap (λ (z : V). map view (take i vs) ++ view z ∷ map view (drop (suc i) vs)) (sym is)

  pub seen_len : (vs : List V) (i : ℕ) → i < length vs → length (map view (take i vs)) ≡ i
  seen_len vs i within = omega (arith, length-map (take i vs) view, length-take i vs)
