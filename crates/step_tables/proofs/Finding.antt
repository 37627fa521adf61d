-- Where a place stands among places, and what control meets there.
use Rattle.std.proofs.Common.{◌≡◌, ◌≢◌, ℕ, zero, suc, ◌+◌, ◌<◌, ◌≤◌, Bool, true, false, ◌==◌, ◌||◌, List, [], ◌∷◌, ◌++◌, length, slice_get, Option, Some, None, IsSome, if◌then◌else◌, inl, inr, refl, ap, sym, ◌∙◌, arith}
use Rattle.std.proofs.lemmas.Bool.Decides.{eqb_tells}
use Rattle.std.proofs.lemmas.Option.{none-some}
use Rattle.cfix_base.specs.declared.place.Place.{Place}
use Rattle.cfix_base.specs.declared.place.Place.TheVariants.{Start, After, True, False}
use Rattle.c_prog.specs.Order.{Node}
use Rattle.flow_graph.specs.Flow.{Way, Next, same_place, next_at}
use Rattle.step_tables.specs.Rows.{is_cond, IsBehind}
use Rattle.step_tables.proofs.Places.{places, node_places, places_from}

-- whether a place is among these
abbrev pub among : Place → List Place → Bool
among p [] = false
among p (q ∷ rest) = same_place q p || among p rest

-- what control meets at the first of these ways, or else at the others
met-none : (p : Place) (b : Bool) (target : Next) (rest : List Way) → b || among p (places rest) ≡ false → next_at p rest ≡ None
    → (if b then Some target else next_at p rest) ≡ None
met-none p true target rest out none = absurd (cc out)
met-none p false target rest out none = none

or-false : (a b : Bool) → a || b ≡ false → b ≡ false
or-false true b is = absurd (cc is)
or-false false b is = is

pub next-none : (p : Place) (ways : List Way) → among p (places ways) ≡ false → next_at p ways ≡ None
next-none p [] out = refl
next-none p (way ∷ rest) out =
    met-none p (same_place way.place p) way.target rest out (next-none p rest (or-false (same_place way.place p) (among p (places rest)) out))

met-some : (p : Place) (b : Bool) (target : Next) (rest : List Way) → b || among p (places rest) ≡ true
    → (among p (places rest) ≡ true → IsSome (next_at p rest)) → IsSome (if b then Some target else next_at p rest)
met-some p true target rest there some = refl
met-some p false target rest there some = some there

pub next-some : (p : Place) (ways : List Way) → among p (places ways) ≡ true → IsSome (next_at p ways)
next-some p [] there = absurd (cc there)
next-some p (way ∷ rest) there = met-some p (same_place way.place p) way.target rest there (next-some p rest)

met-skip : (p : Place) (b : Bool) (target : Next) (rest ys : List Way) → b || among p (places rest) ≡ false
    → next_at p (rest ++ ys) ≡ next_at p ys → (if b then Some target else next_at p (rest ++ ys)) ≡ next_at p ys
met-skip p true target rest ys out skip = absurd (cc out)
met-skip p false target rest ys out skip = skip

pub next-skip : (p : Place) (xs ys : List Way) → among p (places xs) ≡ false → next_at p (xs ++ ys) ≡ next_at p ys
next-skip p [] ys out = refl
next-skip p (way ∷ rest) ys out =
    met-skip p (same_place way.place p) way.target rest ys out (next-skip p rest ys (or-false (same_place way.place p) (among p (places rest)) out))

met-first : (b : Bool) (target : Next) (x y : Option Next) → x ≡ y → (if b then Some target else x) ≡ (if b then Some target else y)
met-first b target x y same = ap (λ z. if b then Some target else z) same

pub next-first : (p : Place) (xs ys : List Way) → among p (places ys) ≡ false → next_at p (xs ++ ys) ≡ next_at p xs
next-first p [] ys out = next-none p ys out
next-first p (way ∷ rest) ys out =
    met-first (same_place way.place p) way.target (next_at p (rest ++ ys)) (next_at p rest) (next-first p rest ys out)

or-both : (a b c : Bool) → (a || b) || c ≡ a || (b || c)
or-both true b c = refl
or-both false b c = refl

pub among-append : (p : Place) (xs ys : List Place) → among p (xs ++ ys) ≡ among p xs || among p ys
among-append p [] ys = refl
among-append p (x ∷ xs) ys =
    ap (λ b. same_place x p || b) (among-append p xs ys) ∙ sym (or-both (same_place x p) (among p xs) (among p ys))

pub among-neither : (p : Place) (xs ys : List Place) → among p xs ≡ false → among p ys ≡ false → among p (xs ++ ys) ≡ false
among-neither p xs ys first second =
    among-append p xs ys ∙ ap (λ b. b || among p ys) first ∙ second

or-left : (a b : Bool) → a ≡ true → a || b ≡ true
or-left true b is = refl
or-left false b is = absurd (cc is)

or-right : (a b : Bool) → b ≡ true → a || b ≡ true
or-right true b is = refl
or-right false b is = is

-- a place behind another node, and one of a node that is a condition where it is none, or the other way round
or-nothing : (b : Bool) → b || false ≡ b
or-nothing true = refl
or-nothing false = refl

differ : (n m : ℕ) → n ≢ m → (n == m) ≡ false
differ n m other = elim (eqb_tells n m) [ inl same ↦ absurd (other same.1) | inr is ↦ is.0 ]

agree : (n m : ℕ) → n ≡ m → (n == m) ≡ true
agree n m same = elim (eqb_tells n m) [ inl is ↦ is.0 | inr other ↦ absurd (other.1 same) ]

pub other-node : (p : Place) (n m : ℕ) (b c : Bool) → IsBehind p m b → n ≢ m → among p (node_places n c) ≡ false
other-node (Start f) n m b c is other = absurd is
other-node (After k) n m b false is other = or-nothing (n == k.number) ∙ differ n k.number (λ same. other (same ∙ is.0))
other-node (After k) n m b true is other = refl
other-node (True k) n m b false is other = refl
other-node (True k) n m b true is other = or-nothing (n == k.number) ∙ differ n k.number (λ same. other (same ∙ is.0))
other-node (False k) n m b false is other = refl
other-node (False k) n m b true is other = or-nothing (n == k.number) ∙ differ n k.number (λ same. other (same ∙ is.0))

pub other-kind : (p : Place) (n m : ℕ) (b c : Bool) → IsBehind p m b → (c ≡ b → ⊥) → among p (node_places n c) ≡ false
other-kind (Start f) n m b c is other = absurd is
other-kind (After k) n m b false is other = absurd (other (sym is.1))
other-kind (After k) n m b true is other = refl
other-kind (True k) n m b false is other = refl
other-kind (True k) n m b true is other = absurd (other (sym is.1))
other-kind (False k) n m b false is other = refl
other-kind (False k) n m b true is other = absurd (other (sym is.1))

pub same-node : (p : Place) (n m : ℕ) (b c : Bool) → IsBehind p m b → n ≡ m → c ≡ b → among p (node_places n c) ≡ true
same-node (Start f) n m b c is here kind = absurd is
same-node (After k) n m b false is here kind = or-left (n == k.number) false (agree n k.number (here ∙ sym is.0))
same-node (After k) n m b true is here kind = absurd (cc (kind, is.1))
same-node (True k) n m b false is here kind = absurd (cc (kind, is.1))
same-node (True k) n m b true is here kind = or-left (n == k.number) false (agree n k.number (here ∙ sym is.0))
same-node (False k) n m b false is here kind = absurd (cc (kind, is.1))
same-node (False k) n m b true is here kind = or-left (n == k.number) false (agree n k.number (here ∙ sym is.0))

-- among the places behind nodes: a node before them, one after them, one of them
pub among-below : (p : Place) (n m : ℕ) (b : Bool) (nodes : List Node) → IsBehind p m b → m < n → among p (places_from n nodes) ≡ false
among-below p n m b [] is below = refl
among-below p n m b (x ∷ rest) is below =
    among-neither p (node_places n (is_cond x)) (places_from (n + 1) rest) (other-node p n m b (is_cond x) is (λ same. omega (arith, same, below)))
    (among-below p (n + 1) m b rest is (omega (arith, below)))

pub among-above : (p : Place) (n m : ℕ) (b : Bool) (nodes : List Node) → IsBehind p m b → n + length nodes ≤ m → among p (places_from n nodes) ≡ false
among-above p n m b [] is above = refl
among-above p n m b (x ∷ rest) is above =
    among-neither p (node_places n (is_cond x)) (places_from (n + 1) rest) (other-node p n m b (is_cond x) is (λ same. omega (arith, same, above)))
    (among-above p (n + 1) m b rest is (omega (arith, above)))

pub among-has : (p : Place) (n k m : ℕ) (b : Bool) (nodes : List Node) (x : Node) → IsBehind p m b → n + k ≡ m → slice_get nodes k ≡ Some x → is_cond x ≡ b
    → among p (places_from n nodes) ≡ true
among-has p n k m b [] x is here got kind = absurd (none-some x got)
among-has p n zero m b (y ∷ rest) x is here got kind =
    let is_x : y ≡ x = cc got in
    among-append p (node_places n (is_cond y)) (places_from (n + 1) rest)
    ∙ or-left (among p (node_places n (is_cond y))) (among p (places_from (n + 1) rest))
    (same-node p n m b (is_cond y) is (omega (arith, here)) (ap is_cond is_x ∙ kind))
among-has p n (suc k) m b (y ∷ rest) x is here got kind =
    among-append p (node_places n (is_cond y)) (places_from (n + 1) rest)
    ∙ or-right (among p (node_places n (is_cond y))) (among p (places_from (n + 1) rest))
    (among-has p (n + 1) k m b rest x is (omega (arith, here)) got kind)

pub among-lacks : (p : Place) (n k m : ℕ) (b : Bool) (nodes : List Node) (x : Node) → IsBehind p m b → n + k ≡ m → slice_get nodes k ≡ Some x → (is_cond x ≡ b → ⊥)
    → among p (places_from n nodes) ≡ false
among-lacks p n k m b [] x is here got kind = absurd (none-some x got)
among-lacks p n zero m b (y ∷ rest) x is here got kind =
    let is_x : y ≡ x = cc got in
    among-neither p (node_places n (is_cond y)) (places_from (n + 1) rest)
    (other-kind p n m b (is_cond y) is (λ same. kind (ap is_cond (sym is_x) ∙ same)))
    (among-below p (n + 1) m b rest is (omega (arith, here)))
among-lacks p n (suc k) m b (y ∷ rest) x is here got kind =
    among-neither p (node_places n (is_cond y)) (places_from (n + 1) rest) (other-node p n m b (is_cond y) is (λ same. omega (arith, same, here)))
    (among-lacks p (n + 1) k m b rest x is (omega (arith, here)) got kind)
