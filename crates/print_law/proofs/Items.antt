-- Texts as they are laid out: the tokens of a line with the spaces between them, and the tokens at spots.
use Rattle.std.proofs.Common.{◌≡◌, ℕ, suc, Bool, true, false, List, [], ◌∷◌, ◌++◌, refl, ap, sym, ◌∙◌}
use Rattle.cfix_base.specs.declared.spot.Spot.{Spot}
use Rattle.c_grammar.specs.Token.{Kind, Token, Mark}
use Rattle.c_grammar.specs.Expr.{Piece, placed}
use Rattle.c_grammar.specs.Marks.{tokens}

-- a space, or a token
pub data Item : Type 0 where
  Gap : Item
  Is : Kind → Item

-- the tokens among items
abbrev pub kinds : List Item → List Kind
kinds [] = []
kinds (Gap ∷ items) = kinds items
kinds (Is k ∷ items) = k ∷ kinds items

pub kinds-append : (xs ys : List Item) → kinds (xs ++ ys) ≡ kinds xs ++ kinds ys
kinds-append [] ys = refl
kinds-append (Gap ∷ xs) ys = kinds-append xs ys
kinds-append (Is k ∷ xs) ys = ap (λ z. k ∷ z) (kinds-append xs ys)

-- the first of the spots that are left
abbrev pub here : List Spot → Spot
here [] = record { at = 0; line = 0 }
here (s ∷ spots) = s

-- the spots behind the first
abbrev pub later : List Spot → List Spot
later [] = []
later (s ∷ spots) = spots

-- tokens of these kinds at the first of these spots
abbrev pub marked : List Spot → List Kind → List Token
marked spots [] = []
marked spots (k ∷ ks) = record { kind = k; spot = here spots } ∷ marked (later spots) ks

-- the spots behind those of these kinds
abbrev pub beyond : List Spot → List Kind → List Spot
beyond spots [] = spots
beyond spots (k ∷ ks) = beyond (later spots) ks

pub marked-append : (spots : List Spot) (xs ys : List Kind) → marked spots (xs ++ ys) ≡ marked spots xs ++ marked (beyond spots xs) ys
marked-append spots [] ys = refl
marked-append spots (k ∷ xs) ys = ap (λ z. record { kind = k; spot = here spots } ∷ z) (marked-append (later spots) xs ys)

pub beyond-append : (spots : List Spot) (xs ys : List Kind) → beyond spots (xs ++ ys) ≡ beyond (beyond spots xs) ys
beyond-append spots [] ys = refl
beyond-append spots (k ∷ xs) ys = beyond-append (later spots) xs ys

abbrev pub spotted : List Spot → List Item → List Token
spotted spots items = marked spots (kinds items)

abbrev pub after : List Spot → List Item → List Spot
after spots items = beyond spots (kinds items)

pub after-append : (spots : List Spot) (xs ys : List Item) → after spots (xs ++ ys) ≡ after (after spots xs) ys
after-append spots xs ys = ap (beyond spots) (kinds-append xs ys) ∙ beyond-append spots (kinds xs) (kinds ys)

pub spotted-append : (spots : List Spot) (xs ys : List Item) → spotted spots (xs ++ ys) ≡ spotted spots xs ++ spotted (after spots xs) ys
spotted-append spots xs ys = ap (marked spots) (kinds-append xs ys) ∙ marked-append spots (kinds xs) (kinds ys)

-- the tokens of pieces, whatever their depths are
abbrev pub bare : List Piece → List Token
bare [] = []
bare (p ∷ ps) = p.0 ∷ bare ps

pub bare-append : (ps qs : List Piece) → bare (ps ++ qs) ≡ bare ps ++ bare qs
bare-append [] qs = refl
bare-append (p ∷ ps) qs = ap (λ z. p.0 ∷ z) (bare-append ps qs)

pub tokens-append : (ms ns : List Mark) → tokens (ms ++ ns) ≡ tokens ms ++ tokens ns
tokens-append [] ns = refl
tokens-append (m ∷ ms) ns = ap (λ z. m.0 ∷ z) (tokens-append ms ns)

placed-by : (n d : ℕ) (t : Token) (is_operator : Bool) (ps : List Piece) → ((k : ℕ) → tokens (placed k ps) ≡ bare ps)
    → tokens (placed n ((t, d, is_operator) ∷ ps)) ≡ t ∷ bare ps
placed-by n d t true ps h = ap (λ z. t ∷ z) (h (suc n))
placed-by n d t false ps h = ap (λ z. t ∷ z) (h n)

pub tokens-placed : (n : ℕ) (ps : List Piece) → tokens (placed n ps) ≡ bare ps
tokens-placed n [] = refl
tokens-placed n (p ∷ ps) = placed-by n p.1 p.0 p.2 ps (λ k. tokens-placed k ps)

-- one part behind another

pub joins : (spots : List Spot) (xs ys : List Item) (ps qs : List Piece) → bare ps ≡ spotted spots xs → bare qs ≡ spotted (after spots xs) ys → bare (ps ++ qs) ≡ spotted spots (xs ++ ys)
joins spots xs ys ps qs p q = bare-append ps qs ∙ ap (λ z. z ++ bare qs) p ∙ ap (λ z. spotted spots xs ++ z) q ∙ sym (spotted-append spots xs ys)

pub joint : (spots : List Spot) (xs ys : List Item) (ms ns : List Mark) → tokens ms ≡ spotted spots xs → tokens ns ≡ spotted (after spots xs) ys → tokens (ms ++ ns) ≡ spotted spots (xs ++ ys)
joint spots xs ys ms ns p q = tokens-append ms ns ∙ ap (λ z. z ++ tokens ns) p ∙ ap (λ z. spotted spots xs ++ z) q ∙ sym (spotted-append spots xs ys)
