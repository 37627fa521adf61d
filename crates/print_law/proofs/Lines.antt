-- Lines of items.
use Rattle.std.proofs.Common.{◌≡◌, ℕ, Bool, true, ◌&&◌, List, [], ◌∷◌, ◌++◌, map, None, append_assoc, refl, ap, sym, ◌∙◌}
use Rattle.std.proofs.lemmas.Bool.{and_parts}
use Rattle.c_grammar.specs.declared.sign.Sign.TheVariants as s
use Rattle.c_grammar.specs.Token.{IsSign, Kind}
use Rattle.c_print.specs.Text.Pieces as pieces
use Rattle.print_law.proofs.Items.{Item, Gap, Is, kinds, kinds-append}
use Rattle.print_law.proofs.Texts.{spelled, spelled-append, spelled-closed}
use Rattle.print_law.proofs.Apart.{fits, both}

abbrev pub Line : Type 0
Line = List Item

-- the tokens of lines
abbrev pub line_kinds : List Line → List Kind
line_kinds [] = []
line_kinds (line ∷ more) = kinds line ++ line_kinds more

-- four spaces before each line
abbrev pub deeper : List Line → List Line
deeper lines = map (λ line. Gap ∷ Gap ∷ Gap ∷ Gap ∷ line) lines

abbrev pub braced : Line → List Line → List Line
braced head lines = (head ++ Is (IsSign s.OpenBrace) ∷ []) ∷ deeper lines ++ (Is (IsSign s.CloseBrace) ∷ []) ∷ []

abbrev pub led : Line → List Line → List Line
led front [] = []
led front (line ∷ more) = (front ++ line) ∷ more

-- the tokens

pub line_kinds-append : (xs ys : List Line) → line_kinds (xs ++ ys) ≡ line_kinds xs ++ line_kinds ys
line_kinds-append [] ys = refl
line_kinds-append (x ∷ xs) ys = ap (λ z. kinds x ++ z) (line_kinds-append xs ys) ∙ sym (append_assoc (kinds x) (line_kinds xs) (line_kinds ys))

pub line_kinds-deeper : (lines : List Line) → line_kinds (deeper lines) ≡ line_kinds lines
line_kinds-deeper [] = refl
line_kinds-deeper (line ∷ more) = ap (λ z. kinds line ++ z) (line_kinds-deeper more)

-- lines that hold the tokens of these items
abbrev pub Hold : List Line → List Item → Type 0
Hold lines items = line_kinds lines ≡ kinds items

pub hold-append : (xs ys : List Line) (us vs : List Item) → Hold xs us → Hold ys vs → Hold (xs ++ ys) (us ++ vs)
hold-append xs ys us vs p q = line_kinds-append xs ys ∙ ap (λ z. z ++ line_kinds ys) p ∙ ap (λ z. kinds us ++ z) q ∙ sym (kinds-append us vs)

pub hold-line : (line : Line) (ys : List Line) (vs : List Item) → Hold ys vs → Hold (line ∷ ys) (line ++ vs)
hold-line line ys vs q = ap (λ z. kinds line ++ z) q ∙ sym (kinds-append line vs)

pub hold-deeper : (lines : List Line) (items : List Item) → Hold lines items → Hold (deeper lines) items
hold-deeper lines items h = line_kinds-deeper lines ∙ h

-- lines in braces behind a head
pub hold-braced : (head : Line) (lines : List Line) (items : List Item) → Hold lines items
    → Hold (braced head lines) (head ++ (Is (IsSign s.OpenBrace) ∷ (items ++ Is (IsSign s.CloseBrace) ∷ [])))
hold-braced head lines items h =
    hold-line (head ++ Is (IsSign s.OpenBrace) ∷ []) (deeper lines ++ (Is (IsSign s.CloseBrace) ∷ []) ∷ []) (items ++ Is (IsSign s.CloseBrace) ∷ [])
    (hold-append (deeper lines) ((Is (IsSign s.CloseBrace) ∷ []) ∷ []) items (Is (IsSign s.CloseBrace) ∷ []) (hold-deeper lines items h) refl)
    ∙ ap kinds (append_assoc head (Is (IsSign s.OpenBrace) ∷ []) (items ++ Is (IsSign s.CloseBrace) ∷ []))

-- texts

abbrev pub texts : List Line → List (List ℕ)
texts lines = map spelled lines

pub texts-append : (xs ys : List Line) → texts (xs ++ ys) ≡ texts xs ++ texts ys
texts-append [] ys = refl
texts-append (x ∷ xs) ys = ap (λ z. spelled x ∷ z) (texts-append xs ys)

pub texts-deeper : (lines : List Line) → texts (deeper lines) ≡ pieces.deeper (texts lines)
texts-deeper [] = refl
texts-deeper (line ∷ more) = ap (λ z. (32 ∷ 32 ∷ 32 ∷ 32 ∷ spelled line) ∷ z) (texts-deeper more)

pub texts-braced : (head : Line) (lines : List Line) → texts (braced head lines) ≡ pieces.braced (spelled head) (texts lines)
texts-braced head lines =
    ap (λ z. z ∷ texts (deeper lines ++ (Is (IsSign s.CloseBrace) ∷ []) ∷ [])) (spelled-closed head (IsSign s.OpenBrace))
    ∙ ap (λ z. (spelled head ++ 123 ∷ []) ∷ z)
    (texts-append (deeper lines) ((Is (IsSign s.CloseBrace) ∷ []) ∷ []) ∙ ap (λ z. z ++ (125 ∷ []) ∷ []) (texts-deeper lines))

pub texts-led : (front : Line) (lines : List Line) → texts (led front lines) ≡ pieces.led (spelled front) (texts lines)
texts-led front [] = refl
texts-led front (line ∷ more) = ap (λ z. z ∷ texts more) (spelled-append front line)

-- lines whose items stand apart

abbrev pub all_fit : List Line → Bool
all_fit [] = true
all_fit (line ∷ more) = fits line None && all_fit more

pub all_fit-append : (xs ys : List Line) → all_fit xs ≡ true → all_fit ys ≡ true → all_fit (xs ++ ys) ≡ true
all_fit-append [] ys p q = q
all_fit-append (x ∷ xs) ys p q = let h = and_parts (fits x None) (all_fit xs) p in both _ _ h.0 (all_fit-append xs ys h.1 q)

pub all_fit-deeper : (lines : List Line) → all_fit (deeper lines) ≡ all_fit lines
all_fit-deeper [] = refl
all_fit-deeper (line ∷ more) = ap (λ z. fits line None && z) (all_fit-deeper more)

pub all_fit-braced : (head : Line) (lines : List Line) → fits (head ++ Is (IsSign s.OpenBrace) ∷ []) None ≡ true → all_fit lines ≡ true → all_fit (braced head lines) ≡ true
all_fit-braced head lines p q = both _ _ p (all_fit-append (deeper lines) _ (all_fit-deeper lines ∙ q) refl)
