-- What a file is made of, from its lines: empty lines, and parts that each are an include, a define, a variable, a prototype or a function.
use Rattle.std.proofs.Common.{◌≡◌, ℕ, ◌+◌, ◌<◌, ◌≤◌, true, List, [], ◌∷◌, ◌++◌, length, Option, Some, None, append_assoc, append-nil, refl, ap, sym, ◌∙◌, arith, cond, length-append}
use Rattle.std.proofs.lemmas.Bool.{lt-ltb}
use Rattle.std.proofs.lemmas.List.Sums.{sum_by-append}
use Rattle.std.specs.List.{count_by}
use Rattle.cfix_base.specs.declared.spot.Spot.{Spot}
use Rattle.c_lex.specs.Bytes.{is_line_feed}
use Rattle.c_lex.specs.Faults.{spot_behind}
use Rattle.c_grammar.specs.Token.{Kind, Token}
use Rattle.c_grammar.specs.Marks.{tokens, head}
use Rattle.c_grammar.specs.File as f
use Rattle.c_print.specs.Text.Pieces as pieces
use Rattle.print_law.proofs.Items.{Item, Gap, Is, kinds, kinds-append, marked, marked-append, beyond, beyond-append, spotted, after, tokens-append}
use Rattle.print_law.proofs.Texts.{spelled, kind_text}
use Rattle.print_law.proofs.Apart.{both}
use Rattle.print_law.proofs.Lines.{Line, line_kinds, Hold, hold-append, texts, all_fit, all_fit-append}

-- the spots of the tokens of a line that stands behind the bytes `before`
abbrev pub line_spots : List ℕ → Line → List Spot
line_spots before [] = []
line_spots before (Gap ∷ items) = line_spots (before ++ 32 ∷ []) items
line_spots before (Is k ∷ items) = spot_behind before ∷ line_spots (before ++ kind_text k) items

-- the text of lines
abbrev pub lines_text : List Line → List ℕ
lines_text lines = pieces.text_of (texts lines)

-- the spots of the tokens of lines
abbrev pub spots_of : List ℕ → List Line → List Spot
spots_of before [] = []
spots_of before (line ∷ more) = line_spots before line ++ spots_of (before ++ (spelled line ++ 10 ∷ [])) more

-- a part with its lines, its items and its tree
pub data Part : Type 0 where
  Empty : Part
  One : List Line → List Item → (List Spot → f.Top) → Part

abbrev pub part_lines : Part → List Line
part_lines Empty = [] ∷ []
part_lines (One lines items tree) = lines

abbrev pub parts_lines : List Part → List Line
parts_lines [] = []
parts_lines (p ∷ more) = part_lines p ++ parts_lines more

abbrev pub parts_items : List Part → List Item
parts_items [] = []
parts_items (Empty ∷ more) = parts_items more
parts_items (One lines items tree ∷ more) = items ++ parts_items more

-- the file of parts
abbrev pub parts_tree : List Part → List Spot → f.File
parts_tree [] spots = []
parts_tree (Empty ∷ more) spots = parts_tree more spots
parts_tree (One lines items tree ∷ more) spots = tree spots ∷ parts_tree more (after spots items)

-- the number of the line behind these bytes
abbrev pub line_behind : List ℕ → ℕ
line_behind bytes = 1 + count_by is_line_feed bytes

-- what is to hold of a part: its tokens; its lines hold them and stand apart; and at the spots of its lines it is one of the
-- grammar, and ends on its line where it is an include or define
pub record Law (lines : List Line) (items : List Item) (tree : List Spot → f.Top) : Type 0 where
  pub told : (spots : List Spot) → tokens (f.top_marks (tree spots)) ≡ spotted spots items
  pub hold : Hold lines items
  pub fit : all_fit lines ≡ true
  pub good : (before : List ℕ) (rest : List Spot) → f.is_top (tree (spots_of before lines ++ rest)) ≡ true
  pub ends : (before : List ℕ) (rest : List Spot) (line : ℕ) → f.line_of (tree (spots_of before lines ++ rest)) ≡ Some line
      → line < line_behind (before ++ lines_text lines)

abbrev pub Lawful : Part → Type 0
Lawful Empty = Unit {0}
Lawful (One lines items tree) = Law lines items tree

abbrev pub AllLawful : List Part → Type 0
AllLawful [] = Unit {0}
AllLawful (p ∷ more) = Lawful p × AllLawful more

pub lawful-append : (ps qs : List Part) → AllLawful ps → AllLawful qs → AllLawful (ps ++ qs)
lawful-append [] qs p q = q
lawful-append (x ∷ ps) qs p q = (p.0, lawful-append ps qs p.1 q)

-- the tokens of a file
pub parts-told : (ps : List Part) → AllLawful ps → (spots : List Spot) → f.file_tokens (parts_tree ps spots) ≡ spotted spots (parts_items ps)
parts-told [] l spots = refl
parts-told (Empty ∷ more) l spots = parts-told more l.1 spots
parts-told (One lines items tree ∷ more) l spots =
    tokens-append (f.top_marks (tree spots)) (f.file_marks (parts_tree more (after spots items)))
    ∙ ap (λ z. z ++ f.file_tokens (parts_tree more (after spots items))) (l.0.told spots)
    ∙ ap (λ z. spotted spots items ++ z) (parts-told more l.1 (after spots items))
    ∙ sym (marked-append spots (kinds items) (kinds (parts_items more))) ∙ ap (marked spots) (sym (kinds-append items (parts_items more)))

-- its lines hold them
pub parts-hold : (ps : List Part) → AllLawful ps → Hold (parts_lines ps) (parts_items ps)
parts-hold [] l = refl
parts-hold (Empty ∷ more) l = parts-hold more l.1
parts-hold (One lines items tree ∷ more) l = hold-append lines (parts_lines more) items (parts_items more) l.0.hold (parts-hold more l.1)

-- and stand apart
pub parts-fit : (ps : List Part) → AllLawful ps → all_fit (parts_lines ps) ≡ true
parts-fit [] l = refl
parts-fit (Empty ∷ more) l = parts-fit more l.1
parts-fit (One lines items tree ∷ more) l = all_fit-append lines (parts_lines more) l.0.fit (parts-fit more l.1)

-- spots

spots-append : (before : List ℕ) (xs ys : List Line) → spots_of before (xs ++ ys) ≡ spots_of before xs ++ spots_of (before ++ lines_text xs) ys
spots-append before [] ys = ap (λ z. spots_of z ys) (sym (append-nil before))
spots-append before (x ∷ xs) ys =
    let here = before ++ (spelled x ++ 10 ∷ []) in
    ap (λ z. line_spots before x ++ z) (spots-append here xs ys)
    ∙ sym (append_assoc (line_spots before x) (spots_of here xs) (spots_of (here ++ lines_text xs) ys))
    ∙ ap (λ z. (line_spots before x ++ spots_of here xs) ++ spots_of z ys) (append_assoc before (spelled x ++ 10 ∷ []) (lines_text xs))

-- as many spots as tokens

pub beyond-line : (before : List ℕ) (line : Line) (rest : List Spot) → beyond (line_spots before line ++ rest) (kinds line) ≡ rest
beyond-line before [] rest = refl
beyond-line before (Gap ∷ items) rest = beyond-line (before ++ 32 ∷ []) items rest
beyond-line before (Is k ∷ items) rest = beyond-line (before ++ kind_text k) items rest

pub beyond-lines : (before : List ℕ) (lines : List Line) (rest : List Spot) → beyond (spots_of before lines ++ rest) (line_kinds lines) ≡ rest
beyond-lines before [] rest = refl
beyond-lines before (line ∷ more) rest =
    let next = spots_of (before ++ (spelled line ++ 10 ∷ [])) more in
    ap (λ z. beyond z (kinds line ++ line_kinds more)) (append_assoc (line_spots before line) next rest)
    ∙ beyond-append (line_spots before line ++ (next ++ rest)) (kinds line) (line_kinds more)
    ∙ ap (λ z. beyond z (line_kinds more)) (beyond-line before line (next ++ rest))
    ∙ beyond-lines (before ++ (spelled line ++ 10 ∷ [])) more rest

-- no spot stands on an earlier line

pub counted : (xs ys : List ℕ) → count_by is_line_feed (xs ++ ys) ≡ count_by is_line_feed xs + count_by is_line_feed ys
counted xs ys = sum_by-append (λ x. cond (is_line_feed x) 1 0) xs ys

abbrev IsFrom : ℕ → List Spot → Type 0
IsFrom line [] = Unit {0}
IsFrom line (s ∷ spots) = (line ≤ s.line) × IsFrom line spots

from-lower : (a b : ℕ) (spots : List Spot) → a ≤ b → IsFrom b spots → IsFrom a spots
from-lower a b [] h f = tt
from-lower a b (s ∷ spots) h f = (omega (arith, h, f.0), from-lower a b spots h f.1)

from-append : (line : ℕ) (xs ys : List Spot) → IsFrom line xs → IsFrom line ys → IsFrom line (xs ++ ys)
from-append line [] ys p q = q
from-append line (x ∷ xs) ys p q = (p.0, from-append line xs ys p.1 q)

grown : (before more : List ℕ) → line_behind before ≤ line_behind (before ++ more)
grown before more = let c = counted before more in omega (arith, c)

from-line : (before : List ℕ) (line : Line) → IsFrom (line_behind before) (line_spots before line)
from-line before [] = tt
from-line before (Gap ∷ items) =
    from-lower (line_behind before) (line_behind (before ++ 32 ∷ [])) (line_spots (before ++ 32 ∷ []) items) (grown before (32 ∷ [])) (from-line (before ++ 32 ∷ []) items)
from-line before (Is k ∷ items) =
    (omega arith, from-lower (line_behind before) (line_behind (before ++ kind_text k)) (line_spots (before ++ kind_text k) items) (grown before (kind_text k)) (from-line (before ++ kind_text k) items))

from-lines : (before : List ℕ) (lines : List Line) → IsFrom (line_behind before) (spots_of before lines)
from-lines before [] = tt
from-lines before (line ∷ more) =
    let next = before ++ (spelled line ++ 10 ∷ []) in
    from-append (line_behind before) (line_spots before line) (spots_of next more) (from-line before line)
    (from-lower (line_behind before) (line_behind next) (spots_of next more) (grown before (spelled line ++ 10 ∷ [])) (from-lines next more))

-- the first token at such spots, where there are as many spots as tokens
later-first : (line : ℕ) (spots : List Spot) (ks : List Kind) → IsFrom line spots → length ks ≤ length spots → (low : ℕ) → low < line
    → f.is_later (Some low) (head (marked spots ks)) ≡ true
later-first line spots [] h room low less = refl
later-first line [] (k ∷ ks) h room low less = absurd (omega (arith, room))
later-first line (s ∷ spots) (k ∷ ks) h room low less = lt-ltb low s.line (omega (arith, less, h.0))

line-length : (before : List ℕ) (line : Line) → length (kinds line) ≡ length (line_spots before line)
line-length before [] = refl
line-length before (Gap ∷ items) = line-length (before ++ 32 ∷ []) items
line-length before (Is k ∷ items) = let h = line-length (before ++ kind_text k) items in omega (arith, h)

pub lines-length : (before : List ℕ) (lines : List Line) → length (line_kinds lines) ≡ length (spots_of before lines)
lines-length before [] = refl
lines-length before (line ∷ more) =
    let next = before ++ (spelled line ++ 10 ∷ []) in
    length-append (kinds line) (line_kinds more) ∙ ap (λ z. z + length (line_kinds more)) (line-length before line)
    ∙ ap (λ z. length (line_spots before line) + z) (lines-length next more) ∙ sym (length-append (line_spots before line) (spots_of next more))

-- the file is one of the grammar

later-by : (l : Option ℕ) (t : Option Token) → ((line : ℕ) → l ≡ Some line → f.is_later (Some line) t ≡ true) → f.is_later l t ≡ true
later-by None t h = refl
later-by (Some line) t h = h line refl

pub parts-good : (ps : List Part) → AllLawful ps → (before : List ℕ) → f.is_file (parts_tree ps (spots_of before (parts_lines ps))) ≡ true
parts-good [] l before = refl
parts-good (Empty ∷ more) l before = parts-good more l.1 (before ++ 10 ∷ [])
parts-good (One lines items tree ∷ more) l before =
    let next = before ++ lines_text lines in
    let rest = spots_of next (parts_lines more) in
    let split : spots_of before (lines ++ parts_lines more) ≡ spots_of before lines ++ rest = spots-append before lines (parts_lines more) in
    let passed : after (spots_of before lines ++ rest) items ≡ rest =
    ap (beyond (spots_of before lines ++ rest)) (sym l.0.hold) ∙ beyond-lines before lines rest in
    let told : f.file_tokens (parts_tree more rest) ≡ marked rest (kinds (parts_items more)) = parts-told more l.1 rest in
    let enough : length (kinds (parts_items more)) ≡ length rest = ap length (sym (parts-hold more l.1)) ∙ lines-length next (parts_lines more) in
    ap (λ z. f.is_file (parts_tree (One lines items tree ∷ more) z)) split
    ∙ both _ _ (l.0.good before rest)
    (both _ _
    (ap (λ z. f.is_later (f.line_of (tree (spots_of before lines ++ rest))) (head (f.file_tokens (parts_tree more z)))) passed
    ∙ ap (λ z. f.is_later (f.line_of (tree (spots_of before lines ++ rest))) (head z)) told
    ∙ later-by (f.line_of (tree (spots_of before lines ++ rest))) (head (marked rest (kinds (parts_items more))))
    (λ line e. later-first (line_behind next) rest (kinds (parts_items more)) (from-lines next (parts_lines more)) (omega (arith, enough)) line (l.0.ends before rest line e)))
    (ap (λ z. f.is_file (parts_tree more z)) passed ∙ parts-good more l.1 next))
