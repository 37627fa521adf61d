-- The canonical text of a valid tree divides into the tokens of its file.
use Rattle.std.proofs.Common.{◌≡◌, ℕ, suc, ℤ, pos, negsuc, ◌^◌, ◌<◌, ◌≤◌, ◌==◌, nat_le, int_le, Bool, true, false, ◌&&◌, List, [], ◌∷◌, ◌++◌, map, length, append_assoc, refl, ap, sym, ◌∙◌, subst, codes, arith, true≢false}
use Rattle.std.proofs.lemmas.Bool.{and_parts, leb-true, le-leb, eqb-true}
use Rattle.std.specs.Fmt as fmt
use Rattle.std.specs.List.{list_all}
use Rattle.std.specs.Char.{is_ascii_digit}
use Rattle.std.specs.Str.{bytes_eq}
use Rattle.cfix_base.specs.Words.{is_name_text, is_name_byte}
use Rattle.cfix_base.specs.declared.number.OrderId.{OrderId}
use Rattle.cfix_base.specs.declared.spot.Spot.{Spot}
use Rattle.c_lex.proofs.Classes.{digit_is_byte}
use Rattle.c_prog.specs.declared.function.FnKind.{FnKind}
use Rattle.c_prog.specs.declared.function.FnKind.TheVariants as gives
use Rattle.c_prog.specs.declared.function.Function.{Function}
use Rattle.c_prog.specs.declared.global.Global.{Global}
use Rattle.c_prog.specs.declared.global.GlobalKind.{GlobalKind}
use Rattle.c_prog.specs.declared.global.GlobalKind.TheVariants as kind
use Rattle.c_prog.specs.declared.tree.Tree.{Tree}
use Rattle.c_prog.specs.Patched.{tree_patched}
use Rattle.c_prog.specs.Valid.{IsValid, has_valid_function_ops}
use Rattle.c_prog.specs.Valid.Scope.{nothing_declared}
use Rattle.c_prog.specs.Valid.Kinds.{File, file_of}
use Rattle.c_prog.specs.Valid.Acts.{is_declared_name}
use Rattle.c_prog.specs.Valid.Functions.{are_declared_names, are_distinct, is_initial_number, is_valid_global, param_kind, body_scope, is_valid_count, body_around, is_valid_body, is_valid_end, is_valid_function}
use Rattle.c_prog.specs.Valid.Operations.{are_valid_ops, have_valid_ops, are_rising}
use Rattle.c_prog.specs.Valid.Statements.{all_valid, parts_of}
use Rattle.c_grammar.specs.declared.sign.Sign.TheVariants as s
use Rattle.c_grammar.specs.File as f
use Rattle.c_grammar.specs.Token.{Kind, IsSign}
use Rattle.c_names.specs.Texts.{DividesInto}
use Rattle.c_names.specs.Uses as n
use Rattle.c_print.specs.Text.Names.{name_at, names_in}
use Rattle.c_print.specs.Text.Canonical.{canonical}
use Rattle.print_law.proofs.Plain.{plain_body, plain_body-up, up_stmts}
use Rattle.print_law.proofs.Items.{Item, Gap, Is, kinds, marked}
use Rattle.print_law.proofs.Apart.{both}
use Rattle.print_law.proofs.Operations.{ops_items}
use Rattle.print_law.proofs.Lines.{Line, line_kinds, Hold}
use Rattle.print_law.proofs.Statements.{stmts_items}
use Rattle.print_law.proofs.StatementLines.{all_formed}
use Rattle.print_law.proofs.Parts.{Part, Empty, One, parts_lines, parts_items, parts_tree, spots_of, lines_text, parts-told, parts-hold, parts-fit, parts-good}
use Rattle.print_law.proofs.Files.{initial_items, global_line, params_items, more_params_items, head_items, prototype_line, prototype_by, body_items, function_items, start_name, start_parts, own_parts, header_parts, global_parts, prototype_parts, function_parts, spaced_parts, tree_parts, AreQuiet, tree-lawful}
use Rattle.print_law.proofs.FileText.{formed_function, tree-text}
use Rattle.print_law.proofs.Decimals.{written, quiet-digits}
use Rattle.print_law.proofs.Lexing.{kind_ok, items_ok, lines_ok, lines-divided}
use Rattle.print_law.proofs.Meanings.{declared-name}
use Rattle.print_law.proofs.SpeltExpressions.{ok-append}
use Rattle.print_law.proofs.SpeltActs.{number-ok, ops-ok}
use Rattle.print_law.proofs.Places.{all_names, stmts-formed, place-left, place-right}
use Rattle.print_law.proofs.SpeltStatements.{SpeltStmts, spelt-stmts}
use Rattle.print_law.proofs.Tables.{Entry, tree_table, known_in, Means, Names_ok, names-ok, file-facts, params-known, function-place}

-- lists

all-left : {A : Type 0} (p : A → Bool) (xs ys : List A) → list_all p (xs ++ ys) ≡ true → list_all p xs ≡ true
all-left p [] ys h = refl
all-left p (x ∷ xs) ys h = let hs = and_parts (p x) (list_all p (xs ++ ys)) h in both _ _ hs.0 (all-left p xs ys hs.1)

all-right : {A : Type 0} (p : A → Bool) (xs ys : List A) → list_all p (xs ++ ys) ≡ true → list_all p ys ≡ true
all-right p [] ys h = h
all-right p (x ∷ xs) ys h = all-right p xs ys (and_parts (p x) (list_all p (xs ++ ys)) h).1

-- the tokens of lines are those of their items

items-kinds : (items : List Item) → items_ok items ≡ list_all kind_ok (kinds items)
items-kinds [] = refl
items-kinds (Gap ∷ items) = items-kinds items
items-kinds (Is k ∷ items) = ap (λ z. kind_ok k && z) (items-kinds items)

all-split : (xs ys : List Kind) → list_all kind_ok (xs ++ ys) ≡ (list_all kind_ok xs && list_all kind_ok ys)
all-split [] ys = refl
all-split (x ∷ xs) ys = ap (λ z. kind_ok x && z) (all-split xs ys) ∙ regroup (kind_ok x) (list_all kind_ok xs) (list_all kind_ok ys)
  where
    regroup : (a b c : Bool) → (a && (b && c)) ≡ (a && b && c)
    regroup true b c = refl
    regroup false b c = refl

lines-kinds : (lines : List Line) → lines_ok lines ≡ list_all kind_ok (line_kinds lines)
lines-kinds [] = refl
lines-kinds (line ∷ more) =
    ap (λ z. z && lines_ok more) (items-kinds line) ∙ ap (λ z. list_all kind_ok (kinds line) && z) (lines-kinds more) ∙ sym (all-split (kinds line) (line_kinds more))

held-ok : (lines : List Line) (items : List Item) → Hold lines items → items_ok items ≡ true → lines_ok lines ≡ true
held-ok lines items h o = lines-kinds lines ∙ ap (list_all kind_ok) h ∙ sym (items-kinds items) ∙ o

-- names of starts

name-bytes : (xs : List ℕ) → list_all is_ascii_digit xs ≡ true → list_all is_name_byte xs ≡ true
name-bytes [] g = refl
name-bytes (x ∷ xs) g = let gs = and_parts (is_ascii_digit x) (list_all is_ascii_digit xs) g in both _ _ (digit_is_byte x gs.0) (name-bytes xs gs.1)

small : (m : ℕ) → m ≤ 2147483647 → m < 2 ^ 64
small m h = omega (arith, h)

start-ok : (number : ℕ) → nat_le number 2147483647 ≡ true → is_name_text (start_name number) ≡ true
start-ok number h =
    let w = written number (small number (leb-true number 2147483647 h)) in
    both _ _ (name-bytes (fmt.decimal number) w.digits) refl

-- the parts of a valid tree

starts-ok : (starts : List OrderId) (rest : List Part) → list_all (λ order. nat_le order.number 2147483647) starts ≡ true → items_ok (parts_items rest) ≡ true
    → items_ok (parts_items (start_parts starts ++ rest)) ≡ true
starts-ok [] rest h r = r
starts-ok (order ∷ more) rest h r =
    let hs = and_parts (nat_le order.number 2147483647) (list_all (λ o. nat_le o.number 2147483647) more) h in
    both _ _ (start-ok order.number hs.0) (starts-ok more rest hs.1 r)

own-ok : (patched : Bool) (starts : List OrderId) → list_all (λ order. nat_le order.number 2147483647) starts ≡ true → items_ok (parts_items (own_parts patched starts)) ≡ true
own-ok true starts h = starts-ok starts _ h refl
own-ok false starts h = refl

starts-quiet : (starts : List OrderId) → list_all (λ order. nat_le order.number 2147483647) starts ≡ true → AreQuiet starts
starts-quiet [] h = tt
starts-quiet (order ∷ more) h =
    let hs = and_parts (nat_le order.number 2147483647) (list_all (λ o. nat_le o.number 2147483647) more) h in
    (quiet-digits (fmt.decimal order.number) (written order.number (small order.number (leb-true order.number 2147483647 hs.0))).digits, starts-quiet more hs.1)

initial-ok : (z : ℤ) (rest : List Item) → is_initial_number z ≡ true → items_ok rest ≡ true → items_ok (initial_items z ++ rest) ≡ true
initial-ok (pos k) rest h r = both _ _ (number-ok k (and_parts (int_le (negsuc 2147483646) (pos k)) (int_le (pos k) (pos 2147483647)) h).1) r
initial-ok (negsuc k) rest h r =
    let low : k ≤ 2147483646 = leb-true k 2147483646 (and_parts (int_le (negsuc 2147483646) (negsuc k)) (int_le (negsuc k) (pos 2147483647)) h).0 in
    both _ _ (number-ok (suc k) (le-leb (suc k) 2147483647 (omega (arith, low)))) r

global-ok : (name : List ℕ) (k : GlobalKind) (rest : List Item) → is_declared_name name ≡ true → is_valid_global k ≡ true → items_ok rest ≡ true → items_ok (global_line name k ++ rest) ≡ true
global-ok name (kind.Int z) rest d v r =
    both _ _ (declared-name name d) (ap items_ok (append_assoc (initial_items z) (Is (IsSign s.Semicolon) ∷ []) rest) ∙ initial-ok z (Is (IsSign s.Semicolon) ∷ rest) v r)
global-ok name (kind.IntArray k) rest d v r = both _ _ (declared-name name d) (both _ _ (number-ok k v) r)
global-ok name kind.Thread rest d v r = both _ _ (declared-name name d) r
global-ok name (kind.ThreadArray k) rest d v r = both _ _ (declared-name name d) (both _ _ (number-ok k v) r)
global-ok name kind.Mutex rest d v r = both _ _ (declared-name name d) r
global-ok name kind.Cond rest d v r = both _ _ (declared-name name d) r

globals-ok : (list : List Global) → list_all is_declared_name (map (λ g. g.name) list) ≡ true → list_all (λ global. is_valid_global global.kind) list ≡ true → items_ok (parts_items (global_parts list)) ≡ true
globals-ok [] d v = refl
globals-ok (g ∷ more) d v =
    let ds = and_parts (is_declared_name g.name) (list_all is_declared_name (map (λ x. x.name) more)) d in
    let vs = and_parts (is_valid_global g.kind) (list_all (λ global. is_valid_global global.kind) more) v in
    global-ok g.name g.kind (parts_items (global_parts more)) ds.0 vs.0 (globals-ok more ds.1 vs.1)

more-params-ok : (ps : List (List ℕ)) → list_all is_declared_name ps ≡ true → items_ok (more_params_items ps) ≡ true
more-params-ok [] d = refl
more-params-ok (p ∷ more) d = let ds = and_parts (is_declared_name p) (list_all is_declared_name more) d in both _ _ (declared-name p ds.0) (more-params-ok more ds.1)

params-ok : (ps : List (List ℕ)) → list_all is_declared_name ps ≡ true → items_ok (params_items ps) ≡ true
params-ok [] d = refl
params-ok (p ∷ more) d = let ds = and_parts (is_declared_name p) (list_all is_declared_name more) d in both _ _ (declared-name p ds.0) (more-params-ok more ds.1)

-- the one parameter of the function of a thread
pub one-param : (ps : List (List ℕ)) → (length ps == 1) ≡ true → (p : List ℕ) × (ps ≡ p ∷ [])
one-param [] h = absurd (true≢false (sym h))
one-param (p ∷ []) h = (p, refl)
one-param (p ∷ q ∷ more) h = absurd (let e = eqb-true (length (p ∷ q ∷ more)) 1 h in omega (arith, e))

plain-head-ok : (name : List ℕ) (ps : List (List ℕ)) → is_declared_name name ≡ true → list_all is_declared_name ps ≡ true
    → (is_name_text name && items_ok (params_items ps ++ Is (IsSign s.CloseParen) ∷ [])) ≡ true
plain-head-ok name ps d p = both _ _ (declared-name name d) (ok-append (params_items ps) (Is (IsSign s.CloseParen) ∷ []) (params-ok ps p) refl)

head-ok : (k : FnKind) (name : List ℕ) (ps : List (List ℕ)) → is_declared_name name ≡ true → list_all is_declared_name ps ≡ true → is_valid_count k (length ps) ≡ true → items_ok (head_items k name ps) ≡ true
head-ok gives.Int name ps d p c = plain-head-ok name ps d p
head-ok gives.Void name ps d p c = plain-head-ok name ps d p
head-ok gives.Thread name ps d p c =
    let one = one-param ps c in
    let first : is_declared_name (name_at ps 0) ≡ true =
    ap (λ z. is_declared_name (name_at z 0)) one.1 ∙ (and_parts (is_declared_name one.0) true (sym (ap (list_all is_declared_name) one.1) ∙ p)).0 in
    both _ _ (declared-name name d) (both _ _ (declared-name (name_at ps 0) first) refl)

-- what a valid function says
pub record FunctionParts (file : File) (fn : Function) : Type 0 where
  pub params : list_all is_declared_name fn.params ≡ true
  pub distinct : are_distinct fn.params ≡ true
  pub count : is_valid_count fn.kind (length fn.params) ≡ true
  pub body : all_valid (parts_of file (up_stmts (plain_body fn.body))) (body_around fn) (body_scope fn) ≡ true
  pub end : is_valid_end fn ≡ true
  pub formed : all_formed (plain_body fn.body) ≡ true

pub function-parts : (file : File) (fn : Function) → is_valid_function file fn ≡ true → FunctionParts file fn
function-parts file fn v =
    let a = and_parts (are_declared_names fn.params && is_valid_count fn.kind (length fn.params) && is_valid_body file fn) (is_valid_end fn) v in
    let b = and_parts (are_declared_names fn.params && is_valid_count fn.kind (length fn.params)) (is_valid_body file fn) a.0 in
    let c = and_parts (are_declared_names fn.params) (is_valid_count fn.kind (length fn.params)) b.0 in
    let d = and_parts (list_all is_declared_name fn.params) (are_distinct fn.params) c.0 in
    let body : all_valid (parts_of file (up_stmts (plain_body fn.body))) (body_around fn) (body_scope fn) ≡ true =
    ap (λ z. all_valid (parts_of file z) (body_around fn) (body_scope fn)) (plain_body-up fn.body) ∙ b.1 in
    record { params = d.0; distinct = d.1; count = c.1; body = body; end = a.1; formed = stmts-formed file (body_around fn) (body_scope fn) (plain_body fn.body) body }

module _ (tree : Tree) (ok : Names_ok tree) (known : n.Names) (means : Means known (tree_table tree)) where
  -- the body of a valid function is spelled again
  pub function-spelt : (fn : Function) → is_valid_function (file_of tree) fn ≡ true → has_valid_function_ops fn ≡ true
      → SpeltStmts (names_in tree fn) known (file_of tree) (file-facts tree ok known means fn) (body_around fn) (body_scope fn) (plain_body fn.body)
  function-spelt fn v w =
      let names = names_in tree fn in
      let p = function-parts (file_of tree) fn v in
      let ws = and_parts (are_valid_ops fn.start) (have_valid_ops fn.body) w in
      let place = function-place tree fn p.formed in
      let k = params-known names (param_kind fn.kind) fn.params nothing_declared p.params tt (place-left names 0 fn.params (all_names (plain_body fn.body)) place) in
      spelt-stmts names known (file_of tree) (file-facts tree ok known means fn) (plain_body fn.body) (body_around fn) (body_scope fn) p.body
      (ap have_valid_ops (plain_body-up fn.body) ∙ ws.1) k.locals (place-right names 0 (body_scope fn).count fn.params (all_names (plain_body fn.body)) k.count place)

  function-ok : (fn : Function) → is_declared_name fn.name ≡ true → is_valid_function (file_of tree) fn ≡ true → has_valid_function_ops fn ≡ true → items_ok (function_items (names_in tree fn) fn) ≡ true
  function-ok fn d v w =
      let p = function-parts (file_of tree) fn v in
      let ws = and_parts (are_valid_ops fn.start) (have_valid_ops fn.body) w in
      let body = (function-spelt fn v w).ok in
      ok-append (head_items fn.kind fn.name fn.params) (body_items (names_in tree fn) fn) (head-ok fn.kind fn.name fn.params d p.params p.count)
      (ok-append (ops_items fn.start) (stmts_items (names_in tree fn) (plain_body fn.body) ++ Is (IsSign s.CloseBrace) ∷ []) (ops-ok fn.start ws.0)
      (ok-append (stmts_items (names_in tree fn) (plain_body fn.body)) (Is (IsSign s.CloseBrace) ∷ []) body refl))

  functions-ok : (list : List Function) → list_all is_declared_name (map (λ x. x.name) list) ≡ true → list_all (is_valid_function (file_of tree)) list ≡ true
      → list_all has_valid_function_ops list ≡ true → items_ok (parts_items (function_parts tree list)) ≡ true
  functions-ok [] d v w = refl
  functions-ok (fn ∷ []) d v w =
      ok-append (function_items (names_in tree fn) fn) []
      (function-ok fn (and_parts (is_declared_name fn.name) true d).0 (and_parts (is_valid_function (file_of tree) fn) true v).0 (and_parts (has_valid_function_ops fn) true w).0) refl
  functions-ok (fn ∷ next ∷ more) d v w =
      let ds = and_parts (is_declared_name fn.name) (list_all is_declared_name (map (λ x. x.name) (next ∷ more))) d in
      let vs = and_parts (is_valid_function (file_of tree) fn) (list_all (is_valid_function (file_of tree)) (next ∷ more)) v in
      let ws = and_parts (has_valid_function_ops fn) (list_all has_valid_function_ops (next ∷ more)) w in
      ok-append (function_items (names_in tree fn) fn) (parts_items (function_parts tree (next ∷ more))) (function-ok fn ds.0 vs.0 ws.0) (functions-ok (next ∷ more) ds.1 vs.1 ws.1)

prototype-ok : (main : Bool) (file : File) (fn : Function) (rest : List Part) → is_declared_name fn.name ≡ true → is_valid_function file fn ≡ true → items_ok (parts_items rest) ≡ true
    → items_ok (parts_items (prototype_by main fn ++ rest)) ≡ true
prototype-ok true file fn rest d v r = r
prototype-ok false file fn rest d v r =
    let p = function-parts file fn v in
    ok-append (prototype_line fn) (parts_items rest)
    (ok-append (head_items fn.kind fn.name fn.params) (Is (IsSign s.Semicolon) ∷ []) (head-ok fn.kind fn.name fn.params d p.params p.count) refl) r

prototypes-ok : (file : File) (list : List Function) → list_all is_declared_name (map (λ x. x.name) list) ≡ true → list_all (is_valid_function file) list ≡ true → items_ok (parts_items (prototype_parts list)) ≡ true
prototypes-ok file [] d v = refl
prototypes-ok file (fn ∷ more) d v =
    let ds = and_parts (is_declared_name fn.name) (list_all is_declared_name (map (λ x. x.name) more)) d in
    let vs = and_parts (is_valid_function file fn) (list_all (is_valid_function file) more) v in
    prototype-ok (bytes_eq fn.name (codes "main")) file fn (prototype_parts more) ds.0 vs.0 (prototypes-ok file more ds.1 vs.1)

-- parts one behind another

pub parts-items-append : (ps qs : List Part) → parts_items (ps ++ qs) ≡ parts_items ps ++ parts_items qs
parts-items-append [] qs = refl
parts-items-append (Empty ∷ ps) qs = parts-items-append ps qs
parts-items-append (One lines items t ∷ ps) qs = ap (λ z. items ++ z) (parts-items-append ps qs) ∙ sym (append_assoc items (parts_items ps) (parts_items qs))

parts-ok-append : (ps qs : List Part) → items_ok (parts_items ps) ≡ true → items_ok (parts_items qs) ≡ true → items_ok (parts_items (ps ++ qs)) ≡ true
parts-ok-append ps qs a b = ap items_ok (parts-items-append ps qs) ∙ ok-append (parts_items ps) (parts_items qs) a b

spaced-ok : (ps : List Part) → items_ok (parts_items ps) ≡ true → items_ok (parts_items (spaced_parts ps)) ≡ true
spaced-ok [] h = refl
spaced-ok (p ∷ more) h = parts-ok-append (p ∷ more) (Empty ∷ []) h refl

pub formed-functions : (file : File) (list : List Function) → list_all (is_valid_function file) list ≡ true → list_all formed_function list ≡ true
formed-functions file [] v = refl
formed-functions file (fn ∷ more) v =
    let vs = and_parts (is_valid_function file fn) (list_all (is_valid_function file) more) v in
    both _ _ (function-parts file fn vs.0).formed (formed-functions file more vs.1)

-- the names of a valid tree
pub valid-names : (tree : Tree) → IsValid tree → Names_ok tree
valid-names tree v = names-ok tree v.names

-- names that mean what the table says
pub table-means : (table : List Entry) → Means (known_in table) table
table-means table = record { first = λ text. refl; form = λ text. refl; defined = λ text. refl }

pub small-starts : (tree : Tree) → IsValid tree → list_all (λ order. nat_le order.number 2147483647) tree.starts ≡ true
small-starts tree v = (and_parts (are_rising tree.starts) (list_all (λ order. nat_le order.number 2147483647) tree.starts) v.starts).1

tree-ok : (tree : Tree) → IsValid tree → items_ok (parts_items (tree_parts tree)) ≡ true
tree-ok tree v =
    let names = valid-names tree v in
    let globals = all-left is_declared_name (map (λ g. g.name) tree.globals) (map (λ x. x.name) tree.functions) names.declared in
    let functions = all-right is_declared_name (map (λ g. g.name) tree.globals) (map (λ x. x.name) tree.functions) names.declared in
    let third = spaced_parts (prototype_parts tree.functions) ++ function_parts tree tree.functions in
    parts-ok-append (spaced_parts (header_parts tree)) (spaced_parts (global_parts tree.globals) ++ third)
    (spaced-ok (header_parts tree) (own-ok (tree_patched tree) tree.starts (small-starts tree v)))
    (parts-ok-append (spaced_parts (global_parts tree.globals)) third (spaced-ok (global_parts tree.globals) (globals-ok tree.globals globals v.globals))
    (parts-ok-append (spaced_parts (prototype_parts tree.functions)) (function_parts tree tree.functions)
    (spaced-ok (prototype_parts tree.functions) (prototypes-ok (file_of tree) tree.functions functions v.functions))
    (functions-ok tree names (known_in (tree_table tree)) (table-means (tree_table tree)) tree.functions functions v.functions v.operations)))

-- the spots of the tokens of the canonical text, and its file

pub tree_spots : Tree → List Spot
tree_spots tree = spots_of [] (parts_lines (tree_parts tree))

pub tree_file : Tree → f.File
tree_file tree = parts_tree (tree_parts tree) (tree_spots tree)

pub tree_file-is : (tree : Tree) → tree_file tree ≡ parts_tree (tree_parts tree) (tree_spots tree)
unfolding tree_file
tree_file-is tree = refl

pub file-derived : (tree : Tree) → IsValid tree → f.is_file (tree_file tree) ≡ true
unfolding tree_file tree_spots
file-derived tree v = parts-good (tree_parts tree) (tree-lawful tree (starts-quiet tree.starts (small-starts tree v))) []

pub text-divided : (tree : Tree) → IsValid tree → DividesInto (canonical tree) (f.file_tokens (tree_file tree))
unfolding tree_file tree_spots
text-divided tree v =
    let ps = tree_parts tree in
    let laws = tree-lawful tree (starts-quiet tree.starts (small-starts tree v)) in
    let hold = parts-hold ps laws in
    let tokens : f.file_tokens (parts_tree ps (spots_of [] (parts_lines ps))) ≡ marked (spots_of [] (parts_lines ps)) (line_kinds (parts_lines ps)) =
    parts-told ps laws (spots_of [] (parts_lines ps)) ∙ ap (marked (spots_of [] (parts_lines ps))) (sym hold) in
    let text : canonical tree ≡ lines_text (parts_lines ps) = tree-text tree (formed-functions (file_of tree) tree.functions v.functions) in
    let divided = lines-divided (parts_lines ps) (held-ok (parts_lines ps) (parts_items ps) hold (tree-ok tree v)) (parts-fit ps laws) in
    subst (λ z. DividesInto (canonical tree) z) (sym tokens) (subst (λ z. DividesInto z (marked (spots_of [] (parts_lines ps)) (line_kinds (parts_lines ps)))) (sym text) divided)
