-- The text of the parts of a program is the canonical text.
use Rattle.std.proofs.Common.{◌≡◌, ℕ, pos, negsuc, Bool, true, false, List, [], ◌∷◌, ◌++◌, map, append_assoc, append-nil, refl, ap, sym, ◌∙◌, codes, arith, true≢false, if◌then◌else◌}
use Rattle.std.proofs.lemmas.Bool.{and_parts}
use Rattle.std.proofs.lemmas.Fmt.{decimal_digit}
use Rattle.std.specs.Fmt.{decimal}
use Rattle.std.specs.List.{list_all}
use Rattle.std.specs.Str.{bytes_eq}
use Rattle.cfix_base.specs.declared.number.OrderId.{OrderId}
use Rattle.c_prog.specs.declared.function.FnKind.{FnKind}
use Rattle.c_prog.specs.declared.function.FnKind.TheVariants as gives
use Rattle.c_prog.specs.declared.function.Function.{Function}
use Rattle.c_prog.specs.declared.global.Global.{Global}
use Rattle.c_prog.specs.declared.global.GlobalKind.{GlobalKind}
use Rattle.c_prog.specs.declared.global.GlobalKind.TheVariants as kind
use Rattle.c_prog.specs.declared.tree.Tree.{Tree}
use Rattle.c_prog.specs.Order.{joined}
use Rattle.c_prog.specs.Patched.{tree_patched}
use Rattle.c_grammar.specs.declared.sign.Sign.TheVariants as s
use Rattle.c_grammar.specs.Token.{IsSign}
use Rattle.c_print.specs.Text.Names.{name_at, names_in}
use Rattle.c_print.specs.Text.Pieces as pieces
use Rattle.c_print.specs.Text.Canonical as print
use Rattle.c_print.specs.Text.Operations.{op_lines}
use Rattle.c_print.specs.Text.Statements as statements
use Rattle.c_print.proofs.Betweens.{between-more}
use Rattle.print_law.proofs.Plain.{plain_body, plain_body-up}
use Rattle.print_law.proofs.Items.{Gap, Is}
use Rattle.print_law.proofs.Texts.{spelled, spelled-append, spelled-closed}
use Rattle.print_law.proofs.Operations.{ops_lines, ops-text}
use Rattle.print_law.proofs.Lines.{texts, texts-append, texts-braced}
use Rattle.print_law.proofs.StatementLines.{stmts_lines, stmts-text, all_formed}
use Rattle.print_law.proofs.Parts.{Part, Empty, One, part_lines, parts_lines}
use Rattle.print_law.proofs.Files.{start_line, global_line, head_items, params_items, more_params_items, prototype_by, function_lines, body_lines, start_parts, own_parts, header_parts, global_parts, prototype_parts, function_parts, spaced_parts, tree_parts}

lines-append : (ps qs : List Part) → parts_lines (ps ++ qs) ≡ parts_lines ps ++ parts_lines qs
lines-append [] qs = refl
lines-append (p ∷ ps) qs = ap (λ z. part_lines p ++ z) (lines-append ps qs) ∙ sym (append_assoc (part_lines p) (parts_lines ps) (parts_lines qs))

-- the texts of parts
abbrev told : List Part → List (List ℕ)
told ps = texts (parts_lines ps)

told-append : (ps qs : List Part) → told (ps ++ qs) ≡ told ps ++ told qs
told-append ps qs = ap texts (lines-append ps qs) ∙ texts-append (parts_lines ps) (parts_lines qs)

abbrev has_line : Part → Bool
has_line (One (line ∷ lines) items tree) = true
has_line _ = false

told-spaced : (ps : List Part) → list_all has_line ps ≡ true → told (spaced_parts ps) ≡ pieces.spaced (told ps)
told-spaced [] h = refl
told-spaced (Empty ∷ more) h = absurd (true≢false (sym h))
told-spaced (One [] items tree ∷ more) h = absurd (true≢false (sym h))
told-spaced (One (line ∷ lines) items tree ∷ more) h = told-append (One (line ∷ lines) items tree ∷ more) (Empty ∷ [])

-- the header

start-text : (n : ℕ) → codes "#define CFIX_START_" ++ decimal n ++ codes " 1" ≡ spelled (start_line n)
start-text n =
    append_assoc (codes "#define CFIX_START_") (decimal n) (codes " 1")
    ∙ ap (λ z. codes "#define CFIX_START_" ++ (decimal n ++ (32 ∷ (z ++ [])))) (sym (decimal_digit 1 (omega arith)))

starts-text : (starts : List OrderId) → map print.start_line starts ≡ told (start_parts starts)
starts-text [] = refl
starts-text (order ∷ more) =
    ap (λ z. z ∷ map print.start_line more) (start-text order.number) ∙ ap (λ z. spelled (start_line order.number) ∷ z) (starts-text more)

own-text-by : (patched : Bool) (starts : List OrderId)
    → (if patched then map print.start_line starts ++ (codes "#include " ++ 34 ∷ codes "cfix.h" ++ 34 ∷ []) ∷ [] else []) ≡ told (own_parts patched starts)
own-text-by true starts =
    ap (λ z. z ++ (codes "#include " ++ 34 ∷ codes "cfix.h" ++ 34 ∷ []) ∷ []) (starts-text starts) ∙ sym (told-append (start_parts starts) _)
own-text-by false starts = refl

header-text : (tree : Tree) → print.header_lines tree ≡ told (header_parts tree)
header-text tree = ap (λ z. codes "#include <pthread.h>" ∷ codes "#include <stdio.h>" ∷ z) (own-text-by (tree_patched tree) tree.starts)

starts-full : (starts : List OrderId) (more : List Part) → list_all has_line more ≡ true → list_all has_line (start_parts starts ++ more) ≡ true
starts-full [] more h = h
starts-full (order ∷ starts) more h = starts-full starts more h

header-full-by : (patched : Bool) (starts : List OrderId) → list_all has_line (own_parts patched starts) ≡ true
header-full-by true starts = starts-full starts _ refl
header-full-by false starts = refl

-- global variables

length-text : (front name : List ℕ) (n : ℕ) → pieces.ended (front ++ name ++ pieces.in_brackets (decimal n)) ≡ front ++ (name ++ (91 ∷ (decimal n ++ 93 ∷ 59 ∷ [])))
length-text front name n = simp append_assoc refl

global-text-by : (name : List ℕ) (k : GlobalKind) → pieces.ended (print.global_text name k) ≡ spelled (global_line name k)
global-text-by name (kind.Int (pos n)) = simp append_assoc refl
global-text-by name (kind.Int (negsuc n)) = simp append_assoc refl
global-text-by name (kind.IntArray n) = length-text (codes "int ") name n
global-text-by name kind.Thread = append_assoc (codes "pthread_t ") name (codes ";")
global-text-by name (kind.ThreadArray n) = length-text (codes "pthread_t ") name n
global-text-by name kind.Mutex = simp append_assoc refl
global-text-by name kind.Cond = simp append_assoc refl

globals-text : (list : List Global) → map print.global_line list ≡ told (global_parts list)
globals-text [] = refl
globals-text (g ∷ more) =
    ap (λ z. z ∷ map print.global_line more) (global-text-by g.name g.kind) ∙ ap (λ z. spelled (global_line g.name g.kind) ∷ z) (globals-text more)

globals-full : (list : List Global) → list_all has_line (global_parts list) ≡ true
globals-full [] = refl
globals-full (g ∷ more) = globals-full more

-- heads

more-params-text : (ps : List (List ℕ)) → joined (map (λ p. codes ", " ++ (codes "int " ++ p)) ps) ≡ spelled (more_params_items ps)
more-params-text [] = refl
more-params-text (p ∷ more) =
    ap (λ z. (codes ", " ++ (codes "int " ++ p)) ++ z) (more-params-text more) ∙ append_assoc (codes ", int ") p (spelled (more_params_items more))

params-text : (ps : List (List ℕ)) → print.params_text ps ≡ spelled (params_items ps)
params-text [] = refl
params-text (p ∷ more) =
    between-more (codes ", ") (λ name. codes "int " ++ name) p more
    ∙ ap (λ z. (codes "int " ++ p) ++ z) (more-params-text more) ∙ append_assoc (codes "int ") p (spelled (more_params_items more))

plain-head-text : (front name : List ℕ) (ps : List (List ℕ))
    → front ++ name ++ pieces.in_parentheses (print.params_text ps) ≡ front ++ (name ++ (40 ∷ spelled (params_items ps ++ Is (IsSign s.CloseParen) ∷ [])))
plain-head-text front name ps =
    append_assoc front name (pieces.in_parentheses (print.params_text ps))
    ∙ ap (λ z. front ++ (name ++ (40 ∷ (z ++ 41 ∷ [])))) (params-text ps)
    ∙ ap (λ z. front ++ (name ++ (40 ∷ z))) (sym (spelled-closed (params_items ps) (IsSign s.CloseParen)))

head-text : (k : FnKind) (name : List ℕ) (ps : List (List ℕ)) → print.head_text k name ps ≡ spelled (head_items k name ps)
head-text gives.Int name ps = plain-head-text (codes "int ") name ps
head-text gives.Void name ps = plain-head-text (codes "void ") name ps
head-text gives.Thread name ps =
    append_assoc (codes "void *") name (pieces.in_parentheses (codes "void *" ++ name_at ps 0))

-- prototypes

prototype-text-by : (main : Bool) (fn : Function) → (if main then [] else pieces.ended (print.head_of fn) ∷ []) ≡ told (prototype_by main fn)
prototype-text-by true fn = refl
prototype-text-by false fn =
    ap (λ z. pieces.ended z ∷ []) (head-text fn.kind fn.name fn.params)
    ∙ ap (λ z. z ∷ []) (sym (spelled-closed (head_items fn.kind fn.name fn.params) (IsSign s.Semicolon)))

prototypes-text : (list : List Function) → joined (map print.prototype_lines list) ≡ told (prototype_parts list)
prototypes-text [] = refl
prototypes-text (fn ∷ more) =
    ap (λ z. z ++ joined (map print.prototype_lines more)) (prototype-text-by (bytes_eq fn.name (codes "main")) fn)
    ∙ ap (λ z. told (prototype_by (bytes_eq fn.name (codes "main")) fn) ++ z) (prototypes-text more)
    ∙ sym (told-append (prototype_by (bytes_eq fn.name (codes "main")) fn) (prototype_parts more))

prototype-full : (main : Bool) (fn : Function) (more : List Part) → list_all has_line more ≡ true → list_all has_line (prototype_by main fn ++ more) ≡ true
prototype-full true fn more h = h
prototype-full false fn more h = h

prototypes-full : (list : List Function) → list_all has_line (prototype_parts list) ≡ true
prototypes-full [] = refl
prototypes-full (fn ∷ more) = prototype-full (bytes_eq fn.name (codes "main")) fn (prototype_parts more) (prototypes-full more)

-- functions

abbrev pub formed_function : Function → Bool
formed_function fn = all_formed (plain_body fn.body)

function-text : (tree : Tree) (fn : Function) → formed_function fn ≡ true → print.function_lines tree fn ≡ texts (function_lines (names_in tree fn) fn)
function-text tree fn h =
    let names = names_in tree fn in
    let body = plain_body fn.body in
    let items = head_items fn.kind fn.name fn.params in
    let inner : statements.body_lines names fn.body ≡ texts (stmts_lines names body) =
    ap (statements.body_lines names) (sym (plain_body-up fn.body)) ∙ stmts-text names body h in
    ap (λ z. pieces.braced (z ++ codes " ") (op_lines fn.start ++ statements.body_lines names fn.body)) (head-text fn.kind fn.name fn.params)
    ∙ ap (λ z. pieces.braced z (op_lines fn.start ++ statements.body_lines names fn.body)) (sym (spelled-append items (Gap ∷ [])))
    ∙ ap (λ z. pieces.braced (spelled (items ++ Gap ∷ [])) (z ++ statements.body_lines names fn.body)) (ops-text fn.start)
    ∙ ap (λ z. pieces.braced (spelled (items ++ Gap ∷ [])) (texts (ops_lines fn.start) ++ z)) inner
    ∙ ap (pieces.braced (spelled (items ++ Gap ∷ []))) (sym (texts-append (ops_lines fn.start) (stmts_lines names body)))
    ∙ sym (texts-braced (items ++ Gap ∷ []) (body_lines names fn))

functions-text : (tree : Tree) (list : List Function) → list_all formed_function list ≡ true → pieces.apart (map (print.function_lines tree) list) ≡ told (function_parts tree list)
functions-text tree [] h = refl
functions-text tree (fn ∷ []) h =
    function-text tree fn (and_parts (formed_function fn) true h).0 ∙ ap texts (sym (append-nil (function_lines (names_in tree fn) fn)))
functions-text tree (fn ∷ next ∷ more) h =
    let hs = and_parts (formed_function fn) (list_all formed_function (next ∷ more)) h in
    ap (λ z. z ++ [] ∷ pieces.apart (map (print.function_lines tree) (next ∷ more))) (function-text tree fn hs.0)
    ∙ ap (λ z. texts (function_lines (names_in tree fn) fn) ++ [] ∷ z) (functions-text tree (next ∷ more) hs.1)
    ∙ sym (texts-append (function_lines (names_in tree fn) fn) (parts_lines (Empty ∷ function_parts tree (next ∷ more))))

pub tree-text : (tree : Tree) → list_all formed_function tree.functions ≡ true → print.canonical tree ≡ pieces.text_of (told (tree_parts tree))
unfolding print.canonical
tree-text tree h =
    let last = function_parts tree tree.functions in
    let third = spaced_parts (prototype_parts tree.functions) ++ last in
    let second = spaced_parts (global_parts tree.globals) ++ third in
    let a : pieces.spaced (print.header_lines tree) ≡ told (spaced_parts (header_parts tree)) =
    ap pieces.spaced (header-text tree) ∙ sym (told-spaced (header_parts tree) (header-full-by (tree_patched tree) tree.starts)) in
    let b : pieces.spaced (map print.global_line tree.globals) ≡ told (spaced_parts (global_parts tree.globals)) =
    ap pieces.spaced (globals-text tree.globals) ∙ sym (told-spaced (global_parts tree.globals) (globals-full tree.globals)) in
    let c : pieces.spaced (joined (map print.prototype_lines tree.functions)) ≡ told (spaced_parts (prototype_parts tree.functions)) =
    ap pieces.spaced (prototypes-text tree.functions) ∙ sym (told-spaced (prototype_parts tree.functions) (prototypes-full tree.functions)) in
    let d = functions-text tree tree.functions h in
    ap pieces.text_of
    (group (pieces.spaced (print.header_lines tree)) (pieces.spaced (map print.global_line tree.globals)) (pieces.spaced (joined (map print.prototype_lines tree.functions)))
    (pieces.apart (map (print.function_lines tree) tree.functions))
    ∙ ap (λ z. z ++ (pieces.spaced (map print.global_line tree.globals) ++ (pieces.spaced (joined (map print.prototype_lines tree.functions)) ++ pieces.apart (map (print.function_lines tree) tree.functions)))) a
    ∙ ap (λ z. told (spaced_parts (header_parts tree)) ++ (z ++ (pieces.spaced (joined (map print.prototype_lines tree.functions)) ++ pieces.apart (map (print.function_lines tree) tree.functions)))) b
    ∙ ap (λ z. told (spaced_parts (header_parts tree)) ++ (told (spaced_parts (global_parts tree.globals)) ++ (z ++ pieces.apart (map (print.function_lines tree) tree.functions)))) c
    ∙ ap (λ z. told (spaced_parts (header_parts tree)) ++ (told (spaced_parts (global_parts tree.globals)) ++ (told (spaced_parts (prototype_parts tree.functions)) ++ z))) d
    ∙ ap (λ z. told (spaced_parts (header_parts tree)) ++ (told (spaced_parts (global_parts tree.globals)) ++ z)) (sym (told-append (spaced_parts (prototype_parts tree.functions)) last))
    ∙ ap (λ z. told (spaced_parts (header_parts tree)) ++ z) (sym (told-append (spaced_parts (global_parts tree.globals)) third))
    ∙ sym (told-append (spaced_parts (header_parts tree)) second))
  where
    group : (a b c d : List (List ℕ)) → a ++ b ++ c ++ d ≡ a ++ (b ++ (c ++ d))
    group a b c d = append_assoc (a ++ b) c d ∙ append_assoc a b (c ++ d)
