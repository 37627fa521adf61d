-- What the file of a program declares, part by part.
use Rattle.std.proofs.Common.{◌≡◌, ℕ, suc, pos, ◌+◌, Bool, true, false, ◌||◌, List, [], ◌∷◌, ◌++◌, map, length, Some, append-nil, refl, ap, sym, ◌∙◌, subst, codes, if◌then◌else◌}
use Rattle.std.proofs.lemmas.Bool.{and_parts}
use Rattle.std.specs.List.{list_all}
use Rattle.std.specs.Str.{bytes_eq}
use Rattle.cfix_base.specs.declared.number.OrderId.{OrderId}
use Rattle.cfix_base.specs.declared.spot.Spot.{Spot}
use Rattle.c_prog.specs.declared.function.FnKind.{FnKind}
use Rattle.c_prog.specs.declared.function.FnKind.TheVariants as gives
use Rattle.c_prog.specs.declared.function.Function.{Function}
use Rattle.c_prog.specs.declared.global.Global.{Global}
use Rattle.c_prog.specs.declared.global.GlobalKind.{GlobalKind}
use Rattle.c_prog.specs.declared.global.GlobalKind.TheVariants as kind
use Rattle.c_prog.specs.declared.tree.Tree.{Tree}
use Rattle.c_prog.specs.Patched.{tree_patched}
use Rattle.c_prog.specs.Valid.Functions.{is_valid_count}
use Rattle.c_prog.specs.Valid.Kinds.{global_var_kind}
use Rattle.c_grammar.specs.Marks.{maybe}
use Rattle.c_grammar.specs.File as f
use Rattle.c_grammar.specs.Token.{Ident}
use Rattle.c_print.specs.Text.Names.{names_in}
use Rattle.c_names.specs.Uses as n
use Rattle.c_names.specs.Declarations.{head_name, head_kind, Parameter, param_of, params_of, head_params, Declaration, declarations_from, declarations, first_meaning, form_or, first_form, is_number, is_defined_in, names_of}
use Rattle.c_names.specs.Files.{param_text}
use Rattle.print_law.proofs.Items.{here, later, after, after-append}
use Rattle.print_law.proofs.Parts.{Part, Empty, One, parts_items, parts_tree}
use Rattle.print_law.proofs.Files.{start_name, start_line, start_parts, own_parts, own_line, own_tree, include_line, global_line, global_tree, prototype_line, function_items, header_parts, global_parts, prototype_by, prototype_parts, function_parts, spaced_parts, tree_parts, more_params_tree, params_tree, head_tree}
use Rattle.print_law.proofs.Programs.{one-param}
use Rattle.print_law.proofs.Tables.{Entry, starts_table, own_table, globals_table, functions_table, tree_table, lookup, form_in, defined_in, Means}

-- the tree of parts one behind another

pub parts-tree-append : (ps qs : List Part) (spots : List Spot) → parts_tree (ps ++ qs) spots ≡ parts_tree ps spots ++ parts_tree qs (after spots (parts_items ps))
parts-tree-append [] qs spots = refl
parts-tree-append (Empty ∷ ps) qs spots = parts-tree-append ps qs spots
parts-tree-append (One lines items tree ∷ ps) qs spots =
    ap (λ z. tree spots ∷ z) (parts-tree-append ps qs (after spots items))
    ∙ ap (λ z. (tree spots ∷ parts_tree ps (after spots items)) ++ parts_tree qs z) (sym (after-append spots items (parts_items ps)))

spaced-tree : (ps : List Part) (spots : List Spot) → parts_tree (spaced_parts ps) spots ≡ parts_tree ps spots
spaced-tree [] spots = refl
spaced-tree (p ∷ more) spots = parts-tree-append (p ∷ more) (Empty ∷ []) spots ∙ append-nil (parts_tree (p ∷ more) spots)

-- the sections of a file: header, globals, prototypes, functions
pub record Sections (tree : Tree) (file : f.File) : Type 0 where
  pub header : List Spot
  pub globals : List Spot
  pub prototypes : List Spot
  pub functions : List Spot
  pub is : file ≡ parts_tree (header_parts tree) header ++ (parts_tree (global_parts tree.globals) globals ++ (parts_tree (prototype_parts tree.functions) prototypes
      ++ parts_tree (function_parts tree tree.functions) functions))

pub sections : (tree : Tree) (spots : List Spot) → Sections tree (parts_tree (tree_parts tree) spots)
sections tree spots =
    let a = spaced_parts (header_parts tree) in
    let b = spaced_parts (global_parts tree.globals) in
    let c = spaced_parts (prototype_parts tree.functions) in
    let d = function_parts tree tree.functions in
    let s1 = after spots (parts_items a) in
    let s2 = after s1 (parts_items b) in
    let s3 = after s2 (parts_items c) in
    record {
      header = spots;
      globals = s1;
      prototypes = s2;
      functions = s3;
      is = parts-tree-append a (b ++ (c ++ d)) spots
          ∙ ap (λ z. parts_tree a spots ++ z) (parts-tree-append b (c ++ d) s1)
          ∙ ap (λ z. parts_tree a spots ++ (parts_tree b s1 ++ z)) (parts-tree-append c d s2)
          ∙ ap (λ z. z ++ (parts_tree b s1 ++ (parts_tree c s2 ++ parts_tree d s3))) (spaced-tree (header_parts tree) spots)
          ∙ ap (λ z. parts_tree (header_parts tree) spots ++ (z ++ (parts_tree c s2 ++ parts_tree d s3))) (spaced-tree (global_parts tree.globals) s1)
          ∙ ap (λ z. parts_tree (header_parts tree) spots ++ (parts_tree (global_parts tree.globals) s1 ++ (z ++ parts_tree d s3))) (spaced-tree (prototype_parts tree.functions) s2);
    }

-- heads

-- parameters with these names
abbrev pub Named : List Parameter → List (List ℕ) → Type 0
Named [] [] = Unit {0}
Named [] (p ∷ ps) = ⊥
Named (q ∷ list) [] = ⊥
Named (q ∷ list) (p ∷ ps) = ((x : Ident) × (q.1 ≡ Some x) × (x.text ≡ p)) × Named list ps

more-named : (ps : List (List ℕ)) (spots : List Spot) → Named (map param_of (map (λ y. y.1) (more_params_tree ps spots))) ps
more-named [] spots = tt
more-named (p ∷ more) spots = ((record { text = p; spot = here (later (later spots)) }, refl, refl), more-named more (later (later (later spots))))

params-named : (ps : List (List ℕ)) (spots : List Spot) → Named (params_of (params_tree ps spots)) ps
params-named [] spots = tt
params-named (p ∷ more) spots = ((record { text = p; spot = here (later spots) }, refl, refl), more-named more (later (later spots)))

pub head-named : (k : FnKind) (name : List ℕ) (ps : List (List ℕ)) (spots : List Spot) → is_valid_count k (length ps) ≡ true → Named (head_params (head_tree k name ps spots)) ps
head-named gives.Int name ps spots c = params-named ps (later (later (later spots)))
head-named gives.Void name ps spots c = params-named ps (later (later (later spots)))
head-named gives.Thread name ps spots c =
    let one = one-param ps c in
    subst (λ z. Named (head_params (head_tree gives.Thread name z spots)) z) (sym one.1)
    ((record { text = one.0; spot = here (later (later (later (later (later (later spots)))))) }, refl, refl), tt)

pub named-texts : (list : List Parameter) (ps : List (List ℕ)) → Named list ps → map param_text list ≡ ps
named-texts [] [] h = refl
named-texts [] (p ∷ ps) h = absurd h
named-texts (q ∷ list) [] h = absurd h
named-texts (q ∷ list) (p ∷ ps) h =
    ap (λ z. maybe [] (λ (x : Ident). x.text) z ∷ map param_text list) h.0.1 ∙ ap (λ z. z ∷ map param_text list) h.0.2 ∙ ap (λ z. p ∷ z) (named-texts list ps h.1)

map-length : {A B : Type 0} (g : A → B) (xs : List A) → length (map g xs) ≡ length xs
map-length g [] = refl
map-length g (x ∷ xs) = ap suc (map-length g xs)

pub named-length : (list : List Parameter) (ps : List (List ℕ)) → Named list ps → length list ≡ length ps
named-length list ps h = sym (map-length param_text list) ∙ ap length (named-texts list ps h)

pub head-kind : (k : FnKind) (name : List ℕ) (ps : List (List ℕ)) (spots : List Spot) → head_kind (head_tree k name ps spots) ≡ k
head-kind gives.Int name ps spots = refl
head-kind gives.Void name ps spots = refl
head-kind gives.Thread name ps spots = refl

pub head-text : (k : FnKind) (name : List ℕ) (ps : List (List ℕ)) (spots : List Spot) → (head_name (head_tree k name ps spots)).text ≡ name
head-text gives.Int name ps spots = refl
head-text gives.Void name ps spots = refl
head-text gives.Thread name ps spots = refl

-- declarations without their places

abbrev pub erased : List Declaration → List Entry
erased list = map (λ d. (d.0.text, d.1)) list

first-erased : (list : List Declaration) (text : List ℕ) → first_meaning list text ≡ lookup (erased list) text
first-erased [] text = refl
first-erased (d ∷ list) text = ap (λ z. if bytes_eq text d.0.text then Some d.1 else z) (first-erased list text)

form-erased : (list : List Declaration) (text : List ℕ) → first_form list text ≡ form_in (erased list) text
form-erased [] text = refl
form-erased (d ∷ list) text = ap (λ z. if bytes_eq text d.0.text then form_or d.1 z else z) (form-erased list text)

defined-erased : (list : List Declaration) (text : List ℕ) → is_defined_in list text ≡ defined_in (erased list) text
defined-erased [] text = refl
defined-erased (d ∷ list) text = ap (λ z. if bytes_eq text d.0.text then is_number d.1 || z else z) (defined-erased list text)

-- section by section

abbrev from : ℕ → ℕ → f.File → List Entry
from g k file = erased (declarations_from g k file)

starts-from : (starts : List OrderId) (spots : List Spot) (rest : f.File)
    → from 0 0 (parts_tree (start_parts starts ++ One (own_line ∷ []) own_line own_tree ∷ []) spots ++ rest) ≡ starts_table starts ++ from 0 0 rest
starts-from [] spots rest = refl
starts-from (order ∷ more) spots rest = ap (λ z. (start_name order.number, n.OfNumber (pos 1)) ∷ z) (starts-from more (after spots (start_line order.number)) rest)

own-from : (patched : Bool) (starts : List OrderId) (spots : List Spot) (rest : f.File) → from 0 0 (parts_tree (own_parts patched starts) spots ++ rest) ≡ own_table patched starts ++ from 0 0 rest
own-from true starts spots rest = starts-from starts spots rest
own-from false starts spots rest = refl

globals-from : (list : List Global) (g : ℕ) (spots : List Spot) (rest : f.File) (table : List Entry) → ((j : ℕ) → from j 0 rest ≡ table)
    → from g 0 (parts_tree (global_parts list) spots ++ rest) ≡ globals_table g list ++ table
globals-from [] g spots rest table h = h g
globals-from (x ∷ more) g spots rest table h =
    one x.kind ∙ ap (λ z. (x.name, n.OfVariable g (global_var_kind x.kind)) ∷ z) (globals-from more (g + 1) (after spots (global_line x.name x.kind)) rest table h)
  where
    one : (k : GlobalKind) → from g 0 (global_tree x.name k spots ∷ (parts_tree (global_parts more) (after spots (global_line x.name x.kind)) ++ rest))
        ≡ (x.name, n.OfVariable g (global_var_kind k)) ∷ from (g + 1) 0 (parts_tree (global_parts more) (after spots (global_line x.name x.kind)) ++ rest)
    one (kind.Int z) = refl
    one (kind.IntArray z) = refl
    one kind.Thread = refl
    one (kind.ThreadArray z) = refl
    one kind.Mutex = refl
    one kind.Cond = refl

prototype-from : (main : Bool) (fn : Function) (rest : List Part) (g : ℕ) (spots : List Spot) (tail : f.File) (table : List Entry)
    → ((next : List Spot) → from g 0 (parts_tree rest next ++ tail) ≡ table) → from g 0 (parts_tree (prototype_by main fn ++ rest) spots ++ tail) ≡ table
prototype-from true fn rest g spots tail table h = h spots
prototype-from false fn rest g spots tail table h = h (after spots (prototype_line fn))

prototypes-from : (list : List Function) (g : ℕ) (spots : List Spot) (rest : f.File) → from g 0 (parts_tree (prototype_parts list) spots ++ rest) ≡ from g 0 rest
prototypes-from [] g spots rest = refl
prototypes-from (fn ∷ more) g spots rest =
    prototype-from (bytes_eq fn.name (codes "main")) fn (prototype_parts more) g spots rest (from g 0 rest) (λ next. prototypes-from more g next rest)

abbrev pub counts_ok : Function → Bool
counts_ok fn = is_valid_count fn.kind (length fn.params)

abbrev entry : List ℕ → ℕ → FnKind → ℕ → Entry
entry name k kind params = (name, n.OfFunction k kind params)

function-from : (k : ℕ) (fn : Function) (spots : List Spot) → counts_ok fn ≡ true
    → entry (head_name (head_tree fn.kind fn.name fn.params spots)).text k (head_kind (head_tree fn.kind fn.name fn.params spots)) (length (head_params (head_tree fn.kind fn.name fn.params spots)))
    ≡ entry fn.name k fn.kind (length fn.params)
function-from k fn spots c =
    let head = head_tree fn.kind fn.name fn.params spots in
    ap (λ z. entry z k (head_kind head) (length (head_params head))) (head-text fn.kind fn.name fn.params spots)
    ∙ ap (λ z. entry fn.name k z (length (head_params head))) (head-kind fn.kind fn.name fn.params spots)
    ∙ ap (λ z. entry fn.name k fn.kind z) (named-length (head_params head) fn.params (head-named fn.kind fn.name fn.params spots c))

functions-from : (tree : Tree) (list : List Function) (g k : ℕ) (spots : List Spot) → list_all counts_ok list ≡ true → from g k (parts_tree (function_parts tree list) spots) ≡ functions_table k list
functions-from tree [] g k spots c = refl
functions-from tree (fn ∷ []) g k spots c = ap (λ z. z ∷ []) (function-from k fn spots (and_parts (counts_ok fn) true c).0)
functions-from tree (fn ∷ next ∷ more) g k spots c =
    let cs = and_parts (counts_ok fn) (list_all counts_ok (next ∷ more)) c in
    ap (λ z. z ∷ from g (suc k) (parts_tree (function_parts tree (next ∷ more)) (after spots (function_items (names_in tree fn) fn)))) (function-from k fn spots cs.0)
    ∙ ap (λ z. (fn.name, n.OfFunction k fn.kind (length fn.params)) ∷ z) (functions-from tree (next ∷ more) g (suc k) (after spots (function_items (names_in tree fn) fn)) cs.1)

-- the declarations of the file are the table
pub declarations-are : (tree : Tree) (spots : List Spot) → list_all counts_ok tree.functions ≡ true → erased (declarations (parts_tree (tree_parts tree) spots)) ≡ tree_table tree
declarations-are tree spots c =
    let s = sections tree spots in
    let last = parts_tree (function_parts tree tree.functions) s.functions in
    let third = parts_tree (prototype_parts tree.functions) s.prototypes ++ last in
    let second = parts_tree (global_parts tree.globals) s.globals ++ third in
    ap (from 0 0) s.is
    ∙ own-from (tree_patched tree) tree.starts (after (after s.header (include_line (codes "pthread"))) (include_line (codes "stdio"))) second
    ∙ ap (λ z. own_table (tree_patched tree) tree.starts ++ z)
    (globals-from tree.globals 0 s.globals third (functions_table 0 tree.functions)
    (λ j. prototypes-from tree.functions j s.prototypes last ∙ functions-from tree tree.functions j 0 s.functions c))

pub file-means : (tree : Tree) (spots : List Spot) → list_all counts_ok tree.functions ≡ true → Means (names_of (parts_tree (tree_parts tree) spots)) (tree_table tree)
file-means tree spots c =
    let e = declarations-are tree spots c in
    let list = declarations (parts_tree (tree_parts tree) spots) in
    record {
      first = λ text. first-erased list text ∙ ap (λ z. lookup z text) e;
      form = λ text. form-erased list text ∙ ap (λ z. form_in z text) e;
      defined = λ text. defined-erased list text ∙ ap (λ z. defined_in z text) e;
    }
