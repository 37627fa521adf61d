-- The file of the canonical text spells the program again, and none of its faults is more than a limit.
use Rattle.std.proofs.Common.{◌≡◌, ℕ, zero, suc, pos, negsuc, ◌-◌, ◌^◌, ◌<◌, ◌≤◌, ◌==◌, nat_le, nat_lt, Bool, true, false, not, ◌&&◌, ◌||◌, List, [], ◌∷◌, ◌++◌, map, length, drop, append-nil, Some, None, slice_get, append_assoc, refl, ap, sym, ◌∙◌, codes, arith, true≢false, if◌then◌else◌}
use Rattle.std.proofs.lemmas.Bool.{and_parts, or_parts, leb-true, le-leb, ltb-true, eq-eqb, not-true}
use Rattle.std.proofs.lemmas.Fmt.{decimal_injective}
use Rattle.std.specs.Fmt as fmt
use Rattle.std.specs.List.{list_all, list_any}
use Rattle.std.specs.Str.{bytes_eq}
use Rattle.cfix_base.specs.Words.{is_name_text, is_reserved_text}
use Rattle.cfix_base.specs.declared.limits.TheConstants.{MAX_NODES, MAX_FUNCTIONS, MAX_GLOBALS, MAX_GLOBAL_CELLS, MAX_LOCAL_CELLS, MAX_OPERATION_NUMBER, MAX_ARRAY_LENGTH}
use Rattle.cfix_base.specs.declared.number.OrderId.{OrderId}
use Rattle.cfix_base.specs.declared.op.Op.{Op}
use Rattle.cfix_base.specs.declared.spot.Spot.{Spot}
use Rattle.c_lex.specs.Meaning.{decimal, is_number}
use Rattle.c_prog.specs.declared.function.FnKind.{FnKind}
use Rattle.c_prog.specs.declared.function.FnKind.TheVariants as gives
use Rattle.c_prog.specs.declared.function.Function.{Function}
use Rattle.c_prog.specs.declared.global.Global.{Global}
use Rattle.c_prog.specs.declared.global.GlobalKind.{GlobalKind}
use Rattle.c_prog.specs.declared.global.GlobalKind.TheVariants as kind
use Rattle.c_prog.specs.declared.stmt.Stmt as source_stmt
use Rattle.c_prog.specs.declared.tree.Tree.{Tree}
use Rattle.c_prog.specs.Patched.{tree_patched, has_some, functions_patched}
use Rattle.c_prog.specs.Valid.{IsValid, has_valid_function_ops}
use Rattle.c_prog.specs.Valid.Scope.{VarKind, Scope, nothing_declared, declared, is_in_block}
use Rattle.c_prog.specs.Valid.Kinds.{file_of, global_var_kind}
use Rattle.c_prog.specs.Valid.Acts.{is_declared_name}
use Rattle.c_prog.specs.Valid.Expressions.{is_int_kind, is_main_name}
use Rattle.c_prog.specs.Valid.Falls.{falls_through}
use Rattle.c_prog.specs.Valid.Functions.{are_distinct, file_names, param_kind, with_params, is_valid_count, is_valid_end, is_valid_function, is_main}
use Rattle.c_prog.specs.Valid.Functions as valid
use Rattle.c_prog.specs.Valid.Operations.{rise_after, are_rising}
use Rattle.c_grammar.specs.Marks.{each, maybe}
use Rattle.c_grammar.specs.File as f
use Rattle.c_grammar.specs.Token.{Ident}
use Rattle.c_print.specs.Text.Names.{names_in}
use Rattle.c_names.specs.declared.fault.FaultKind.TheVariants.{Unknown, Twice, WrongUse, NoReturn, Limit}
use Rattle.c_names.specs.Faults.{fault, fault_if}
use Rattle.c_names.specs.Uses as n
use Rattle.c_names.specs.Names.{reserved_faults, length_faults}
use Rattle.c_names.specs.Simples.{ops_faults}
use Rattle.c_names.specs.Statements.{items_faults}
use Rattle.c_names.specs.SpelledStatements.{ops_of, items_of}
use Rattle.c_names.specs.Limits.{excess_faults, Cells, cells_faults}
use Rattle.c_names.specs.Starts.{digits_number, start_number, start_faults, with_order, starts_of}
use Rattle.c_names.specs.Declarations.{head_name, head_kind, Parameter, head_params, head_form, Declaration, declarations, is_declared, names_of}
use Rattle.c_names.specs.Files as files
use Rattle.c_names.specs.Files.{all_twice_faults, no_main_faults, main_form_faults, is_same_kind, is_same_form, prototype_name_faults, prototype_param_faults, prototype_faults, param_text, params_faults, end_faults, function_faults, function_cells, top_faults, top_functions, top_cells, top_nodes, is_function_use, main_faults, count_faults, faults_with, faults_of}
use Rattle.c_names.specs.Sources.{top_globals, top_functions_of, source_of, function_of}
use Rattle.print_law.proofs.Plain.{plain_body, plain_body-up}
use Rattle.print_law.proofs.Items.{here, later, after}
use Rattle.print_law.proofs.Apart.{both}
use Rattle.print_law.proofs.Expressions.{ident_at}
use Rattle.print_law.proofs.Operations.{ops_items, ops_tree}
use Rattle.print_law.proofs.Statements.{stmts_tree}
use Rattle.print_law.proofs.Parts.{Part, One, parts_tree}
use Rattle.print_law.proofs.Decimals.{Written, written}
use Rattle.print_law.proofs.Files.{start_name, start_line, start_parts, own_parts, own_line, own_tree, include_line, header_parts, global_line, global_tree, global_parts, prototype_line, prototype_by, prototype_parts, function_items, function_tree, function_parts, head_items, head_tree, tree_parts}
use Rattle.print_law.proofs.Meanings.{bytes-same, limits, limits-append, limit-if, no-fault, no-reserved}
use Rattle.print_law.proofs.SpeltActs.{ops-again, ops-clean}
use Rattle.print_law.proofs.SpeltStatements.{SpeltStmts}
use Rattle.print_law.proofs.Tables.{starts_table, own_table, file_table, tree_table, entry_names, lookup, form_in, bytes-apart, differ, Means, Names_ok, all-at, map-append, file-names, entry-lookup, entry-form, global-entry, function-entry, function-declared, global-declared, file-facts}
use Rattle.print_law.proofs.Programs.{FunctionParts, function-parts, function-spelt, valid-names, small-starts}
use Rattle.print_law.proofs.Declarations.{sections, Named, head-named, named-texts, named-length, head-kind, head-text, erased, counts_ok, declarations-are, file-means}

-- lists

all-from : {A : Type 0} (p : A → Bool) (xs : List A) → ((k : ℕ) (a : A) → slice_get xs k ≡ Some a → p a ≡ true) → list_all p xs ≡ true
all-from p [] h = refl
all-from p (x ∷ xs) h = both _ _ (h zero x refl) (all-from p xs (λ k a g. h (suc k) a g))

-- a fact of each item
abbrev Every : {A : Type 0} → (A → Type 0) → List A → Type 0
Every p [] = Unit {0}
Every p (x ∷ xs) = p x × Every p xs

every-from : {A : Type 0} (p : A → Type 0) (xs : List A) → ((k : ℕ) (a : A) → slice_get xs k ≡ Some a → p a) → Every p xs
every-from p [] h = tt
every-from p (x ∷ xs) h = (h zero x refl, every-from p xs (λ k a g. h (suc k) a g))

abbrev Found : {A : Type 0} → (A → Bool) → List A → Type 0
Found {A} p xs = (k : ℕ) × (a : A) × (slice_get xs k ≡ Some a) × (p a ≡ true)

found-by : {A : Type 0} (p : A → Bool) (x : A) (xs : List A) (b : Bool) → p x ≡ b → (b || list_any p xs) ≡ true → (list_any p xs ≡ true → Found p xs) → Found p (x ∷ xs)
found-by p x xs true e g h = (zero, x, refl, e)
found-by p x xs false e g h = let r = h g in (suc r.0, r.1, r.2, r.3)

any-found : {A : Type 0} (p : A → Bool) (xs : List A) → list_any p xs ≡ true → Found p xs
any-found p [] h = absurd (true≢false (sym h))
any-found p (x ∷ xs) h = found-by p x xs (p x) refl h (λ g. any-found p xs g)

each-append : {A B : Type 0} (g : A → List B) (xs ys : List A) → each g (xs ++ ys) ≡ each g xs ++ each g ys
each-append g [] ys = refl
each-append g (x ∷ xs) ys = ap (λ z. g x ++ z) (each-append g xs ys) ∙ sym (append_assoc (g x) (each g xs) (each g ys))

-- the sections of a file, one after another
each-sections : {B : Type 0} (g : f.Top → List B) (a b c d : f.File) → each g (a ++ (b ++ (c ++ d))) ≡ each g a ++ (each g b ++ (each g c ++ each g d))
each-sections g a b c d =
    each-append g a (b ++ (c ++ d)) ∙ ap (λ z. each g a ++ z) (each-append g b (c ++ d)) ∙ ap (λ z. each g a ++ (each g b ++ z)) (each-append g c d)

some-same : {A : Type 0} (a b : A) → Some a ≡ Some b → a ≡ b
some-same a b e = cc

-- what a meaning says of a function
abbrev meant_kind : n.Meaning → FnKind
meant_kind (n.OfFunction k kind params) = kind
meant_kind _ = gives.Void

abbrev meant_params : n.Meaning → ℕ
meant_params (n.OfFunction k kind params) = params
meant_params _ = 0

abbrev is_function_meaning : n.Meaning → Bool
is_function_meaning (n.OfFunction k kind params) = true
is_function_meaning _ = false

-- starts

start-digits : (k : ℕ) (text : List ℕ) → Written k text → k ≤ 2147483647 → digits_number text ≡ Some k
start-digits k [] w small = absurd (true≢false (sym w.some))
start-digits k (digit ∷ rest) w small =
    let value = w.value in
    let known : is_number (digit ∷ rest) ≡ true =
    both _ _ (ap not w.first) (both _ _ w.digits (le-leb (decimal (digit ∷ rest)) 2147483647 (omega (arith, value, small)))) in
    ap (λ z. if z then Some (decimal (digit ∷ rest)) else None) known ∙ ap Some w.value

small : (k : ℕ) → k ≤ 2147483647 → k < 2 ^ 64
small k h = omega (arith, h)

start-known : (k : ℕ) → k ≤ 2147483647 → start_number (start_name k) ≡ Some k
start-known k h = start-digits k (fmt.decimal k) (written k (small k h)) h

-- names that are reserved are not those of starts, and starts differ

abbrev AreSmall : List OrderId → Type 0
AreSmall starts = list_all (λ order. nat_le order.number 2147483647) starts ≡ true

name-tail : (xs ys zs : List ℕ) → xs ++ ys ≡ xs ++ zs → ys ≡ zs
name-tail [] ys zs e = e
name-tail (x ∷ xs) ys zs e = name-tail xs ys zs cc

starts-apart : (a b : ℕ) → a < b → a ≤ 2147483647 → b ≤ 2147483647 → bytes_eq (start_name a) (start_name b) ≡ false
starts-apart a b less x y = by (bytes_eq (start_name a) (start_name b)) refl
  where
    by : (c : Bool) → bytes_eq (start_name a) (start_name b) ≡ c → bytes_eq (start_name a) (start_name b) ≡ false
    by true e =
        absurd (let same = decimal_injective a b (small a x) (small b y) (name-tail (codes "CFIX_START_") (fmt.decimal a) (fmt.decimal b) (bytes-same (start_name a) (start_name b) e)) in
        omega (arith, same, less))
    by false e = e

rising-apart : (last : ℕ) (starts : List OrderId) → last ≤ 2147483647 → rise_after last starts ≡ true → AreSmall starts → (low : ℕ) → low ≤ last
    → list_any (bytes_eq (start_name low)) (entry_names (starts_table starts)) ≡ false
rising-apart last [] m r s low h = refl
rising-apart last (order ∷ more) m r s low h =
    let rs = and_parts (nat_lt last order.number) (rise_after order.number more) r in
    let ss = and_parts (nat_le order.number 2147483647) (list_all (λ o. nat_le o.number 2147483647) more) s in
    let less = ltb-true last order.number rs.0 in
    let top = leb-true order.number 2147483647 ss.0 in
    ap (λ z. z || list_any (bytes_eq (start_name low)) (entry_names (starts_table more))) (starts-apart low order.number (omega (arith, less, h)) (omega (arith, h, m)) top)
    ∙ rising-apart order.number more top rs.1 ss.1 low (omega (arith, less, h))

starts-distinct-after : (last : ℕ) (starts : List OrderId) → rise_after last starts ≡ true → AreSmall starts → are_distinct (entry_names (starts_table starts)) ≡ true
starts-distinct-after last [] r s = refl
starts-distinct-after last (order ∷ more) r s =
    let rs = and_parts (nat_lt last order.number) (rise_after order.number more) r in
    let ss = and_parts (nat_le order.number 2147483647) (list_all (λ o. nat_le o.number 2147483647) more) s in
    let top = leb-true order.number 2147483647 ss.0 in
    both _ _ (ap not (rising-apart order.number more top rs.1 ss.1 order.number (omega arith))) (starts-distinct-after order.number more rs.1 ss.1)

starts-distinct : (starts : List OrderId) → are_rising starts ≡ true → AreSmall starts → are_distinct (entry_names (starts_table starts)) ≡ true
starts-distinct [] r s = refl
starts-distinct (order ∷ more) r s =
    let ss = and_parts (nat_le order.number 2147483647) (list_all (λ o. nat_le o.number 2147483647) more) s in
    let top = leb-true order.number 2147483647 ss.0 in
    both _ _ (ap not (rising-apart order.number more top r ss.1 order.number (omega arith))) (starts-distinct-after order.number more r ss.1)

own-distinct : (patched : Bool) (starts : List OrderId) → are_rising starts ≡ true → AreSmall starts → are_distinct (entry_names (own_table patched starts)) ≡ true
own-distinct true starts r s = starts-distinct starts r s
own-distinct false starts r s = refl

declared-free : (text : List ℕ) → is_declared_name text ≡ true → is_reserved_text text ≡ false
declared-free text h = not-true _ (and_parts (is_name_text text) (not (is_reserved_text text)) h).1

reserved-absent : (k : ℕ) (names : List (List ℕ)) → list_all is_declared_name names ≡ true → list_any (bytes_eq (start_name k)) names ≡ false
reserved-absent k [] h = refl
reserved-absent k (x ∷ names) h =
    let hs = and_parts (is_declared_name x) (list_all is_declared_name names) h in
    ap (λ z. z || list_any (bytes_eq (start_name k)) names) (differ (λ t. not (is_reserved_text t)) (start_name k) x refl (ap not (declared-free x hs.0)))
    ∙ reserved-absent k names hs.1

any-append : (p : List ℕ → Bool) (xs ys : List (List ℕ)) → list_any p xs ≡ false → list_any p ys ≡ false → list_any p (xs ++ ys) ≡ false
any-append p [] ys a b = b
any-append p (x ∷ xs) ys a b =
    let us = or_parts (p x) (list_any p xs) a in
    ap (λ z. z || list_any p (xs ++ ys)) us.0 ∙ any-append p xs ys us.1 b

distinct-append : (xs ys : List (List ℕ)) → are_distinct xs ≡ true → are_distinct ys ≡ true → list_all (λ x. not (list_any (bytes_eq x) ys)) xs ≡ true → are_distinct (xs ++ ys) ≡ true
distinct-append [] ys a b c = b
distinct-append (x ∷ xs) ys a b c =
    let us = and_parts (not (list_any (bytes_eq x) xs)) (are_distinct xs) a in
    let cs = and_parts (not (list_any (bytes_eq x) ys)) (list_all (λ z. not (list_any (bytes_eq z) ys)) xs) c in
    both _ _ (ap not (any-append (bytes_eq x) xs ys (not-true _ us.0) (not-true _ cs.0))) (distinct-append xs ys us.1 b cs.1)

starts-free : (starts : List OrderId) (names : List (List ℕ)) → list_all is_declared_name names ≡ true → list_all (λ x. not (list_any (bytes_eq x) names)) (entry_names (starts_table starts)) ≡ true
starts-free [] names h = refl
starts-free (order ∷ more) names h = both _ _ (ap not (reserved-absent order.number names h)) (starts-free more names h)

own-free : (patched : Bool) (starts : List OrderId) (names : List (List ℕ)) → list_all is_declared_name names ≡ true
    → list_all (λ x. not (list_any (bytes_eq x) names)) (entry_names (own_table patched starts)) ≡ true
own-free true starts names h = starts-free starts names h
own-free false starts names h = refl

-- no name is declared twice

abbrev texts : List Declaration → List (List ℕ)
texts list = map (λ d. d.0.text) list

texts-erased : (list : List Declaration) → texts list ≡ entry_names (erased list)
texts-erased [] = refl
texts-erased (d ∷ list) = ap (λ z. d.0.text ∷ z) (texts-erased list)

declared-texts : (before : List Declaration) (text : List ℕ) → is_declared before text ≡ list_any (bytes_eq text) (texts before)
declared-texts [] text = refl
declared-texts (d ∷ before) text = ap (λ z. bytes_eq text d.0.text || z) (declared-texts before text)

texts-push : (before : List Declaration) (d : Declaration) → texts (before ++ d ∷ []) ≡ texts before ++ d.0.text ∷ []
texts-push [] d = refl
texts-push (x ∷ before) d = ap (λ z. x.0.text ∷ z) (texts-push before d)

one-more : (names before : List (List ℕ)) (x : List ℕ) → list_all (λ t. not (list_any (bytes_eq t) before)) names ≡ true → list_any (bytes_eq x) names ≡ false
    → list_all (λ t. not (list_any (bytes_eq t) (before ++ x ∷ []))) names ≡ true
one-more [] before x a b = refl
one-more (t ∷ names) before x a b =
    let us = and_parts (not (list_any (bytes_eq t) before)) (list_all (λ z. not (list_any (bytes_eq z) before)) names) a in
    let bs = or_parts (bytes_eq x t) (list_any (bytes_eq x) names) b in
    both _ _ (ap not (any-append (bytes_eq t) before (x ∷ []) (not-true _ us.0) (ap (λ z. z || false) (bytes-apart x t bs.0)))) (one-more names before x us.1 bs.1)

twice : (before list : List Declaration) → list_all (λ t. not (list_any (bytes_eq t) (texts before))) (texts list) ≡ true → are_distinct (texts list) ≡ true
    → limits (all_twice_faults before list) ≡ true
twice before [] a d = refl
twice before (x ∷ more) a d =
    let us = and_parts (not (list_any (bytes_eq x.0.text) (texts before))) (list_all (λ t. not (list_any (bytes_eq t) (texts before))) (texts more)) a in
    let ds = and_parts (not (list_any (bytes_eq x.0.text) (texts more))) (are_distinct (texts more)) d in
    limits-append (fault_if (is_declared before x.0.text) x.0.spot Twice) (all_twice_faults (before ++ x ∷ []) more)
    (no-fault (is_declared before x.0.text) x.0.spot Twice (declared-texts before x.0.text ∙ not-true _ us.0))
    (twice (before ++ x ∷ []) more
    (ap (λ z. list_all (λ t. not (list_any (bytes_eq t) z)) (texts more)) (texts-push before x) ∙ one-more (texts more) (texts before) x.0.text us.1 (not-true _ ds.0)) ds.1)

all-nothing : (names : List (List ℕ)) → list_all (λ t. not (list_any (bytes_eq t) [])) names ≡ true
all-nothing [] = refl
all-nothing (x ∷ names) = all-nothing names

-- limits

excess-limits : (k : ℕ) (spots : List Spot) → limits (excess_faults k spots) ≡ true
excess-limits k spots = by (drop k spots)
  where
    by : (list : List Spot) → limits (map (λ spot. fault spot Limit) list) ≡ true
    by [] = refl
    by (s ∷ list) = by list

cells-limits : (left : ℕ) (cells : List Cells) → limits (cells_faults left cells) ≡ true
cells-limits left [] = refl
cells-limits left (x ∷ more) = limits-append (fault_if (nat_lt left x.1) x.0 Limit) _ (limit-if (nat_lt left x.1) x.0) (cells-limits (left - x.1) more)

-- heads

same-kind : (k : FnKind) → is_same_kind k k ≡ true
same-kind gives.Int = refl
same-kind gives.Void = refl
same-kind gives.Thread = refl

prototype-params : (list : List Parameter) (ps : List (List ℕ)) → Named list ps → list_all is_declared_name ps ≡ true → limits (each prototype_param_faults list) ≡ true
prototype-params [] [] h d = refl
prototype-params [] (p ∷ ps) h d = absurd h
prototype-params (q ∷ list) [] h d = absurd h
prototype-params (q ∷ list) (p ∷ ps) h d =
    let ds = and_parts (is_declared_name p) (list_all is_declared_name ps) d in
    limits-append (prototype_param_faults q) (each prototype_param_faults list)
    (ap (λ z. limits (maybe [] reserved_faults z)) h.0.1 ∙ no-reserved h.0.0 (ap is_declared_name h.0.2 ∙ ds.0)) (prototype-params list ps h.1 ds.1)

-- parameters that are declared in a scope
params-clean : (known : n.Names) → ((text : List ℕ) → is_declared_name text ≡ true → (known text).is_defined ≡ false) → (kind : VarKind) (scope : Scope) (list : List Parameter) (ps : List (List ℕ))
    → Named list ps → list_all is_declared_name ps ≡ true → are_distinct ps ≡ true → list_all (λ p. not (is_in_block p scope)) ps ≡ true → limits (params_faults known kind scope list) ≡ true
params-clean known free kind scope [] [] h d e b = refl
params-clean known free kind scope [] (p ∷ ps) h d e b = absurd h
params-clean known free kind scope (q ∷ list) [] h d e b = absurd h
params-clean known free kind scope (q ∷ list) (p ∷ ps) h d e b =
    let ds = and_parts (is_declared_name p) (list_all is_declared_name ps) d in
    let es = and_parts (not (list_any (bytes_eq p) ps)) (are_distinct ps) e in
    let bs = and_parts (not (is_in_block p scope)) (list_all (λ z. not (is_in_block z scope)) ps) b in
    let x = h.0.0 in
    let name : is_declared_name x.text ≡ true = ap is_declared_name h.0.2 ∙ ds.0 in
    let fresh : (is_in_block x.text scope || (known x.text).is_defined) ≡ false =
    ap (λ z. z || (known x.text).is_defined) (ap (λ z. is_in_block z scope) h.0.2 ∙ not-true _ bs.0) ∙ free x.text name in
    let text : param_text q ≡ p = ap (maybe [] (λ (y : Ident). y.text)) h.0.1 ∙ h.0.2 in
    limits-append (files.param_name_faults known scope q.0 q.1) (params_faults known kind (declared (param_text q) kind scope) list)
    (ap (λ z. limits (files.param_name_faults known scope q.0 z)) h.0.1
    ∙ limits-append (reserved_faults x) (fault_if (is_in_block x.text scope || (known x.text).is_defined) x.spot Twice) (no-reserved x name)
    (no-fault (is_in_block x.text scope || (known x.text).is_defined) x.spot Twice fresh))
    (ap (λ z. limits (params_faults known kind (declared z kind scope) list)) text
    ∙ params-clean known free kind (declared p kind scope) list ps h.1 ds.1 es.1 (in-more p kind scope ps (not-true _ es.0) bs.1))
  where
    in-more : (p : List ℕ) (kind : VarKind) (scope : Scope) (ps : List (List ℕ)) → list_any (bytes_eq p) ps ≡ false → list_all (λ z. not (is_in_block z scope)) ps ≡ true
        → list_all (λ z. not (is_in_block z (declared p kind scope))) ps ≡ true
    in-more p kind scope [] a b = refl
    in-more p kind scope (z ∷ ps) a b =
        let us = or_parts (bytes_eq p z) (list_any (bytes_eq p) ps) a in
        let bs = and_parts (not (is_in_block z scope)) (list_all (λ t. not (is_in_block t scope)) ps) b in
        both _ _ (ap (λ t. not (t || is_in_block z scope)) (bytes-apart p z us.0) ∙ bs.0) (in-more p kind scope ps us.1 bs.1)

none-in-block : (ps : List (List ℕ)) → list_all (λ p. not (is_in_block p nothing_declared)) ps ≡ true
none-in-block [] = refl
none-in-block (p ∷ ps) = none-in-block ps

-- a valid program

module _ (tree : Tree) (v : IsValid tree) (spots : List Spot) where
  ok : Names_ok tree
  ok = valid-names tree v

  counts : list_all counts_ok tree.functions ≡ true
  counts = all-from counts_ok tree.functions
      (λ k fn g. (function-parts (file_of tree) fn (all-at (is_valid_function (file_of tree)) tree.functions k fn g v.functions)).count)

  abbrev tree_file : f.File
  tree_file = parts_tree (tree_parts tree) spots

  abbrev known : n.Names
  known = names_of tree_file

  means : Means known (tree_table tree)
  means = file-means tree spots counts

  -- main

  main-found : Found is_main tree.functions
  main-found = any-found is_main tree.functions v.has_main

  abbrev IsMainAs : ℕ → Function → Type 0
  IsMainAs k fn = (lookup (tree_table tree) (codes "main") ≡ Some (n.OfFunction k fn.kind (length fn.params))) × (is_int_kind fn.kind ≡ true) × ((length fn.params == 0) ≡ true)

  main-as : (k : ℕ) × (fn : Function) × IsMainAs k fn
  main-as =
      let m = main-found in
      let a = and_parts (is_main_name m.1.name && is_int_kind m.1.kind) (length m.1.params == 0) m.3 in
      let b = and_parts (is_main_name m.1.name) (is_int_kind m.1.kind) a.0 in
      let name = bytes-same m.1.name (codes "main") b.0 in
      let e = function-entry tree ok m.0 m.1 m.2 in
      (m.0, m.1, (ap (lookup (tree_table tree)) (sym name) ∙ entry-lookup tree ok e.0 (m.1.name, n.OfFunction m.0 m.1.kind (length m.1.params)) e.1, b.1, a.1))

  global-not-main : (k : ℕ) (g : Global) → slice_get tree.globals k ≡ Some g → is_main_name g.name ≡ false
  global-not-main k g h = by (is_main_name g.name) refl
    where
      by : (b : Bool) → is_main_name g.name ≡ b → is_main_name g.name ≡ false
      by false e = e
      by true e =
          let m = main-as in
          let same = bytes-same g.name (codes "main") e in
          let here = entry-lookup tree ok k (g.name, n.OfVariable k (global_var_kind g.kind)) (global-entry tree ok k g h) in
          let both_are : n.OfVariable k (global_var_kind g.kind) ≡ n.OfFunction m.0 m.1.kind (length m.1.params) = some-same _ _ (sym here ∙ ap (lookup (tree_table tree)) same ∙ m.2.0) in
          absurd (true≢false (sym (ap is_function_meaning both_are)))

  main-form : (k : ℕ) (fn : Function) → slice_get tree.functions k ≡ Some fn → is_main_name fn.name ≡ true → (is_int_kind fn.kind ≡ true) × ((length fn.params == 0) ≡ true)
  main-form k fn h e =
      let m = main-as in
      let same = bytes-same fn.name (codes "main") e in
      let j = function-entry tree ok k fn h in
      let here = entry-lookup tree ok j.0 (fn.name, n.OfFunction k fn.kind (length fn.params)) j.1 in
      let both_are : n.OfFunction k fn.kind (length fn.params) ≡ n.OfFunction m.0 m.1.kind (length m.1.params) = some-same _ _ (sym here ∙ ap (lookup (tree_table tree)) same ∙ m.2.0) in
      (ap is_int_kind (ap meant_kind both_are) ∙ m.2.1, ap (λ z. z == 0) (ap meant_params both_are) ∙ m.2.2)

  -- what holds of each global and function

  record GlobalFacts (g : Global) : Type 0 where
    declared : is_declared_name g.name ≡ true
    other : is_main_name g.name ≡ false

  record FnFacts (fn : Function) : Type 0 where
    declared : is_declared_name fn.name ≡ true
    valid : is_valid_function (file_of tree) fn ≡ true
    ops : has_valid_function_ops fn ≡ true
    form : form_in (tree_table tree) fn.name ≡ Some (fn.kind, length fn.params)
    main : is_main_name fn.name ≡ true → (is_int_kind fn.kind ≡ true) × ((length fn.params == 0) ≡ true)

  global-facts : Every GlobalFacts tree.globals
  global-facts = every-from GlobalFacts tree.globals (λ k g h. record { declared = global-declared tree ok k g h; other = global-not-main k g h })

  fn-facts : Every FnFacts tree.functions
  fn-facts = every-from FnFacts tree.functions (λ k fn h.
      let j = function-entry tree ok k fn h in
      record {
        declared = function-declared tree ok k fn h;
        valid = all-at (is_valid_function (file_of tree)) tree.functions k fn h v.functions;
        ops = all-at has_valid_function_ops tree.functions k fn h v.operations;
        form = entry-form tree ok j.0 (fn.name, n.OfFunction k fn.kind (length fn.params)) k fn.kind (length fn.params) j.1 refl;
        main = main-form k fn h;
      })

  -- the faults of the sections

  start-clean : (k : ℕ) (spots : List Spot) → k ≤ 2147483647 → limits (start_faults (start_number (start_name k)) (ident_at (start_name k) spots) (pos 1)) ≡ true
  start-clean k at h = ap (λ z. limits (start_faults z (ident_at (start_name k) at) (pos 1))) (start-known k h) ∙ limit-if (nat_lt MAX_OPERATION_NUMBER k) (here at)

  starts-clean : (starts : List OrderId) (at : List Spot) → AreSmall starts
      → limits (each (top_faults known) (parts_tree (start_parts starts ++ One (own_line ∷ []) own_line own_tree ∷ []) at)) ≡ true
  starts-clean [] at s = refl
  starts-clean (order ∷ more) at s =
      let ss = and_parts (nat_le order.number 2147483647) (list_all (λ o. nat_le o.number 2147483647) more) s in
      let x = ident_at (start_name order.number) (later (later at)) in
      limits-append (start_faults (start_number x.text) x (pos 1) ++ no_main_faults x) (each (top_faults known) (parts_tree (start_parts more ++ One (own_line ∷ []) own_line own_tree ∷ []) (after at (start_line order.number))))
      (limits-append (start_faults (start_number x.text) x (pos 1)) (no_main_faults x) (start-clean order.number (later (later at)) (leb-true order.number 2147483647 ss.0)) refl)
      (starts-clean more (after at (start_line order.number)) ss.1)

  own-clean : (patched : Bool) (at : List Spot) → limits (each (top_faults known) (parts_tree (own_parts patched tree.starts) at)) ≡ true
  own-clean true at = starts-clean tree.starts at (small-starts tree v)
  own-clean false at = refl

  header-clean : (at : List Spot) → limits (each (top_faults known) (parts_tree (header_parts tree) at)) ≡ true
  header-clean at = own-clean (tree_patched tree) (after (after at (include_line (codes "pthread"))) (include_line (codes "stdio")))

  variable-clean : (g : Global) (at : List Spot) → GlobalFacts g → limits (files.variable_faults (ident_at g.name at)) ≡ true
  variable-clean g at h =
      limits-append (reserved_faults (ident_at g.name at)) (no_main_faults (ident_at g.name at)) (no-reserved (ident_at g.name at) h.declared)
      (no-fault (is_main_name g.name) (here at) WrongUse h.other)

  global-clean : (g : Global) (k : GlobalKind) (at : List Spot) → GlobalFacts g → limits (top_faults known (global_tree g.name k at)) ≡ true
  global-clean g (kind.Int z) at h =
      limits-append (files.variable_faults (ident_at g.name (later at)) ++ []) [] (limits-append (files.variable_faults (ident_at g.name (later at))) [] (variable-clean g (later at) h) refl) refl
  global-clean g (kind.IntArray z) at h =
      limits-append (files.variable_faults (ident_at g.name (later at)) ++ (length_faults z (here (later at)) ++ [])) []
      (limits-append (files.variable_faults (ident_at g.name (later at))) (length_faults z (here (later at)) ++ []) (variable-clean g (later at) h)
      (limits-append (length_faults z (here (later at))) [] (limit-if (z == 0 || nat_lt MAX_ARRAY_LENGTH z) (here (later at))) refl)) refl
  global-clean g kind.Thread at h = limits-append (files.variable_faults (ident_at g.name (later at))) [] (variable-clean g (later at) h) refl
  global-clean g (kind.ThreadArray z) at h =
      limits-append (files.variable_faults (ident_at g.name (later at)) ++ (length_faults z (here (later at)) ++ [])) []
      (limits-append (files.variable_faults (ident_at g.name (later at))) (length_faults z (here (later at)) ++ []) (variable-clean g (later at) h)
      (limits-append (length_faults z (here (later at))) [] (limit-if (z == 0 || nat_lt MAX_ARRAY_LENGTH z) (here (later at))) refl)) refl
  global-clean g kind.Mutex at h = limits-append (files.variable_faults (ident_at g.name (later at))) [] (variable-clean g (later at) h) refl
  global-clean g kind.Cond at h = limits-append (files.variable_faults (ident_at g.name (later at))) [] (variable-clean g (later at) h) refl

  globals-clean : (list : List Global) (at : List Spot) → Every GlobalFacts list → limits (each (top_faults known) (parts_tree (global_parts list) at)) ≡ true
  globals-clean [] at h = refl
  globals-clean (g ∷ more) at h =
      limits-append (top_faults known (global_tree g.name g.kind at)) (each (top_faults known) (parts_tree (global_parts more) (after at (global_line g.name g.kind))))
      (global-clean g g.kind at h.0) (globals-clean more (after at (global_line g.name g.kind)) h.1)

  -- prototypes

  head-declared : (fn : Function) (at : List Spot) → FnFacts fn → is_declared_name (head_name (head_tree fn.kind fn.name fn.params at)).text ≡ true
  head-declared fn at h = ap is_declared_name (head-text fn.kind fn.name fn.params at) ∙ h.declared

  prototype-clean : (fn : Function) (at : List Spot) → FnFacts fn → limits (prototype_faults known (head_tree fn.kind fn.name fn.params at)) ≡ true
  prototype-clean fn at h =
      let head = head_tree fn.kind fn.name fn.params at in
      let p = function-parts (file_of tree) fn h.valid in
      let named = head-named fn.kind fn.name fn.params at p.count in
      let form : (known (head_name head).text).form ≡ Some (fn.kind, length fn.params) =
      ap (λ z. (known z).form) (head-text fn.kind fn.name fn.params at) ∙ means.form fn.name ∙ h.form in
      let agrees : is_same_form (fn.kind, length fn.params) (head_form head) ≡ true =
      both _ _ (ap (is_same_kind fn.kind) (head-kind fn.kind fn.name fn.params at) ∙ same-kind fn.kind)
      (eq-eqb (length fn.params) (length (head_params head)) (sym (named-length (head_params head) fn.params named))) in
      limits-append (reserved_faults (head_name head)) (prototype_name_faults (known (head_name head).text).form (head_name head) (head_form head) ++ each prototype_param_faults (head_params head))
      (no-reserved (head_name head) (head-declared fn at h))
      (limits-append (prototype_name_faults (known (head_name head).text).form (head_name head) (head_form head)) (each prototype_param_faults (head_params head))
      (ap (λ z. limits (prototype_name_faults z (head_name head) (head_form head))) form
      ∙ no-fault (not (is_same_form (fn.kind, length fn.params) (head_form head))) (head_name head).spot WrongUse (ap not agrees))
      (prototype-params (head_params head) fn.params named p.params))

  prototype-part : (main : Bool) (fn : Function) (rest : List Part) (at : List Spot) → FnFacts fn → ((next : List Spot) → limits (each (top_faults known) (parts_tree rest next)) ≡ true)
      → limits (each (top_faults known) (parts_tree (prototype_by main fn ++ rest) at)) ≡ true
  prototype-part true fn rest at h r = r at
  prototype-part false fn rest at h r =
      limits-append (prototype_faults known (head_tree fn.kind fn.name fn.params at)) (each (top_faults known) (parts_tree rest (after at (prototype_line fn)))) (prototype-clean fn at h)
      (r (after at (prototype_line fn)))

  prototypes-clean : (list : List Function) (at : List Spot) → Every FnFacts list → limits (each (top_faults known) (parts_tree (prototype_parts list) at)) ≡ true
  prototypes-clean [] at h = refl
  prototypes-clean (fn ∷ more) at h = prototype-part (bytes_eq fn.name (codes "main")) fn (prototype_parts more) at h.0 (λ next. prototypes-clean more next h.1)

  -- functions

  module _ (fn : Function) (h : FnFacts fn) (at : List Spot) where
    abbrev head : f.Head
    head = head_tree fn.kind fn.name fn.params at

    fn-parts : FunctionParts (file_of tree) fn
    fn-parts = function-parts (file_of tree) fn h.valid

    fn-named : Named (head_params head) fn.params
    fn-named = head-named fn.kind fn.name fn.params at fn-parts.count

    spelt : SpeltStmts (names_in tree fn) known (file_of tree) (file-facts tree ok known means fn) (valid.body_around fn) (valid.body_scope fn) (plain_body fn.body)
    spelt = function-spelt tree ok known means fn h.valid h.ops

    around-is : files.body_around head ≡ valid.body_around fn
    around-is = ap (λ z. record { kind = z; in_loop = false }) (head-kind fn.kind fn.name fn.params at)

    scope-is : files.body_scope head ≡ valid.body_scope fn
    scope-is =
        ap (λ z. with_params (param_kind z) (map param_text (head_params head)) nothing_declared) (head-kind fn.kind fn.name fn.params at)
        ∙ ap (λ z. with_params (param_kind fn.kind) z nothing_declared) (named-texts (head_params head) fn.params fn-named)

    body-is : (inner : List Spot) → files.body_of known head (stmts_tree (names_in tree fn) (plain_body fn.body) inner) ≡ fn.body
    body-is inner =
        let items = stmts_tree (names_in tree fn) (plain_body fn.body) inner in
        ap (λ z. items_of known z (files.body_scope head) items) around-is ∙ ap (λ z. items_of known (valid.body_around fn) z items) scope-is ∙ spelt.again inner ∙ plain_body-up fn.body

    function-is : (ops inner : List Spot) → function_of known head (ops_tree fn.start ops) (stmts_tree (names_in tree fn) (plain_body fn.body) inner) ≡ fn
    function-is ops inner =
        let items = stmts_tree (names_in tree fn) (plain_body fn.body) inner in
        let made : List ℕ → FnKind → List (List ℕ) → List Op → List source_stmt.Stmt → Function = λ name kind params start body. record { name = name; kind = kind; params = params; start = start; body = body } in
        ap (λ z. made z (head_kind head) (map param_text (head_params head)) (ops_of (ops_tree fn.start ops)) (files.body_of known head items)) (head-text fn.kind fn.name fn.params at)
        ∙ ap (λ z. made fn.name z (map param_text (head_params head)) (ops_of (ops_tree fn.start ops)) (files.body_of known head items)) (head-kind fn.kind fn.name fn.params at)
        ∙ ap (λ z. made fn.name fn.kind z (ops_of (ops_tree fn.start ops)) (files.body_of known head items)) (named-texts (head_params head) fn.params fn-named)
        ∙ ap (λ z. made fn.name fn.kind fn.params z (files.body_of known head items)) (ops-again fn.start ops)
        ∙ ap (λ z. made fn.name fn.kind fn.params fn.start z) (body-is inner)

    main-clean : limits (main_form_faults (head_name head) (head_form head)) ≡ true
    main-clean = no-fault (is_main_name (head_name head).text && not (is_int_kind (head_kind head) && length (head_params head) == 0)) (head_name head).spot WrongUse
        (ap (λ z. is_main_name z && not (is_int_kind (head_kind head) && length (head_params head) == 0)) (head-text fn.kind fn.name fn.params at)
        ∙ ap (λ z. is_main_name fn.name && not (is_int_kind z && length (head_params head) == 0)) (head-kind fn.kind fn.name fn.params at)
        ∙ ap (λ z. is_main_name fn.name && not (is_int_kind fn.kind && z == 0)) (named-length (head_params head) fn.params fn-named)
        ∙ by (is_main_name fn.name) (is_int_kind fn.kind) (length fn.params == 0) h.main)
      where
        by : (m i c : Bool) → (m ≡ true → (i ≡ true) × (c ≡ true)) → (m && not (i && c)) ≡ false
        by false i c g = refl
        by true i c g = let e = g refl in ap (λ z. not (z && c)) e.0 ∙ ap not e.1

    end-clean : (inner : List Spot) → limits (end_faults head (files.body_of known head (stmts_tree (names_in tree fn) (plain_body fn.body) inner))) ≡ true
    end-clean inner =
        let items = stmts_tree (names_in tree fn) (plain_body fn.body) inner in
        ap (λ z. limits (end_faults head z)) (body-is inner)
        ∙ no-fault (is_int_kind (head_kind head) && (not (is_main_name (head_name head).text) && falls_through fn.body)) (head_name head).spot NoReturn
        (ap (λ z. is_int_kind z && (not (is_main_name (head_name head).text) && falls_through fn.body)) (head-kind fn.kind fn.name fn.params at)
        ∙ ap (λ z. is_int_kind fn.kind && (not (is_main_name z) && falls_through fn.body)) (head-text fn.kind fn.name fn.params at)
        ∙ by (is_int_kind fn.kind) (is_main_name fn.name) (falls_through fn.body) fn-parts.end)
      where
        by : (i m t : Bool) → (not i || m || not t) ≡ true → (i && (not m && t)) ≡ false
        by false m t g = refl
        by true true t g = refl
        by true false true g = absurd (true≢false (sym g))
        by true false false g = refl

    function-clean : (ops inner : List Spot) → limits (function_faults known head (ops_tree fn.start ops) (stmts_tree (names_in tree fn) (plain_body fn.body) inner)) ≡ true
    function-clean ops inner =
        let items = stmts_tree (names_in tree fn) (plain_body fn.body) inner in
        let facts = file-facts tree ok known means fn in
        limits-append (reserved_faults (head_name head)) _ (no-reserved (head_name head) (head-declared fn at h))
        (limits-append (main_form_faults (head_name head) (head_form head)) _ main-clean
        (limits-append (params_faults known (param_kind (head_kind head)) nothing_declared (head_params head)) _
        (params-clean known facts.undefined (param_kind (head_kind head)) nothing_declared (head_params head) fn.params fn-named fn-parts.params fn-parts.distinct (none-in-block fn.params))
        (limits-append (ops_faults (ops_tree fn.start ops)) _ (ops-clean fn.start ops)
        (limits-append (items_faults known (files.body_around head) (files.body_scope head) items) _
        (ap (λ z. limits (items_faults known z (files.body_scope head) items)) around-is ∙ ap (λ z. limits (items_faults known (valid.body_around fn) z items)) scope-is ∙ spelt.clean inner)
        (limits-append (end_faults head (files.body_of known head items)) _ (end-clean inner) (cells-limits MAX_LOCAL_CELLS (function_cells known head items)))))))

  functions-clean : (list : List Function) (at : List Spot) → Every FnFacts list → limits (each (top_faults known) (parts_tree (function_parts tree list) at)) ≡ true
  functions-clean [] at h = refl
  functions-clean (fn ∷ []) at h =
      let before = after at (head_items fn.kind fn.name fn.params) in
      limits-append (top_faults known (function_tree (names_in tree fn) fn at)) [] (function-clean fn h.0 at (later before) (after (later before) (ops_items fn.start))) refl
  functions-clean (fn ∷ next ∷ more) at h =
      let before = after at (head_items fn.kind fn.name fn.params) in
      limits-append (top_faults known (function_tree (names_in tree fn) fn at)) _ (function-clean fn h.0 at (later before) (after (later before) (ops_items fn.start)))
      (functions-clean (next ∷ more) (after at (function_items (names_in tree fn) fn)) h.1)

  -- all faults

  tops-clean : limits (each (top_faults known) tree_file) ≡ true
  tops-clean =
      let s = sections tree spots in
      let a = parts_tree (header_parts tree) s.header in
      let b = parts_tree (global_parts tree.globals) s.globals in
      let c = parts_tree (prototype_parts tree.functions) s.prototypes in
      let d = parts_tree (function_parts tree tree.functions) s.functions in
      ap (λ z. limits (each (top_faults known) z)) s.is ∙ ap limits (each-sections (top_faults known) a b c d)
      ∙ limits-append (each (top_faults known) a) _ (header-clean s.header)
      (limits-append (each (top_faults known) b) _ (globals-clean tree.globals s.globals global-facts)
      (limits-append (each (top_faults known) c) _ (prototypes-clean tree.functions s.prototypes fn-facts) (functions-clean tree.functions s.functions fn-facts)))

  twice-clean : limits (all_twice_faults [] (declarations tree_file)) ≡ true
  twice-clean =
      let list = declarations tree_file in
      let names : texts list ≡ entry_names (own_table (tree_patched tree) tree.starts) ++ file_names tree =
      texts-erased list ∙ ap entry_names (declarations-are tree spots counts) ∙ map-append (λ e. e.0) (own_table (tree_patched tree) tree.starts) (file_table tree)
      ∙ ap (λ z. entry_names (own_table (tree_patched tree) tree.starts) ++ z) (file-names tree) in
      let rising = (and_parts (are_rising tree.starts) (list_all (λ order. nat_le order.number 2147483647) tree.starts) v.starts).0 in
      twice [] list (all-nothing (texts list))
      (ap are_distinct names
      ∙ distinct-append (entry_names (own_table (tree_patched tree) tree.starts)) (file_names tree) (own-distinct (tree_patched tree) tree.starts rising (small-starts tree v)) ok.distinct
      (own-free (tree_patched tree) tree.starts (file_names tree) ok.declared))

  main-clean-all : (end : Spot) → limits (main_faults known end) ≡ true
  main-clean-all end =
      let m = main-as in
      no-fault (not (is_function_use (n.file_use (known (codes "main")).first))) end Unknown
      (ap (λ z. not (is_function_use (n.file_use z))) (means.first (codes "main") ∙ m.2.0))

  counts-clean : limits (count_faults known tree_file) ≡ true
  counts-clean =
      limits-append (excess_faults MAX_FUNCTIONS (each top_functions tree_file)) _ (excess-limits MAX_FUNCTIONS (each top_functions tree_file))
      (limits-append (excess_faults MAX_GLOBALS (map (λ x. x.0) (each (top_cells known) tree_file))) _ (excess-limits MAX_GLOBALS (map (λ x. x.0) (each (top_cells known) tree_file)))
      (limits-append (cells_faults MAX_GLOBAL_CELLS (each (top_cells known) tree_file)) _ (cells-limits MAX_GLOBAL_CELLS (each (top_cells known) tree_file))
      (excess-limits MAX_NODES (each top_nodes tree_file))))

  pub faults-clean : (end : Spot) → limits (faults_of end tree_file) ≡ true
  faults-clean end =
      limits-append (all_twice_faults [] (declarations tree_file)) _ twice-clean
      (limits-append (each (top_faults known) tree_file) _ tops-clean (limits-append (main_faults known end) _ (main-clean-all end) counts-clean))

  -- what is spelled

  header-globals : (patched : Bool) (at : List Spot) → each (top_globals known) (parts_tree (own_parts patched tree.starts) at) ≡ []
  header-globals false at = refl
  header-globals true at = by tree.starts at
    where
      by : (starts : List OrderId) (at : List Spot) → each (top_globals known) (parts_tree (start_parts starts ++ One (own_line ∷ []) own_line own_tree ∷ []) at) ≡ []
      by [] at = refl
      by (order ∷ more) at = by more (after at (start_line order.number))

  header-functions : (patched : Bool) (at : List Spot) → each (top_functions_of known) (parts_tree (own_parts patched tree.starts) at) ≡ []
  header-functions false at = refl
  header-functions true at = by tree.starts at
    where
      by : (starts : List OrderId) (at : List Spot) → each (top_functions_of known) (parts_tree (start_parts starts ++ One (own_line ∷ []) own_line own_tree ∷ []) at) ≡ []
      by [] at = refl
      by (order ∷ more) at = by more (after at (start_line order.number))

  global-again : (name : List ℕ) (k : GlobalKind) (at : List Spot) → top_globals known (global_tree name k at) ≡ record { name = name; kind = k } ∷ []
  global-again name (kind.Int (pos z)) at = refl
  global-again name (kind.Int (negsuc z)) at = refl
  global-again name (kind.IntArray z) at = refl
  global-again name kind.Thread at = refl
  global-again name (kind.ThreadArray z) at = refl
  global-again name kind.Mutex at = refl
  global-again name kind.Cond at = refl

  globals-again : (list : List Global) (at : List Spot) → each (top_globals known) (parts_tree (global_parts list) at) ≡ list
  globals-again [] at = refl
  globals-again (g ∷ more) at =
      let behind = after at (global_line g.name g.kind) in
      ap (λ z. z ++ each (top_globals known) (parts_tree (global_parts more) behind)) (global-again g.name g.kind at) ∙ ap (λ z. g ∷ z) (globals-again more behind)

  globals-nothing : (list : List Global) (at : List Spot) → each (top_functions_of known) (parts_tree (global_parts list) at) ≡ []
  globals-nothing [] at = refl
  globals-nothing (g ∷ more) at = by g.kind ∙ globals-nothing more (after at (global_line g.name g.kind))
    where
      by : (k : GlobalKind) → top_functions_of known (global_tree g.name k at) ++ each (top_functions_of known) (parts_tree (global_parts more) (after at (global_line g.name g.kind)))
          ≡ each (top_functions_of known) (parts_tree (global_parts more) (after at (global_line g.name g.kind)))
      by (kind.Int z) = refl
      by (kind.IntArray z) = refl
      by kind.Thread = refl
      by (kind.ThreadArray z) = refl
      by kind.Mutex = refl
      by kind.Cond = refl

  prototype-nothing : {B : Type 0} (g : f.Top → List B) → ((h : f.Head) (end : Spot) → g (f.Prototype h end) ≡ []) → (main : Bool) (fn : Function) (rest : List Part) (at : List Spot)
      → ((next : List Spot) → each g (parts_tree rest next) ≡ []) → each g (parts_tree (prototype_by main fn ++ rest) at) ≡ []
  prototype-nothing g e true fn rest at h = h at
  prototype-nothing g e false fn rest at h =
      ap (λ z. z ++ each g (parts_tree rest (after at (prototype_line fn)))) (e (head_tree fn.kind fn.name fn.params at) (here (after at (head_items fn.kind fn.name fn.params))))
      ∙ h (after at (prototype_line fn))

  prototypes-nothing : {B : Type 0} (g : f.Top → List B) → ((h : f.Head) (end : Spot) → g (f.Prototype h end) ≡ []) → (list : List Function) (at : List Spot) → each g (parts_tree (prototype_parts list) at) ≡ []
  prototypes-nothing g e [] at = refl
  prototypes-nothing g e (fn ∷ more) at = prototype-nothing g e (bytes_eq fn.name (codes "main")) fn (prototype_parts more) at (λ next. prototypes-nothing g e more next)

  functions-nothing : (list : List Function) (at : List Spot) → each (top_globals known) (parts_tree (function_parts tree list) at) ≡ []
  functions-nothing [] at = refl
  functions-nothing (fn ∷ []) at = refl
  functions-nothing (fn ∷ next ∷ more) at = functions-nothing (next ∷ more) (after at (function_items (names_in tree fn) fn))

  functions-again : (list : List Function) (at : List Spot) → Every FnFacts list → each (top_functions_of known) (parts_tree (function_parts tree list) at) ≡ list
  functions-again [] at h = refl
  functions-again (fn ∷ []) at h =
      let before = after at (head_items fn.kind fn.name fn.params) in
      ap (λ z. z ∷ []) (function-is fn h.0 at (later before) (after (later before) (ops_items fn.start)))
  functions-again (fn ∷ next ∷ more) at h =
      let before = after at (head_items fn.kind fn.name fn.params) in
      let behind = after at (function_items (names_in tree fn) fn) in
      ap (λ z. z ∷ each (top_functions_of known) (parts_tree (function_parts tree (next ∷ more)) behind)) (function-is fn h.0 at (later before) (after (later before) (ops_items fn.start)))
      ∙ ap (λ z. fn ∷ z) (functions-again (next ∷ more) behind h.1)

  -- starts

  with-first : (order : OrderId) (more : List OrderId) → rise_after order.number more ≡ true → with_order (Some order.number) more ≡ order ∷ more
  with-first order [] r = refl
  with-first order (next ∷ more) r =
      let rs = and_parts (nat_lt order.number next.number) (rise_after next.number more) r in
      let less = ltb-true order.number next.number rs.0 in
      ap (λ z. if z then order ∷ next ∷ more else next ∷ with_order (Some order.number) more) (le-leb order.number next.number (omega (arith, less)))

  still-rising : (order : OrderId) (more : List OrderId) → rise_after order.number more ≡ true → are_rising more ≡ true
  still-rising order [] r = refl
  still-rising order (next ∷ more) r = (and_parts (nat_lt order.number next.number) (rise_after next.number more) r).1

  starts-again : (starts : List OrderId) (at : List Spot) (rest : f.File) → starts_of rest ≡ [] → are_rising starts ≡ true → AreSmall starts
      → starts_of (parts_tree (start_parts starts ++ One (own_line ∷ []) own_line own_tree ∷ []) at ++ rest) ≡ starts
  starts-again [] at rest e r s = e
  starts-again (order ∷ more) at rest e r s =
      let ss = and_parts (nat_le order.number 2147483647) (list_all (λ o. nat_le o.number 2147483647) more) s in
      let behind = after at (start_line order.number) in
      ap (λ z. with_order z (starts_of (parts_tree (start_parts more ++ One (own_line ∷ []) own_line own_tree ∷ []) behind ++ rest))) (start-known order.number (leb-true order.number 2147483647 ss.0))
      ∙ ap (with_order (Some order.number)) (starts-again more behind rest e (still-rising order more r) ss.1)
      ∙ with-first order more r

  no-starts : (starts : List OrderId) (other : Bool) → (has_some starts || other) ≡ false → starts ≡ []
  no-starts [] other e = refl
  no-starts (order ∷ more) other e = absurd (true≢false e)

  own-again : (patched : Bool) (at : List Spot) (rest : f.File) → tree_patched tree ≡ patched → starts_of rest ≡ [] → starts_of (parts_tree (own_parts patched tree.starts) at ++ rest) ≡ tree.starts
  own-again true at rest p e =
      starts-again tree.starts at rest e (and_parts (are_rising tree.starts) (list_all (λ order. nat_le order.number 2147483647) tree.starts) v.starts).0 (small-starts tree v)
  own-again false at rest p e = e ∙ sym (no-starts tree.starts (functions_patched tree.functions) p)

  starts-globals : (list : List Global) (at : List Spot) (rest : f.File) → starts_of (parts_tree (global_parts list) at ++ rest) ≡ starts_of rest
  starts-globals [] at rest = refl
  starts-globals (g ∷ more) at rest = by g.kind ∙ starts-globals more (after at (global_line g.name g.kind)) rest
    where
      by : (k : GlobalKind) → starts_of (global_tree g.name k at ∷ (parts_tree (global_parts more) (after at (global_line g.name g.kind)) ++ rest))
          ≡ starts_of (parts_tree (global_parts more) (after at (global_line g.name g.kind)) ++ rest)
      by (kind.Int z) = refl
      by (kind.IntArray z) = refl
      by kind.Thread = refl
      by (kind.ThreadArray z) = refl
      by kind.Mutex = refl
      by kind.Cond = refl

  starts-prototype : (main : Bool) (fn : Function) (ps : List Part) (at : List Spot) (rest : f.File) → ((next : List Spot) → starts_of (parts_tree ps next ++ rest) ≡ starts_of rest)
      → starts_of (parts_tree (prototype_by main fn ++ ps) at ++ rest) ≡ starts_of rest
  starts-prototype true fn ps at rest h = h at
  starts-prototype false fn ps at rest h = h (after at (prototype_line fn))

  starts-prototypes : (list : List Function) (at : List Spot) (rest : f.File) → starts_of (parts_tree (prototype_parts list) at ++ rest) ≡ starts_of rest
  starts-prototypes [] at rest = refl
  starts-prototypes (fn ∷ more) at rest = starts-prototype (bytes_eq fn.name (codes "main")) fn (prototype_parts more) at rest (λ next. starts-prototypes more next rest)

  starts-functions : (list : List Function) (at : List Spot) → starts_of (parts_tree (function_parts tree list) at) ≡ []
  starts-functions [] at = refl
  starts-functions (fn ∷ []) at = refl
  starts-functions (fn ∷ next ∷ more) at = starts-functions (next ∷ more) (after at (function_items (names_in tree fn) fn))

  pub program-again : (source_of tree_file).tree ≡ tree
  program-again =
      let s = sections tree spots in
      let a = parts_tree (header_parts tree) s.header in
      let b = parts_tree (global_parts tree.globals) s.globals in
      let c = parts_tree (prototype_parts tree.functions) s.prototypes in
      let d = parts_tree (function_parts tree tree.functions) s.functions in
      let own = after (after s.header (include_line (codes "pthread"))) (include_line (codes "stdio")) in
      let made : List Global → List Function → List OrderId → Tree = λ globals functions starts. record { globals = globals; functions = functions; starts = starts } in
      let globals : each (top_globals known) tree_file ≡ tree.globals =
      ap (each (top_globals known)) s.is ∙ each-sections (top_globals known) a b c d
      ∙ ap (λ z. z ++ (each (top_globals known) b ++ (each (top_globals known) c ++ each (top_globals known) d))) (header-globals (tree_patched tree) own)
      ∙ ap (λ z. z ++ (each (top_globals known) c ++ each (top_globals known) d)) (globals-again tree.globals s.globals)
      ∙ ap (λ z. tree.globals ++ (z ++ each (top_globals known) d)) (prototypes-nothing (top_globals known) (λ h end. refl) tree.functions s.prototypes)
      ∙ ap (λ z. tree.globals ++ z) (functions-nothing tree.functions s.functions) ∙ append-nil tree.globals in
      let functions : each (top_functions_of known) tree_file ≡ tree.functions =
      ap (each (top_functions_of known)) s.is ∙ each-sections (top_functions_of known) a b c d
      ∙ ap (λ z. z ++ (each (top_functions_of known) b ++ (each (top_functions_of known) c ++ each (top_functions_of known) d))) (header-functions (tree_patched tree) own)
      ∙ ap (λ z. z ++ (each (top_functions_of known) c ++ each (top_functions_of known) d)) (globals-nothing tree.globals s.globals)
      ∙ ap (λ z. z ++ each (top_functions_of known) d) (prototypes-nothing (top_functions_of known) (λ h end. refl) tree.functions s.prototypes)
      ∙ functions-again tree.functions s.functions fn-facts in
      let starts : starts_of tree_file ≡ tree.starts =
      ap starts_of s.is
      ∙ own-again (tree_patched tree) own (b ++ (c ++ d)) refl
      (starts-globals tree.globals s.globals (c ++ d) ∙ starts-prototypes tree.functions s.prototypes d ∙ starts-functions tree.functions s.functions) in
      ap (λ z. made z (each (top_functions_of known) tree_file) (starts_of tree_file)) globals ∙ ap (λ z. made tree.globals z (starts_of tree_file)) functions
      ∙ ap (λ z. made tree.globals tree.functions z) starts
