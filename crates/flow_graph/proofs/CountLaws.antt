-- The numbers that are counted before a table is built are those of control flow.
use Rattle.std.proofs.Common.{Result, Ok, Err, OnOk, Some, ◌≡◌, ◌+◌, ◌<◌, ◌≤◌, zero, suc, length, length-append, slice_index_or, slice_set, ℕ, List, [], ◌∷◌, ◌++◌, map, drop, Option, ap, sym, ◌∙◌, refl, subst, arith, append_assoc}
use Rattle.std.proofs.Math.Seq.{set-append_seam}
use Rattle.std.proofs.lemmas.List.{at_drop_more}
use Rattle.c_prog.specs.declared.stmt.Cond.{Cond}
use Rattle.c_prog.specs.declared.stmt.Step.{Step}
use Rattle.c_prog.specs.declared.stmt.Stmt.{Stmt}
use Rattle.c_prog.specs.declared.stmt.Stmt.TheVariants as stmt
use Rattle.c_prog.specs.declared.stmt.Stmt.TheViews.{roll-Stmt}
use Rattle.c_prog.specs.declared.stmt.Stmt.TheOpen.{Stmt-F}
use Rattle.c_prog.specs.declared.stmt.Stmt.TheFolds.{fold-roll-Stmt, ind-Stmt, map-Stmt}
use Rattle.flow_graph.specs.Flow.{Part, Way, flow, flow_level, part_size, size_of, parts_of, along, cond_ways, step_ways, first_of, in_loop}
use Rattle.c_prog.specs.Nodes.{step_nodes}
use Rattle.flow_graph.specs.declared.around.Around.{Around}
use Rattle.flow_graph.specs.declared.inner_sizes.InnerSizes.{InnerSizes}
use Rattle.flow_graph.specs.Counts.{Counted, counted, counted_level, sizes, inside, counts_of, Begins}

abbrev Same : Stmt → Type 0
Same s = (counted s).size ≡ (flow s).size

-- a child with its proof
abbrev E : Type 0
E = (s : Stmt) × Same s

abbrev stmts : List E → List Stmt
stmts es = map (λ e. e.0) es

all-same : (es : List E) → sizes (map counted (stmts es)) ≡ size_of (parts_of (stmts es))
all-same [] = refl
all-same (e ∷ es) = omega (arith, e.1, all-same es)

abbrev counted_size : Counted → ℕ
counted_size c = c.size

level : (y : Stmt-F E) → Same (roll-Stmt (map-Stmt E Stmt (λ e. e.0) y))
level (Stmt-F.Simple act after) =
    ap counted_size (fold-roll-Stmt Counted counted_level (Stmt-F.Simple act after)) ∙ sym (ap part_size (fold-roll-Stmt Part flow_level (Stmt-F.Simple act after)))
level (Stmt-F.Jump jump after) =
    ap counted_size (fold-roll-Stmt Counted counted_level (Stmt-F.Jump jump after)) ∙ sym (ap part_size (fold-roll-Stmt Part flow_level (Stmt-F.Jump jump after)))
level (Stmt-F.If cond as_true as_false) =
    ap counted_size (fold-roll-Stmt Counted counted_level (Stmt-F.If cond (stmts as_true) (stmts as_false)))
    ∙ omega (arith, all-same as_true, all-same as_false)
    ∙ sym (ap part_size (fold-roll-Stmt Part flow_level (Stmt-F.If cond (stmts as_true) (stmts as_false))))
level (Stmt-F.Loop cond step body) =
    ap counted_size (fold-roll-Stmt Counted counted_level (Stmt-F.Loop cond step (stmts body)))
    ∙ omega (arith, all-same body)
    ∙ sym (ap part_size (fold-roll-Stmt Part flow_level (Stmt-F.Loop cond step (stmts body))))
level (Stmt-F.Block body) =
    ap counted_size (fold-roll-Stmt Counted counted_level (Stmt-F.Block (stmts body)))
    ∙ all-same body
    ∙ sym (ap part_size (fold-roll-Stmt Part flow_level (Stmt-F.Block (stmts body))))

stmt_counted : (s : Stmt) → Same s
stmt_counted = ind-Stmt Same (λ x y is. subst (λ z. Same (roll-Stmt z)) is (level y))

pub sizes_counted : (list : List Stmt) → sizes (map counted list) ≡ size_of (parts_of list)
sizes_counted [] = refl
sizes_counted (s ∷ list) = omega (arith, stmt_counted s, sizes_counted list)

-- ---- what is inside a statement, variant by variant

counted-If : (c : Cond) (as_true as_false : List Stmt) → counted (stmt.If c as_true as_false) ≡ counted_level (Stmt-F.If c (map counted as_true) (map counted as_false))
counted-If c as_true as_false =
    ap counted (sym (stmt.rolls-If c as_true as_false)) ∙ fold-roll-Stmt Counted counted_level (Stmt-F.If c as_true as_false)

counted-Loop : (c : Cond) (s : Option Step) (body : List Stmt) → counted (stmt.Loop c s body) ≡ counted_level (Stmt-F.Loop c s (map counted body))
counted-Loop c s body =
    ap counted (sym (stmt.rolls-Loop c s body)) ∙ fold-roll-Stmt Counted counted_level (Stmt-F.Loop c s body)

counted-Block : (body : List Stmt) → counted (stmt.Block body) ≡ counted_level (Stmt-F.Block (map counted body))
counted-Block body = ap counted (sym (stmt.rolls-Block body)) ∙ fold-roll-Stmt Counted counted_level (Stmt-F.Block body)

pub own-If : (c : Cond) (as_true as_false : List Stmt) → (counted (stmt.If c as_true as_false)).own ≡ inside (size_of (parts_of as_true)) (size_of (parts_of as_false))
own-If c as_true as_false =
    ap (λ (k : Counted). k.own) (counted-If c as_true as_false)
    ∙ ap (λ n. inside n (sizes (map counted as_false))) (sizes_counted as_true)
    ∙ ap (inside (size_of (parts_of as_true))) (sizes_counted as_false)

pub within-If : (c : Cond) (as_true as_false : List Stmt) → (counted (stmt.If c as_true as_false)).within ≡ counts_of as_true ++ counts_of as_false
within-If c as_true as_false = ap (λ (k : Counted). k.within) (counted-If c as_true as_false)

pub own-Loop : (c : Cond) (s : Option Step) (body : List Stmt) → (counted (stmt.Loop c s body)).own ≡ inside (size_of (parts_of body)) 0
own-Loop c s body = ap (λ (k : Counted). k.own) (counted-Loop c s body) ∙ ap (λ n. inside n 0) (sizes_counted body)

pub within-Loop : (c : Cond) (s : Option Step) (body : List Stmt) → (counted (stmt.Loop c s body)).within ≡ counts_of body
within-Loop c s body = ap (λ (k : Counted). k.within) (counted-Loop c s body)

pub own-Block : (body : List Stmt) → (counted (stmt.Block body)).own ≡ inside (size_of (parts_of body)) 0
own-Block body = ap (λ (k : Counted). k.own) (counted-Block body) ∙ ap (λ n. inside n 0) (sizes_counted body)

pub within-Block : (body : List Stmt) → (counted (stmt.Block body)).within ≡ counts_of body
within-Block body = ap (λ (k : Counted). k.within) (counted-Block body)

-- ---- the size of a statement, from what is inside it

abbrev size : Stmt → ℕ
size s = (flow s).size

abbrev own : Stmt → InnerSizes
own s = (counted s).own

abbrev within : Stmt → List InnerSizes
within s = (counted s).within

abbrev first_part : InnerSizes → ℕ
first_part i = i.first

abbrev second_part : InnerSizes → ℕ
second_part i = i.second

size-If : (c : Cond) (as_true as_false : List Stmt) → size (stmt.If c as_true as_false) ≡ 1 + size_of (parts_of as_true) + size_of (parts_of as_false)
size-If c as_true as_false =
    ap size (sym (stmt.rolls-If c as_true as_false)) ∙ ap part_size (fold-roll-Stmt Part flow_level (Stmt-F.If c as_true as_false))

size-Loop : (c : Cond) (s : Option Step) (body : List Stmt) → size (stmt.Loop c s body) ≡ 1 + step_nodes s + size_of (parts_of body)
size-Loop c s body =
    ap size (sym (stmt.rolls-Loop c s body)) ∙ ap part_size (fold-roll-Stmt Part flow_level (Stmt-F.Loop c s body))

size-Block : (body : List Stmt) → size (stmt.Block body) ≡ size_of (parts_of body)
size-Block body = ap size (sym (stmt.rolls-Block body)) ∙ ap part_size (fold-roll-Stmt Part flow_level (Stmt-F.Block body))

-- what is known of a statement of each kind from its numbers
pub record OfIf (s : Stmt) (i : InnerSizes) (as_true as_false : List Stmt) : Type 0 where
  pub first : i.first ≡ size_of (parts_of as_true)
  pub second : i.second ≡ size_of (parts_of as_false)
  pub whole : 1 + i.first + i.second ≡ size s
  pub within : (counted s).within ≡ counts_of as_true ++ counts_of as_false

pub of-If : (s : Stmt) (i : InnerSizes) (c : Cond) (as_true as_false : List Stmt) → s ≡ stmt.If c as_true as_false → i ≡ own s → OfIf s i as_true as_false
of-If s i c as_true as_false is same =
    let mine : i ≡ inside (size_of (parts_of as_true)) (size_of (parts_of as_false)) = same ∙ ap own is ∙ own-If c as_true as_false in
    let first : i.first ≡ size_of (parts_of as_true) = ap first_part mine in
    let second : i.second ≡ size_of (parts_of as_false) = ap second_part mine in
    let whole : size s ≡ 1 + size_of (parts_of as_true) + size_of (parts_of as_false) = ap size is ∙ size-If c as_true as_false in
    record { first = first; second = second; whole = omega (arith, first, second, whole); within = ap within is ∙ within-If c as_true as_false }

pub record OfLoop (s : Stmt) (i : InnerSizes) (step : Option Step) (body : List Stmt) : Type 0 where
  pub first : i.first ≡ size_of (parts_of body)
  pub whole : 1 + step_nodes step + i.first ≡ size s
  pub within : (counted s).within ≡ counts_of body

pub of-Loop : (s : Stmt) (i : InnerSizes) (c : Cond) (step : Option Step) (body : List Stmt) → s ≡ stmt.Loop c step body → i ≡ own s → OfLoop s i step body
of-Loop s i c step body is same =
    let mine : i ≡ inside (size_of (parts_of body)) 0 = same ∙ ap own is ∙ own-Loop c step body in
    let first : i.first ≡ size_of (parts_of body) = ap first_part mine in
    let whole : size s ≡ 1 + step_nodes step + size_of (parts_of body) = ap size is ∙ size-Loop c step body in
    record { first = first; whole = omega (arith, first, whole); within = ap within is ∙ within-Loop c step body }

pub record OfBlock (s : Stmt) (i : InnerSizes) (body : List Stmt) : Type 0 where
  pub first : i.first ≡ size_of (parts_of body)
  pub whole : i.first ≡ size s
  pub within : (counted s).within ≡ counts_of body

pub of-Block : (s : Stmt) (i : InnerSizes) (body : List Stmt) → s ≡ stmt.Block body → i ≡ own s → OfBlock s i body
of-Block s i body is same =
    let first : i.first ≡ size_of (parts_of body) = ap first_part (same ∙ ap own is ∙ own-Block body) in
    record { first = first; whole = first ∙ sym (ap size is ∙ size-Block body); within = ap within is ∙ within-Block body }

-- ---- the sizes of what is left of a list

abbrev pub size_all : List Stmt → ℕ
size_all list = size_of (parts_of list)

-- ---- a place that was kept for a statement

pub settled : (before kept_in behind all settled_in : List InnerSizes) (kept own_sizes : InnerSizes) (place : ℕ) → place ≡ length before → kept_in ≡ before ++ kept ∷ [] → all ≡ kept_in ++ behind → settled_in ≡ slice_set all place own_sizes → settled_in ≡ before ++ own_sizes ∷ behind
settled before kept_in behind all settled_in kept own_sizes place at keeps counts sets =
    sets
    ∙ ap (λ l. slice_set l place own_sizes) (counts ∙ ap (λ l. l ++ behind) keeps ∙ append_assoc before (kept ∷ []) behind)
    ∙ ap (λ p. slice_set (before ++ kept ∷ behind) p own_sizes) at
    ∙ set-append_seam before kept behind own_sizes

-- what is added for a statement of each kind
added : (s : Stmt) (before : List InnerSizes) (i : InnerSizes) (list : List InnerSizes) → own s ≡ i → within s ≡ list → before ++ i ∷ list ≡ before ++ own s ∷ within s
added s before i list own_is within_is = ap (λ j. before ++ j ∷ list) (sym own_is) ∙ ap (λ l. before ++ own s ∷ l) (sym within_is)

pub added-If : (s : Stmt) (before : List InnerSizes) (c : Cond) (as_true as_false : List Stmt) → s ≡ stmt.If c as_true as_false → (m n : ℕ) → m ≡ size_all as_true → n ≡ size_all as_false → before ++ inside m n ∷ (counts_of as_true ++ counts_of as_false) ≡ before ++ own s ∷ within s
added-If s before c as_true as_false is m n first second =
    added s before (inside m n) (counts_of as_true ++ counts_of as_false)
    (ap own is ∙ own-If c as_true as_false ∙ sym (ap (λ k. inside k n) first ∙ ap (inside (size_all as_true)) second))
    (ap within is ∙ within-If c as_true as_false)

pub added-Loop : (s : Stmt) (before : List InnerSizes) (c : Cond) (step : Option Step) (body : List Stmt) → s ≡ stmt.Loop c step body → (m : ℕ) → m ≡ size_all body → before ++ inside m 0 ∷ counts_of body ≡ before ++ own s ∷ within s
added-Loop s before c step body is m first =
    added s before (inside m 0) (counts_of body) (ap own is ∙ own-Loop c step body ∙ sym (ap (λ k. inside k 0) first)) (ap within is ∙ within-Loop c step body)

pub added-Block : (s : Stmt) (before : List InnerSizes) (body : List Stmt) → s ≡ stmt.Block body → (m : ℕ) → m ≡ size_all body → before ++ inside m 0 ∷ counts_of body ≡ before ++ own s ∷ within s
added-Block s before body is m first =
    added s before (inside m 0) (counts_of body) (ap own is ∙ own-Block body ∙ sym (ap (λ k. inside k 0) first)) (ap within is ∙ within-Block body)

-- ---- fronts of counts

pub begins_as : (a within_s whole : List InnerSizes) → within_s ≡ a → Begins within_s whole → Begins a whole
begins_as a within_s whole same begins = record { rest = begins.rest; is = begins.is ∙ ap (λ l. l ++ begins.rest) same }

pub begins_first : (a b within_s whole : List InnerSizes) → within_s ≡ a ++ b → Begins within_s whole → Begins a whole
begins_first a b within_s whole same begins =
    record { rest = b ++ begins.rest; is = begins.is ∙ ap (λ l. l ++ begins.rest) same ∙ append_assoc a b begins.rest }

pub begins_second : (a b within_s whole left : List InnerSizes) → within_s ≡ a ++ b → Begins within_s whole → ((rest : List InnerSizes) → whole ≡ a ++ rest → left ≡ rest) → Begins b left
begins_second a b within_s whole left same begins after =
    record { rest = begins.rest; is = after (b ++ begins.rest) (begins.is ∙ ap (λ l. l ++ begins.rest) same ∙ append_assoc a b begins.rest) }

abbrev first_or : InnerSizes → List InnerSizes → InnerSizes
first_or x [] = x
first_or x (y ∷ ys) = y

-- what the counts begin with, where those of the statements from a place on come next
pub record Taken (s : Stmt) (taken : InnerSizes) (left : List InnerSizes) : Type 0 where
  pub own : taken ≡ (counted s).own
  pub within : Begins (counted s).within left

pub taken_at : (list : List Stmt) (n : ℕ) (s : Stmt) → n < length list → s ≡ slice_index_or list n s → (counts : List InnerSizes) (i : InnerSizes) (left rest : List InnerSizes) → counts ≡ counts_of (drop n list) ++ rest → counts ≡ i ∷ left → Taken s i left
taken_at list n s short at counts i left rest told next =
    let here : counts_of (drop n list) ≡ own (slice_index_or list n s) ∷ (within (slice_index_or list n s) ++ counts_of (drop (n + 1) list)) = at_drop_more counts_of list n s short in
    let begins : i ∷ left ≡ own (slice_index_or list n s) ∷ ((within (slice_index_or list n s) ++ counts_of (drop (n + 1) list)) ++ rest) = sym next ∙ told ∙ ap (λ l. l ++ rest) here in
    record {
      own = ap (first_or i) begins ∙ ap own (sym at);
      within = record {
        rest = counts_of (drop (n + 1) list) ++ rest;
        is = ap (drop 1) begins ∙ append_assoc (within (slice_index_or list n s)) (counts_of (drop (n + 1) list)) rest ∙ ap (λ u. within u ++ (counts_of (drop (n + 1) list) ++ rest)) (sym at);
      };
    }

pub size_at : (list : List Stmt) (n : ℕ) (s : Stmt) → n < length list → s ≡ slice_index_or list n s → size_all (drop n list) ≡ size s + size_all (drop (n + 1) list)
size_at list n s short at = at_drop_more size_all list n s short ∙ ap (λ u. size u + size_all (drop (n + 1) list)) (sym at)

-- ---- how many statements are inside

pub fewer-first : (a b within_s : List InnerSizes) → within_s ≡ a ++ b → length a ≤ length within_s
fewer-first a b within_s same = omega (arith, ap length same, length-append a b)

pub fewer-second : (a b within_s : List InnerSizes) → within_s ≡ a ++ b → length b ≤ length within_s
fewer-second a b within_s same = omega (arith, ap length same, length-append a b)

pub fewer-inside : (list : List Stmt) (n : ℕ) (d : Stmt) → n < length list → length (within (slice_index_or list n d)) + 1 ≤ length (counts_of list)
fewer-inside [] n d short = omega (arith, short)
fewer-inside (t ∷ list) zero d short = omega (arith, length-append (within t) (counts_of list))
fewer-inside (t ∷ list) (suc n) d short = omega (arith, fewer-inside list n d (omega (arith, short)), length-append (within t) (counts_of list))

-- ---- what a clause says where there is a value

pub on_ok : {T E : Type 0} (r : Result T E) (P Q : Type 0) → OnOk r P → (P → Q) → OnOk r Q
on_ok (Ok x) P Q p f = f p
on_ok (Err e) P Q p f = p

-- ---- the places of a statement, from those that its parts add

flow-If : (c : Cond) (as_true as_false : List Stmt) → flow (stmt.If c as_true as_false) ≡ flow_level (Stmt-F.If c (map flow as_true) (map flow as_false))
flow-If c as_true as_false = ap flow (sym (stmt.rolls-If c as_true as_false)) ∙ fold-roll-Stmt Part flow_level (Stmt-F.If c as_true as_false)

flow-Loop : (c : Cond) (step : Option Step) (body : List Stmt) → flow (stmt.Loop c step body) ≡ flow_level (Stmt-F.Loop c step (map flow body))
flow-Loop c step body = ap flow (sym (stmt.rolls-Loop c step body)) ∙ fold-roll-Stmt Part flow_level (Stmt-F.Loop c step body)

pub ways-If : (s : Stmt) (i : InnerSizes) (c : Cond) (as_true as_false : List Stmt) → s ≡ stmt.If c as_true as_false → i ≡ own s → (start end : ℕ) (around : Around) → start ≡ end → (t0 t1 t2 t3 : List Way) → t1 ≡ t0 ++ cond_ways end c (first_of i.first (start + 1) around.follow) (first_of i.second (start + 1 + i.first) around.follow) → t2 ≡ t1 ++ along (parts_of as_true) (start + 1) around → t3 ≡ t2 ++ along (parts_of as_false) (start + 1 + i.first) around → t3 ≡ t0 ++ (flow s).ways start around
ways-If s i c as_true as_false is same start end around here t0 t1 t2 t3 cond_added true_added false_added =
    let k = of-If s i c as_true as_false is same in
    let outs : ℕ → ℕ → ℕ → List Way = λ n m1 m2. cond_ways n c (first_of m1 (start + 1) around.follow) (first_of m2 (start + 1 + m1) around.follow) in
    let inner : ℕ → List Way = λ m1. along (parts_of as_true) (start + 1) around ++ along (parts_of as_false) (start + 1 + m1) around in
    false_added
    ∙ ap (λ t. t ++ along (parts_of as_false) (start + 1 + i.first) around) (true_added ∙ ap (λ t. t ++ along (parts_of as_true) (start + 1) around) cond_added)
    ∙ append_assoc (t0 ++ outs end i.first i.second) (along (parts_of as_true) (start + 1) around) (along (parts_of as_false) (start + 1 + i.first) around)
    ∙ append_assoc t0 (outs end i.first i.second) (inner i.first)
    ∙ ap (λ n. t0 ++ (outs n i.first i.second ++ inner i.first)) (sym here)
    ∙ ap (λ m. t0 ++ (outs start m i.second ++ inner m)) k.first
    ∙ ap (λ m. t0 ++ (outs start (size_all as_true) m ++ inner (size_all as_true))) k.second
    ∙ ap (λ (p : Part). t0 ++ p.ways start around) (sym (ap flow is ∙ flow-If c as_true as_false))

pub ways-Loop : (s : Stmt) (i : InnerSizes) (c : Cond) (step : Option Step) (body : List Stmt) → s ≡ stmt.Loop c step body → i ≡ own s → (start first : ℕ) (around inner : Around) → first ≡ start + 1 + step_nodes step → inner ≡ in_loop (start + step_nodes step) around → (t0 t1 t2 : List Way) → t1 ≡ t0 ++ (cond_ways start c (first_of i.first (start + 1 + step_nodes step) (Some (start + step_nodes step))) around.follow ++ step_ways step start) → t2 ≡ t1 ++ along (parts_of body) first inner → t2 ≡ t0 ++ (flow s).ways start around
ways-Loop s i c step body is same start first around inner at within_loop t0 t1 t2 head_added body_added =
    let k = of-Loop s i c step body is same in
    let outs : ℕ → List Way = λ m. cond_ways start c (first_of m (start + 1 + step_nodes step) (Some (start + step_nodes step))) around.follow in
    body_added
    ∙ ap (λ t. t ++ along (parts_of body) first inner) head_added
    ∙ append_assoc t0 (outs i.first ++ step_ways step start) (along (parts_of body) first inner)
    ∙ ap (λ l. t0 ++ l) (append_assoc (outs i.first) (step_ways step start) (along (parts_of body) first inner))
    ∙ ap (λ n. t0 ++ (outs i.first ++ (step_ways step start ++ along (parts_of body) n inner))) at
    ∙ ap (λ a. t0 ++ (outs i.first ++ (step_ways step start ++ along (parts_of body) (start + 1 + step_nodes step) a))) within_loop
    ∙ ap (λ m. t0 ++ (outs m ++ (step_ways step start ++ along (parts_of body) (start + 1 + step_nodes step) (in_loop (start + step_nodes step) around)))) k.first
    ∙ ap (λ (p : Part). t0 ++ p.ways start around) (sym (ap flow is ∙ flow-Loop c step body))
