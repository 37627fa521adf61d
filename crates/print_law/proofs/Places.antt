-- The scopes of a canonical body: what its statements declare, and where their names stand among the names of the locals.
use Rattle.std.proofs.Common.{◌≡◌, ℕ, ◌+◌, Bool, true, false, ◌&&◌, List, [], ◌∷◌, ◌++◌, map, length, length-append, Option, Some, None, slice_get, append_assoc, not, refl, ap, sym, ◌∙◌, subst, arith, true≢false}
use Rattle.std.proofs.lemmas.Bool.{and_parts}
use Rattle.cfix_base.specs.declared.op.Op.{Op}
use Rattle.cfix_base.specs.declared.spot.Spot.{Spot}
use Rattle.c_prog.specs.declared.act.Act.{Act}
use Rattle.c_prog.specs.declared.act.Act.TheVariants as act
use Rattle.c_prog.specs.declared.act.How.{How}
use Rattle.c_prog.specs.declared.act.How.TheVariants as how
use Rattle.c_prog.specs.declared.act.LocalKind.{LocalKind}
use Rattle.c_prog.specs.declared.act.LocalKind.TheVariants as kind
use Rattle.c_prog.specs.declared.act.CallForm.{CallForm}
use Rattle.c_prog.specs.declared.act.Value.{Value}
use Rattle.c_prog.specs.declared.act.Value.TheVariants as value
use Rattle.c_prog.specs.declared.stmt.Cond.{Cond}
use Rattle.c_prog.specs.declared.stmt.Jump.{Jump}
use Rattle.c_prog.specs.declared.stmt.Step.{Step}
use Rattle.c_prog.specs.declared.stmt.Stmt.TheOpen.{Stmt-F}
use Rattle.c_prog.specs.Order.{joined}
use Rattle.c_prog.specs.Valid.Scope.{Scope, visible, declared, entered, passed, is_in_block}
use Rattle.c_prog.specs.Valid.Kinds.{File, local_var_kind}
use Rattle.c_prog.specs.Valid.Expressions as valid
use Rattle.c_prog.specs.Valid.Acts.{is_declared_name, is_valid_kind, is_valid_initial, is_valid_assigned, is_valid_act, is_step}
use Rattle.c_prog.specs.Valid.Statements.{Around, looped, Part, Declared, own_count, counts, also_declared, after, all_valid, declares, is_valid_step, is_valid_jump, stmt_rules, part_of, parts_of}
use Rattle.c_prog.proofs.ValidEquations.{part-Simple, part-Jump, part-If, part-Loop, part-Block}
use Rattle.c_grammar.specs.Stmt as t
use Rattle.c_print.specs.Text.Names.{Names, name_at, or_nothing, act_names, step_names, declared_names}
use Rattle.c_print.proofs.TextEquations.{names-Simple, names-Jump, names-If, names-Loop, names-Block}
use Rattle.c_names.specs.Scopes.{stmt_locals, else_locals, items_locals, item_locals, item_after}
use Rattle.print_law.proofs.Plain.{Stmt, Simple, Jumps, If, Loop, Block, Stmts, NoStmts, And, up_stmt, up_stmts}
use Rattle.print_law.proofs.Items as items
use Rattle.print_law.proofs.Apart.{both}
use Rattle.print_law.proofs.Simples.{made_item, act_items, act_made, act_form, has_form, is_set}
use Rattle.print_law.proofs.Operations.{ops_tree, cond_items}
use Rattle.print_law.proofs.Statements.{is_lone, step_items, stmt_in, stmt_items, stmts_items, stmt_tree, stmts_tree, else_tree, else_tree_by, if_tree, loop_tree, behind_cond, block_with, lone-does}
use Rattle.print_law.proofs.StatementLines.{formed, all_formed, formed_step}
use Rattle.print_law.proofs.Meanings.{AllKnown}

-- the names that statements declare, in the order of the text
abbrev mutual
  pub own_names : Stmt → List (List ℕ)
  own_names (Simple a ops) = act_names a
  own_names (Jumps j ops) = []
  own_names (If cond on_true on_false) = all_names on_true ++ all_names on_false
  own_names (Loop cond step body) = all_names body
  own_names (Block body) = all_names body

  pub all_names : Stmts → List (List ℕ)
  all_names NoStmts = []
  all_names (And s more) = own_names s ++ all_names more

no-step-names : (a : Act) → is_step a ≡ true → act_names a ≡ []
no-step-names (act.Declare name k initial) h = absurd (true≢false (sym h))
no-step-names (act.Assign t h (value.Expr e)) g = refl
no-step-names (act.Assign t h (value.Call c)) g = refl
no-step-names (act.Up t) h = refl
no-step-names (act.Down t) h = refl
no-step-names (act.Call c) h = refl
no-step-names (act.Create t f e) h = refl
no-step-names (act.Join t) h = refl
no-step-names (act.Lock x) h = refl
no-step-names (act.Unlock x) h = refl
no-step-names (act.Print text args) h = refl
no-step-names (act.Scan t) h = refl
no-step-names (act.Wait c x) h = refl
no-step-names (act.Signal c) h = refl
no-step-names (act.Broadcast c) h = refl

step-names : (step : Option Step) → formed_step step ≡ true → step_names step ≡ []
step-names None h = refl
step-names (Some step) h = no-step-names step.act h

mutual
  names-are : (s : Stmt) → formed s ≡ true → declared_names (up_stmt s) ≡ own_names s
  names-are (Simple a ops) h = names-Simple a ops
  names-are (Jumps j ops) h = names-Jump j ops
  names-are (If cond on_true on_false) h =
      let hs = and_parts (all_formed on_true) (all_formed on_false) h in
      names-If cond (up_stmts on_true) (up_stmts on_false) ∙ ap (λ z. z ++ joined (map declared_names (up_stmts on_false))) (all-names-are on_true hs.0)
      ∙ ap (λ z. all_names on_true ++ z) (all-names-are on_false hs.1)
  names-are (Loop cond step body) h =
      let hs = and_parts (formed_step step) (all_formed body) h in
      names-Loop cond step (up_stmts body) ∙ ap (λ z. z ++ joined (map declared_names (up_stmts body))) (step-names step hs.0) ∙ all-names-are body hs.1
  names-are (Block body) h = names-Block (up_stmts body) ∙ all-names-are body h

  -- they are those of the text's definition
  pub all-names-are : (body : Stmts) → all_formed body ≡ true → joined (map declared_names (up_stmts body)) ≡ all_names body
  all-names-are NoStmts h = refl
  all-names-are (And s more) h =
      let hs = and_parts (formed s) (all_formed more) h in
      ap (λ z. z ++ joined (map declared_names (up_stmts more))) (names-are s hs.0) ∙ ap (λ z. own_names s ++ z) (all-names-are more hs.1)

-- how many locals statements declare

passed-zero : (scope : Scope) → passed 0 scope ≡ scope
passed-zero scope =
    let same : scope.count + 0 ≡ scope.count = omega arith in
    ap (λ (k : ℕ). record { block = scope.block; around = scope.around; count = k }) same

declared-one : (names : Names) (name : List ℕ) (k : LocalKind) (initial : Option Value) (scope : Scope) (spots : List Spot) (end : Spot) (ops : List Op) (last : List Spot)
    → item_after scope (made_item (act_made names (act.Declare name k initial) spots) end (ops_tree ops last)) ≡ declared name (local_var_kind k) scope
declared-one names name kind.Int None scope spots end ops last = refl
declared-one names name kind.Int (Some v) scope spots end ops last = refl
declared-one names name (kind.IntArray n) initial scope spots end ops last = refl
declared-one names name kind.Thread initial scope spots end ops last = refl
declared-one names name (kind.ThreadArray n) initial scope spots end ops last = refl

declared-count : (names : Names) (name : List ℕ) (k : LocalKind) (initial : Option Value) (spots : List Spot) (end : Spot) (ops : List Op) (last : List Spot)
    → item_locals (made_item (act_made names (act.Declare name k initial) spots) end (ops_tree ops last)) ≡ 1
declared-count names name kind.Int None spots end ops last = refl
declared-count names name kind.Int (Some v) spots end ops last = refl
declared-count names name (kind.IntArray n) initial spots end ops last = refl
declared-count names name kind.Thread initial spots end ops last = refl
declared-count names name (kind.ThreadArray n) initial spots end ops last = refl

simple-count : (names : Names) (a : Act) (spots : List Spot) (end : Spot) (ops : List Op) (last : List Spot)
    → item_locals (made_item (act_made names a spots) end (ops_tree ops last)) ≡ length (act_names a)
simple-count names (act.Declare name k initial) spots end ops last = declared-count names name k initial spots end ops last
simple-count names (act.Assign t h (value.Expr e)) spots end ops last = refl
simple-count names (act.Assign t h (value.Call c)) spots end ops last = refl
simple-count names (act.Up t) spots end ops last = refl
simple-count names (act.Down t) spots end ops last = refl
simple-count names (act.Call c) spots end ops last = refl
simple-count names (act.Create t f e) spots end ops last = refl
simple-count names (act.Join t) spots end ops last = refl
simple-count names (act.Lock x) spots end ops last = refl
simple-count names (act.Unlock x) spots end ops last = refl
simple-count names (act.Print text args) spots end ops last = refl
simple-count names (act.Scan t) spots end ops last = refl
simple-count names (act.Wait c x) spots end ops last = refl
simple-count names (act.Signal c) spots end ops last = refl
simple-count names (act.Broadcast c) spots end ops last = refl

loop-count : (names : Names) (cond : Cond) (step : Option Step) (body : List Spot → t.Stmt) (k : ℕ) → ((spots : List Spot) → stmt_locals (body spots) ≡ k)
    → (spots : List Spot) → stmt_locals (loop_tree names cond step body spots) ≡ k
loop-count names cond None body k h spots = h (items.later (behind_cond names cond spots))
loop-count names cond (Some step) body k h spots =
    let start = items.later (items.later (items.later spots)) in
    let behind = items.after start (cond_items names cond) in
    let last = items.after (items.later behind) (step_items names step) in
    let e = h (items.later last) in
    omega (arith, e)

else-count-by : (lone : Bool) (first rest : List items.Item) (item : List Spot → t.Item) (more : List Spot → t.Items) (k j : ℕ)
    → (lone ≡ true → ((spots : List Spot) → item spots ≡ t.Does (stmt_in (item spots))) × (j ≡ 0))
    → ((spots : List Spot) → item_locals (item spots) ≡ k) → ((spots : List Spot) → items_locals (more spots) ≡ j)
    → (spots : List Spot) → else_locals (else_tree_by lone first rest item more spots) ≡ k + j
else-count-by true first rest item more k j e p q spots =
    let s = items.later spots in
    sym (ap item_locals ((e refl).0 s)) ∙ p s ∙ (let z = (e refl).1 in omega (arith, z))
else-count-by false first rest item more k j e p q spots =
    let s = items.later (items.later spots) in
    ap (λ z. z + items_locals (more (items.after s first))) (p s) ∙ ap (λ z. k + z) (q (items.after s first))

lone-none : (s : Stmt) (more : Stmts) → is_lone s more ≡ true → length (all_names more) ≡ 0
lone-none s NoStmts e = refl
lone-none s (And next more) e = absurd (true≢false (sym e))

if-count : (names : Names) (cond : Cond) (list : List items.Item) (on_true : List Spot → t.Items) (on_false : List Spot → t.Else) (k j : ℕ)
    → ((spots : List Spot) → items_locals (on_true spots) ≡ k) → ((spots : List Spot) → else_locals (on_false spots) ≡ j)
    → (spots : List Spot) → stmt_locals (if_tree names cond list on_true on_false spots) ≡ k + j
if-count names cond list on_true on_false k j p q spots =
    let body = items.later (items.later (behind_cond names cond spots)) in
    let last = items.later (items.after body list) in
    ap (λ z. z + else_locals (on_false last)) (p body) ∙ ap (λ z. k + z) (q last)

mutual
  item-count : (names : Names) (s : Stmt) (spots : List Spot) → item_locals (stmt_tree names s spots) ≡ length (own_names s)
  item-count names (Simple a ops) spots =
      simple-count names a spots (items.here (items.after spots (act_items names a))) ops (items.later (items.after spots (act_items names a)))
  item-count names (Jumps j ops) spots = refl
  item-count names (If cond on_true on_false) spots =
      if-count names cond (stmts_items names on_true) (stmts_tree names on_true) (else_tree names on_false) (length (all_names on_true)) (length (all_names on_false))
      (items-count names on_true) (else-count names on_false) spots
      ∙ sym (length-append (all_names on_true) (all_names on_false))
  item-count names (Loop cond step body) spots =
      loop-count names cond step (block_with (stmts_items names body) (stmts_tree names body)) (length (all_names body)) (λ inner. items-count names body (items.later inner)) spots
  item-count names (Block body) spots = items-count names body (items.later spots)

  pub items-count : (names : Names) (body : Stmts) (spots : List Spot) → items_locals (stmts_tree names body spots) ≡ length (all_names body)
  items-count names NoStmts spots = refl
  items-count names (And s more) spots =
      let behind = items.after spots (stmt_items names s) in
      ap (λ z. z + items_locals (stmts_tree names more behind)) (item-count names s spots) ∙ ap (λ z. length (own_names s) + z) (items-count names more behind)
      ∙ sym (length-append (own_names s) (all_names more))

  else-count : (names : Names) (body : Stmts) (spots : List Spot) → else_locals (else_tree names body spots) ≡ length (all_names body)
  else-count names NoStmts spots = refl
  else-count names (And s more) spots =
      else-count-by (is_lone s more) (stmt_items names s) (stmts_items names more) (stmt_tree names s) (stmts_tree names more) (length (own_names s)) (length (all_names more))
      (λ e. (lone-does names s more e, lone-none s more e)) (item-count names s) (items-count names more) spots
      ∙ sym (length-append (own_names s) (all_names more))

act-count : (a : Act) → own_count (declares a) + 0 ≡ length (act_names a)
act-count (act.Declare name k initial) = refl
act-count (act.Assign t h (value.Expr e)) = refl
act-count (act.Assign t h (value.Call c)) = refl
act-count (act.Up t) = refl
act-count (act.Down t) = refl
act-count (act.Call c) = refl
act-count (act.Create t f e) = refl
act-count (act.Join t) = refl
act-count (act.Lock x) = refl
act-count (act.Unlock x) = refl
act-count (act.Print text args) = refl
act-count (act.Scan t) = refl
act-count (act.Wait c x) = refl
act-count (act.Signal c) = refl
act-count (act.Broadcast c) = refl

abbrev part_count : Part → ℕ
part_count part = own_count part.declares + part.inside

module _ (file : File) where
  mutual
    part-count : (s : Stmt) → part_count (part_of file (up_stmt s)) ≡ length (own_names s)
    part-count (Simple a ops) = ap part_count (part-Simple file a ops) ∙ act-count a
    part-count (Jumps j ops) = ap part_count (part-Jump file j ops)
    part-count (If cond on_true on_false) =
        let x = parts-count on_true in
        let y = parts-count on_false in
        let both_names = length-append (all_names on_true) (all_names on_false) in
        ap part_count (part-If file cond (up_stmts on_true) (up_stmts on_false)) ∙ omega (arith, x, y, both_names)
    part-count (Loop cond step body) =
        let x = parts-count body in
        ap part_count (part-Loop file cond step (up_stmts body)) ∙ omega (arith, x)
    part-count (Block body) =
        let x = parts-count body in
        ap part_count (part-Block file (up_stmts body)) ∙ omega (arith, x)

    pub parts-count : (body : Stmts) → counts (parts_of file (up_stmts body)) ≡ length (all_names body)
    parts-count NoStmts = refl
    parts-count (And s more) =
        ap (λ z. z + counts (parts_of file (up_stmts more))) (part-count s) ∙ ap (λ z. length (own_names s) + z) (parts-count more)
        ∙ sym (length-append (own_names s) (all_names more))

  -- the scope behind a statement

  simple-after : (names : Names) (a : Act) (scope : Scope) (spots : List Spot) (end : Spot) (ops : List Op) (last : List Spot)
      → item_after scope (made_item (act_made names a spots) end (ops_tree ops last)) ≡ passed 0 (also_declared (declares a) scope)
  simple-after names (act.Declare name k initial) scope spots end ops last =
      declared-one names name k initial scope spots end ops last ∙ sym (passed-zero (declared name (local_var_kind k) scope))
  simple-after names (act.Assign t h (value.Expr e)) scope spots end ops last = refl
  simple-after names (act.Assign t h (value.Call c)) scope spots end ops last = refl
  simple-after names (act.Up t) scope spots end ops last = refl
  simple-after names (act.Down t) scope spots end ops last = refl
  simple-after names (act.Call c) scope spots end ops last = refl
  simple-after names (act.Create t f e) scope spots end ops last = refl
  simple-after names (act.Join t) scope spots end ops last = refl
  simple-after names (act.Lock x) scope spots end ops last = refl
  simple-after names (act.Unlock x) scope spots end ops last = refl
  simple-after names (act.Print text args) scope spots end ops last = refl
  simple-after names (act.Scan t) scope spots end ops last = refl
  simple-after names (act.Wait c x) scope spots end ops last = refl
  simple-after names (act.Signal c) scope spots end ops last = refl
  simple-after names (act.Broadcast c) scope spots end ops last = refl

  -- a statement that declares nothing in its own block
  inner-after : (names : Names) (s : Stmt) (scope : Scope) (part : Part) (spots : List Spot) → part_of file (up_stmt s) ≡ part → part.declares ≡ None
      → item_after scope (stmt_tree names s spots) ≡ passed (item_locals (stmt_tree names s spots)) scope → item_after scope (stmt_tree names s spots) ≡ after (part_of file (up_stmt s)) scope
  inner-after names s scope part spots e none is =
      let d : part_count part ≡ length (own_names s) = sym (ap part_count e) ∙ part-count s in
      let z : own_count part.declares ≡ 0 = ap own_count none in
      let counted : part.inside ≡ length (own_names s) = omega (arith, d, z) in
      is ∙ ap (λ z. passed z scope) (item-count names s spots ∙ sym counted) ∙ ap (λ z. passed part.inside (also_declared z scope)) (sym none)
      ∙ ap (λ z. after z scope) (sym e)

  pub item-after : (names : Names) (s : Stmt) (scope : Scope) (spots : List Spot) → item_after scope (stmt_tree names s spots) ≡ after (part_of file (up_stmt s)) scope
  item-after names (Simple a ops) scope spots =
      let behind = items.after spots (act_items names a) in
      simple-after names a scope spots (items.here behind) ops (items.later behind) ∙ ap (λ z. after z scope) (sym (part-Simple file a ops))
  item-after names (Jumps j ops) scope spots = inner-after names (Jumps j ops) scope (stmt_rules file (Stmt-F.Jump j ops)) spots (part-Jump file j ops) refl refl
  item-after names (If cond on_true on_false) scope spots =
      inner-after names (If cond on_true on_false) scope (stmt_rules file (Stmt-F.If cond (parts_of file (up_stmts on_true)) (parts_of file (up_stmts on_false)))) spots
      (part-If file cond (up_stmts on_true) (up_stmts on_false)) refl refl
  item-after names (Loop cond step body) scope spots =
      inner-after names (Loop cond step body) scope (stmt_rules file (Stmt-F.Loop cond step (parts_of file (up_stmts body)))) spots (part-Loop file cond step (up_stmts body)) refl refl
  item-after names (Block body) scope spots =
      inner-after names (Block body) scope (stmt_rules file (Stmt-F.Block (parts_of file (up_stmts body)))) spots (part-Block file (up_stmts body)) refl refl

  also-count : (d : Option Declared) (scope : Scope) → (also_declared d scope).count ≡ scope.count + own_count d
  also-count None scope = omega arith
  also-count (Some local) scope = refl

  pub after-count : (s : Stmt) (scope : Scope) → (after (part_of file (up_stmt s)) scope).count ≡ scope.count + length (own_names s)
  after-count s scope =
      let part = part_of file (up_stmt s) in
      let c = part-count s in
      let d = also-count part.declares scope in
      omega (arith, c, d)

-- where the names of statements stand

-- these names stand in the list of the locals' names behind so many others
pub record Place (names : Names) (count : ℕ) (list : List (List ℕ)) : Type 0 where
  pub before : List (List ℕ)
  pub behind : List (List ℕ)
  pub is : names.locals ≡ before ++ (list ++ behind)
  pub counted : length before ≡ count

pub place-left : (names : Names) (count : ℕ) (xs ys : List (List ℕ)) → Place names count (xs ++ ys) → Place names count xs
place-left names count xs ys p =
    record { before = p.before; behind = ys ++ p.behind; is = p.is ∙ ap (λ z. p.before ++ z) (append_assoc xs ys p.behind); counted = p.counted }

pub place-right : (names : Names) (count last : ℕ) (xs ys : List (List ℕ)) → last ≡ count + length xs → Place names count (xs ++ ys) → Place names last ys
place-right names count last xs ys e p = record {
  before = p.before ++ xs;
  behind = p.behind;
  is = p.is ∙ ap (λ z. p.before ++ z) (append_assoc xs ys p.behind) ∙ sym (append_assoc p.before xs (ys ++ p.behind));
  counted = let c = p.counted in let d = length-append p.before xs in omega (arith, e, c, d);
}

get-at : (before : List (List ℕ)) (name : List ℕ) (behind : List (List ℕ)) → slice_get (before ++ name ∷ behind) (length before) ≡ Some name
get-at [] name behind = refl
get-at (x ∷ before) name behind = get-at before name behind

pub place-first : (names : Names) (count : ℕ) (name : List ℕ) → Place names count (name ∷ []) → name_at names.locals count ≡ name
place-first names count name p =
    ap (λ z. or_nothing (slice_get names.locals z)) (sym p.counted) ∙ ap (λ z. or_nothing (slice_get z (length p.before))) p.is ∙ ap or_nothing (get-at p.before name p.behind)

-- statements that keep the rules have the forms of the grammar

initial-form : (file : File) (scope : Scope) (k : LocalKind) (initial : Option Value) → is_valid_initial file scope k initial ≡ true → has_form k initial ≡ true
initial-form file scope k None h = refl
initial-form file scope kind.Int (Some v) h = refl
initial-form file scope (kind.IntArray n) (Some v) h = h
initial-form file scope kind.Thread (Some v) h = h
initial-form file scope (kind.ThreadArray n) (Some v) h = h

set-form : (file : File) (scope : Scope) (h : How) (c : CallForm) → is_valid_assigned file scope h (value.Call c) ≡ true → is_set h ≡ true
set-form file scope how.Set c v = refl
set-form file scope how.Add c v = v
set-form file scope how.Sub c v = v
set-form file scope how.Mul c v = v
set-form file scope how.Div c v = v
set-form file scope how.Rem c v = v

act-form : (file : File) (scope : Scope) (a : Act) → is_valid_act file scope a ≡ true → act_form a ≡ true
act-form file scope (act.Declare name k initial) v =
    initial-form file (declared name (local_var_kind k) scope) k initial
    (and_parts (is_declared_name name && not (is_in_block name scope) && is_valid_kind k) (is_valid_initial file (declared name (local_var_kind k) scope) k initial) v).1
act-form file scope (act.Assign t h (value.Expr e)) v = refl
act-form file scope (act.Assign t h (value.Call c)) v =
    set-form file scope h c (and_parts (valid.is_int_target file scope t) (is_valid_assigned file scope h (value.Call c)) v).1
act-form file scope (act.Up t) v = refl
act-form file scope (act.Down t) v = refl
act-form file scope (act.Call c) v = refl
act-form file scope (act.Create t f e) v = refl
act-form file scope (act.Join t) v = refl
act-form file scope (act.Lock x) v = refl
act-form file scope (act.Unlock x) v = refl
act-form file scope (act.Print text args) v = refl
act-form file scope (act.Scan t) v = refl
act-form file scope (act.Wait c x) v = refl
act-form file scope (act.Signal c) v = refl
act-form file scope (act.Broadcast c) v = refl

step-form : (file : File) (scope : Scope) (step : Option Step) → is_valid_step file scope step ≡ true → formed_step step ≡ true
step-form file scope None v = refl
step-form file scope (Some step) v = (and_parts (is_step step.act) (is_valid_act file scope step.act) v).0

-- what a valid statement says of its parts

pub valid-simple : (file : File) (around : Around) (scope : Scope) (a : Act) (ops : List Op) → (part_of file (up_stmt (Simple a ops))).is_valid around scope ≡ true → is_valid_act file scope a ≡ true
valid-simple file around scope a ops v = ap (λ (z : Part). z.is_valid around scope) (sym (part-Simple file a ops)) ∙ v

pub valid-jump : (file : File) (around : Around) (scope : Scope) (j : Jump) (ops : List Op) → (part_of file (up_stmt (Jumps j ops))).is_valid around scope ≡ true
    → is_valid_jump file around scope j ≡ true
valid-jump file around scope j ops v = ap (λ (z : Part). z.is_valid around scope) (sym (part-Jump file j ops)) ∙ v

pub valid-if : (file : File) (around : Around) (scope : Scope) (cond : Cond) (x y : Stmts) → (part_of file (up_stmt (If cond x y))).is_valid around scope ≡ true
    → (valid.is_valid_expr file scope cond.test ≡ true) × (all_valid (parts_of file (up_stmts x)) around (entered scope) ≡ true)
    × (all_valid (parts_of file (up_stmts y)) around (entered (passed (counts (parts_of file (up_stmts x))) scope)) ≡ true)
valid-if file around scope cond x y v =
    let e : (part_of file (up_stmt (If cond x y))).is_valid around scope
    ≡ (stmt_rules file (Stmt-F.If cond (parts_of file (up_stmts x)) (parts_of file (up_stmts y)))).is_valid around scope =
    ap (λ (z : Part). z.is_valid around scope) (part-If file cond (up_stmts x) (up_stmts y)) in
    let a = and_parts (valid.is_valid_expr file scope cond.test && all_valid (parts_of file (up_stmts x)) around (entered scope))
    (all_valid (parts_of file (up_stmts y)) around (entered (passed (counts (parts_of file (up_stmts x))) scope))) (sym e ∙ v) in
    let b = and_parts (valid.is_valid_expr file scope cond.test) (all_valid (parts_of file (up_stmts x)) around (entered scope)) a.0 in
    (b.0, b.1, a.1)

pub valid-loop : (file : File) (around : Around) (scope : Scope) (cond : Cond) (step : Option Step) (body : Stmts) → (part_of file (up_stmt (Loop cond step body))).is_valid around scope ≡ true
    → (valid.is_valid_expr file scope cond.test ≡ true) × (is_valid_step file scope step ≡ true) × (all_valid (parts_of file (up_stmts body)) (looped around) (entered scope) ≡ true)
valid-loop file around scope cond step body v =
    let e : (part_of file (up_stmt (Loop cond step body))).is_valid around scope ≡ (stmt_rules file (Stmt-F.Loop cond step (parts_of file (up_stmts body)))).is_valid around scope =
    ap (λ (z : Part). z.is_valid around scope) (part-Loop file cond step (up_stmts body)) in
    let a = and_parts (valid.is_valid_expr file scope cond.test && is_valid_step file scope step) (all_valid (parts_of file (up_stmts body)) (looped around) (entered scope)) (sym e ∙ v) in
    let b = and_parts (valid.is_valid_expr file scope cond.test) (is_valid_step file scope step) a.0 in
    (b.0, b.1, a.1)

pub valid-block : (file : File) (around : Around) (scope : Scope) (body : Stmts) → (part_of file (up_stmt (Block body))).is_valid around scope ≡ true
    → all_valid (parts_of file (up_stmts body)) around (entered scope) ≡ true
valid-block file around scope body v = ap (λ (z : Part). z.is_valid around scope) (sym (part-Block file (up_stmts body))) ∙ v

mutual
  stmt-formed : (file : File) (around : Around) (scope : Scope) (s : Stmt) → (part_of file (up_stmt s)).is_valid around scope ≡ true → formed s ≡ true
  stmt-formed file around scope (Simple a ops) v = act-form file scope a (valid-simple file around scope a ops v)
  stmt-formed file around scope (Jumps j ops) v = refl
  stmt-formed file around scope (If cond x y) v =
      let vs = valid-if file around scope cond x y v in
      both _ _ (stmts-formed file around (entered scope) x vs.1) (stmts-formed file around (entered (passed (counts (parts_of file (up_stmts x))) scope)) y vs.2)
  stmt-formed file around scope (Loop cond step body) v =
      let vs = valid-loop file around scope cond step body v in
      both _ _ (step-form file scope step vs.1) (stmts-formed file (looped around) (entered scope) body vs.2)
  stmt-formed file around scope (Block body) v = stmts-formed file around (entered scope) body (valid-block file around scope body v)

  pub stmts-formed : (file : File) (around : Around) (scope : Scope) (body : Stmts) → all_valid (parts_of file (up_stmts body)) around scope ≡ true → all_formed body ≡ true
  stmts-formed file around scope NoStmts v = refl
  stmts-formed file around scope (And s more) v =
      let vs = and_parts ((part_of file (up_stmt s)).is_valid around scope) (all_valid (parts_of file (up_stmts more)) around (after (part_of file (up_stmt s)) scope)) v in
      both _ _ (stmt-formed file around scope s vs.0) (stmts-formed file around (after (part_of file (up_stmt s)) scope) more vs.1)

-- the locals that are known behind a statement

known-act : (names : Names) (file : File) (scope : Scope) (a : Act) → is_valid_act file scope a ≡ true → AllKnown names (visible scope) → Place names scope.count (act_names a)
    → AllKnown names (visible (passed 0 (also_declared (declares a) scope)))
known-act names file scope (act.Declare name k initial) v known place =
    let a = and_parts (is_declared_name name && not (is_in_block name scope) && is_valid_kind k) (is_valid_initial file (declared name (local_var_kind k) scope) k initial) v in
    let b = and_parts (is_declared_name name && not (is_in_block name scope)) (is_valid_kind k) a.0 in
    let c = and_parts (is_declared_name name) (not (is_in_block name scope)) b.0 in
    (record { named = place-first names scope.count name place; declared = c.0 }, known)
known-act names file scope (act.Assign t h (value.Expr e)) v known place = known
known-act names file scope (act.Assign t h (value.Call c)) v known place = known
known-act names file scope (act.Up t) v known place = known
known-act names file scope (act.Down t) v known place = known
known-act names file scope (act.Call c) v known place = known
known-act names file scope (act.Create t f e) v known place = known
known-act names file scope (act.Join t) v known place = known
known-act names file scope (act.Lock x) v known place = known
known-act names file scope (act.Unlock x) v known place = known
known-act names file scope (act.Print text args) v known place = known
known-act names file scope (act.Scan t) v known place = known
known-act names file scope (act.Wait c x) v known place = known
known-act names file scope (act.Signal c) v known place = known
known-act names file scope (act.Broadcast c) v known place = known

known-inner : (names : Names) (scope : Scope) (part found : Part) → found ≡ part → part.declares ≡ None → AllKnown names (visible scope) → AllKnown names (visible (after found scope))
known-inner names scope part found e none known =
    subst (λ (z : Part). AllKnown names (visible (after z scope))) (sym e)
    (subst (λ z. AllKnown names (visible (passed part.inside (also_declared z scope)))) (sym none) known)

pub known-after : (names : Names) (file : File) (around : Around) (scope : Scope) (s : Stmt) → (part_of file (up_stmt s)).is_valid around scope ≡ true → AllKnown names (visible scope)
    → Place names scope.count (own_names s) → AllKnown names (visible (after (part_of file (up_stmt s)) scope))
known-after names file around scope (Simple a ops) v known place =
    subst (λ (z : Part). AllKnown names (visible (after z scope))) (sym (part-Simple file a ops)) (known-act names file scope a (valid-simple file around scope a ops v) known place)
known-after names file around scope (Jumps j ops) v known place =
    known-inner names scope (stmt_rules file (Stmt-F.Jump j ops)) (part_of file (up_stmt (Jumps j ops))) (part-Jump file j ops) refl known
known-after names file around scope (If cond x y) v known place =
    known-inner names scope (stmt_rules file (Stmt-F.If cond (parts_of file (up_stmts x)) (parts_of file (up_stmts y)))) (part_of file (up_stmt (If cond x y)))
    (part-If file cond (up_stmts x) (up_stmts y)) refl known
known-after names file around scope (Loop cond step body) v known place =
    known-inner names scope (stmt_rules file (Stmt-F.Loop cond step (parts_of file (up_stmts body)))) (part_of file (up_stmt (Loop cond step body)))
    (part-Loop file cond step (up_stmts body)) refl known
known-after names file around scope (Block body) v known place =
    known-inner names scope (stmt_rules file (Stmt-F.Block (parts_of file (up_stmts body)))) (part_of file (up_stmt (Block body))) (part-Block file (up_stmts body)) refl known
