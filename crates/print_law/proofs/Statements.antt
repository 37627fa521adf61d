-- Statements: their items, one after another and in lines, and their trees.
use Rattle.std.proofs.Common.{◌≡◌, ℕ, suc, Bool, true, false, not, ◌&&◌, List, [], ◌∷◌, ◌++◌, Option, Some, None, append_assoc, refl, ap, sym, ◌∙◌, true≢false}
use Rattle.cfix_base.specs.declared.op.Op.{Op}
use Rattle.cfix_base.specs.declared.spot.Spot.{Spot}
use Rattle.c_prog.specs.declared.act.Act.{Act}
use Rattle.c_prog.specs.declared.stmt.Cond.{Cond}
use Rattle.c_prog.specs.declared.stmt.Jump.{Jump}
use Rattle.c_prog.specs.declared.stmt.Jump.TheVariants.{Break, Continue, Return, ReturnNull, ReturnValue}
use Rattle.c_prog.specs.declared.stmt.Step.{Step}
use Rattle.c_grammar.specs.declared.sign.Sign.TheVariants as s
use Rattle.c_grammar.specs.declared.word.Word.TheVariants as w
use Rattle.c_grammar.specs.Token.{IsWord, IsSign, Mark, word, sign}
use Rattle.c_grammar.specs.Op as o
use Rattle.c_grammar.specs.Simple as m
use Rattle.c_grammar.specs.Cond as c
use Rattle.c_grammar.specs.Stmt as t
use Rattle.c_grammar.specs.Marks.{tokens}
use Rattle.c_print.specs.Text.Names.{Names}
use Rattle.print_law.proofs.Plain.{Stmt, Simple, Jumps, If, Loop, Block, Stmts, NoStmts, And}
use Rattle.print_law.proofs.Items.{Item, Gap, Is, here, later, spotted, after, joint, tokens-append, spotted-append}
use Rattle.print_law.proofs.Apart.{both}
use Rattle.print_law.proofs.Calls.{value_items, value_tree, value-told, value-derived}
use Rattle.print_law.proofs.Operations.{op_items, op_tree, ops_items, ops_tree, ops-told, cond_items, cond_tree, cond-told, cond-derived}
use Rattle.print_law.proofs.Acts.{plain_items, plain_tree, plain-told, plain-derived}
use Rattle.print_law.proofs.Simples.{act_items, act_made, act-told, act-derived, made_item, made_marks, made-marks, made-good}

-- jumps

-- a jump without a value; a jump with one stands as a `return`
abbrev pub bare_items : Jump → List Item
bare_items Break = Is (IsWord w.Break) ∷ []
bare_items Continue = Is (IsWord w.Continue) ∷ []
bare_items Return = Is (IsWord w.Return) ∷ []
bare_items ReturnNull = Is (IsWord w.Return) ∷ Gap ∷ Is (IsWord w.Null) ∷ []
bare_items (ReturnValue v) = Is (IsWord w.Return) ∷ []

abbrev pub bare_tree : Jump → List Spot → t.Bare
bare_tree Break spots = t.Break (here spots)
bare_tree Continue spots = t.Continue (here spots)
bare_tree Return spots = t.Return (here spots)
bare_tree ReturnNull spots = t.ReturnNull (here spots) (here (later spots))
bare_tree (ReturnValue v) spots = t.Return (here spots)

bare-told : (j : Jump) (d : ℕ) (spots : List Spot) → tokens (t.bare_marks d (bare_tree j spots)) ≡ spotted spots (bare_items j)
bare-told Break d spots = refl
bare-told Continue d spots = refl
bare-told Return d spots = refl
bare-told ReturnNull d spots = refl
bare-told (ReturnValue v) d spots = refl

-- a jump without operations
abbrev pub alone_items : Names → Jump → List Item
alone_items names (ReturnValue v) = Is (IsWord w.Return) ∷ Gap ∷ (value_items names v ++ Is (IsSign s.Semicolon) ∷ [])
alone_items names j = bare_items j ++ Is (IsSign s.Semicolon) ∷ []

abbrev pub alone_tree : Names → Jump → List Spot → t.Jump
alone_tree names (ReturnValue v) spots = t.ReturnValue (here spots) (value_tree names v (later spots)) (here (after (later spots) (value_items names v)))
alone_tree names j spots = t.BareJump (bare_tree j spots) (here (after spots (bare_items j)))

alone-told : (names : Names) (j : Jump) (d : ℕ) (spots : List Spot) → tokens (t.jump_marks d (alone_tree names j spots)) ≡ spotted spots (alone_items names j)
alone-told names Break d spots = refl
alone-told names Continue d spots = refl
alone-told names Return d spots = refl
alone-told names ReturnNull d spots = refl
alone-told names (ReturnValue v) d spots =
    ap (λ z. word w.Return (here spots) ∷ z)
    (joint (later spots) (value_items names v) (Is (IsSign s.Semicolon) ∷ []) (m.value_marks d (value_tree names v (later spots))) _ (value-told names v d (later spots)) refl)

-- what stands in the block of a jump behind its first operation
abbrev pub bare_end : Jump → List Op → List Item
bare_end j more = Is (IsSign s.Semicolon) ∷ (ops_items more ++ (bare_items j ++ Is (IsSign s.Semicolon) ∷ Is (IsSign s.CloseBrace) ∷ []))

abbrev pub value_end : List Op → List Item
value_end more =
    Is (IsSign s.Semicolon) ∷ (ops_items more ++ (Is (IsWord w.Return) ∷ Gap ∷ Is (IsWord w.Value) ∷ Is (IsSign s.Semicolon) ∷ Is (IsSign s.CloseBrace) ∷ []))

-- a jump with operations
abbrev pub block_items : Names → Jump → Op → List Op → List Item
block_items names (ReturnValue v) op more =
    Is (IsSign s.OpenBrace) ∷ Is (IsWord w.Int) ∷ Gap ∷ Is (IsWord w.Value) ∷ Gap ∷ Is (IsSign s.Assign) ∷ Gap
    ∷ (value_items names v ++ Is (IsSign s.Semicolon) ∷ (op_items op ++ value_end more))
block_items names j op more = Is (IsSign s.OpenBrace) ∷ (op_items op ++ bare_end j more)

abbrev pub bare_block : Jump → Op → List Op → List Spot → t.Jump
bare_block j op more spots =
    let first = after (later spots) (op_items op) in
    let last = after (later first) (ops_items more) in
    let behind = after last (bare_items j) in
    t.BareBlock (here spots) (op_tree op (later spots)) (here first) (ops_tree more (later first)) (bare_tree j last) (here behind) (here (later behind))

abbrev pub block_tree : Names → Jump → Op → List Op → List Spot → t.Jump
block_tree names (ReturnValue v) op more spots =
    let start = later (later (later (later spots))) in
    let behind = after start (value_items names v) in
    let first = after (later behind) (op_items op) in
    let last = after (later first) (ops_items more) in
    t.ValueBlock (here spots) (here (later spots)) (here (later (later spots))) (here (later (later (later spots)))) (value_tree names v start) (here behind)
    (op_tree op (later behind)) (here first) (ops_tree more (later first)) (here last) (here (later last)) (here (later (later last))) (here (later (later (later last))))
block_tree names j op more spots = bare_block j op more spots

bare-block-told : (j : Jump) (op : Op) (more : List Op) (d : ℕ) (spots : List Spot)
    → tokens (t.jump_marks d (bare_block j op more spots)) ≡ spotted spots (Is (IsSign s.OpenBrace) ∷ (op_items op ++ bare_end j more))
bare-block-told j op more d spots =
    let first = after (later spots) (op_items op) in
    let last = after (later first) (ops_items more) in
    let behind = after last (bare_items j) in
    let rest = bare_items j ++ Is (IsSign s.Semicolon) ∷ Is (IsSign s.CloseBrace) ∷ [] in
    let end : List Mark = (sign s.Semicolon (here behind), suc d) ∷ (sign s.CloseBrace (here (later behind)), suc d) ∷ [] in
    let back : List Mark = t.bare_marks (suc d) (bare_tree j last) ++ end in
    ap (λ z. sign s.OpenBrace (here spots) ∷ z)
    (joint (later spots) (op_items op) (bare_end j more) (o.op_marks (suc d) (op_tree op (later spots)))
    ((sign s.Semicolon (here first), suc d) ∷ (o.ops_marks (suc d) (ops_tree more (later first)) ++ back)) refl
    (ap (λ z. sign s.Semicolon (here first) ∷ z)
    (joint (later first) (ops_items more) rest (o.ops_marks (suc d) (ops_tree more (later first))) back (ops-told more (suc d) (later first))
    (joint last (bare_items j) (Is (IsSign s.Semicolon) ∷ Is (IsSign s.CloseBrace) ∷ []) (t.bare_marks (suc d) (bare_tree j last)) end (bare-told j (suc d) last) refl))))

block-told : (names : Names) (j : Jump) (op : Op) (more : List Op) (d : ℕ) (spots : List Spot)
    → tokens (t.jump_marks d (block_tree names j op more spots)) ≡ spotted spots (block_items names j op more)
block-told names (ReturnValue v) op more d spots =
    let start = later (later (later (later spots))) in
    let behind = after start (value_items names v) in
    let first = after (later behind) (op_items op) in
    let last = after (later first) (ops_items more) in
    let end : List Mark =
    (word w.Return (here last), suc d) ∷ (word w.Value (here (later last)), suc d) ∷ (sign s.Semicolon (here (later (later last))), suc d)
    ∷ (sign s.CloseBrace (here (later (later (later last)))), suc d) ∷ [] in
    let back : List Mark = (sign s.Semicolon (here first), suc d) ∷ (o.ops_marks (suc d) (ops_tree more (later first)) ++ end) in
    ap (λ z. sign s.OpenBrace (here spots) ∷ word w.Int (here (later spots)) ∷ word w.Value (here (later (later spots))) ∷ sign s.Assign (here (later (later (later spots)))) ∷ z)
    (joint start (value_items names v) (Is (IsSign s.Semicolon) ∷ (op_items op ++ value_end more)) (m.value_marks (suc d) (value_tree names v start))
    ((sign s.Semicolon (here behind), suc d) ∷ (o.op_marks (suc d) (op_tree op (later behind)) ++ back)) (value-told names v (suc d) start)
    (ap (λ z. sign s.Semicolon (here behind) ∷ z)
    (joint (later behind) (op_items op) (value_end more) (o.op_marks (suc d) (op_tree op (later behind))) back refl
    (ap (λ z. sign s.Semicolon (here first) ∷ z)
    (joint (later first) (ops_items more) (Is (IsWord w.Return) ∷ Gap ∷ Is (IsWord w.Value) ∷ Is (IsSign s.Semicolon) ∷ Is (IsSign s.CloseBrace) ∷ [])
    (o.ops_marks (suc d) (ops_tree more (later first))) end (ops-told more (suc d) (later first)) refl)))))
block-told names Break op more d spots = bare-block-told Break op more d spots
block-told names Continue op more d spots = bare-block-told Continue op more d spots
block-told names Return op more d spots = bare-block-told Return op more d spots
block-told names ReturnNull op more d spots = bare-block-told ReturnNull op more d spots

abbrev pub jump_items : Names → Jump → List Op → List Item
jump_items names j [] = alone_items names j
jump_items names j (op ∷ more) = block_items names j op more

abbrev pub jump_tree : Names → Jump → List Op → List Spot → t.Jump
jump_tree names j [] spots = alone_tree names j spots
jump_tree names j (op ∷ more) spots = block_tree names j op more spots

jump-told : (names : Names) (j : Jump) (ops : List Op) (d : ℕ) (spots : List Spot) → tokens (t.jump_marks d (jump_tree names j ops spots)) ≡ spotted spots (jump_items names j ops)
jump-told names j [] d spots = alone-told names j d spots
jump-told names j (op ∷ more) d spots = block-told names j op more d spots

jump-derived : (names : Names) (j : Jump) (ops : List Op) (spots : List Spot) → t.is_jump (jump_tree names j ops spots) ≡ true
jump-derived names Break [] spots = refl
jump-derived names Continue [] spots = refl
jump-derived names Return [] spots = refl
jump-derived names ReturnNull [] spots = refl
jump-derived names (ReturnValue v) [] spots = value-derived names v (later spots)
jump-derived names Break (op ∷ more) spots = refl
jump-derived names Continue (op ∷ more) spots = refl
jump-derived names Return (op ∷ more) spots = refl
jump-derived names ReturnNull (op ∷ more) spots = refl
jump-derived names (ReturnValue v) (op ∷ more) spots = value-derived names v (later (later (later (later spots))))

-- the head of a loop

-- operations behind a step
abbrev pub more_ops_items : List Op → List Item
more_ops_items [] = []
more_ops_items (op ∷ more) = Is (IsSign s.Comma) ∷ Gap ∷ (op_items op ++ more_ops_items more)

abbrev pub more_ops_tree : List Op → List Spot → List (Spot × o.Op)
more_ops_tree [] spots = []
more_ops_tree (op ∷ more) spots = (here spots, op_tree op (later spots)) ∷ more_ops_tree more (after (later spots) (op_items op))

more-ops-told : (ops : List Op) (d : ℕ) (spots : List Spot) → tokens (o.more_ops_marks d (more_ops_tree ops spots)) ≡ spotted spots (more_ops_items ops)
more-ops-told [] d spots = refl
more-ops-told (op ∷ more) d spots =
    ap (λ z. sign s.Comma (here spots) ∷ z)
    (joint (later spots) (op_items op) (more_ops_items more) (o.op_marks d (op_tree op (later spots))) (o.more_ops_marks d (more_ops_tree more (after (later spots) (op_items op)))) refl (more-ops-told more d (after (later spots) (op_items op))))

abbrev pub step_items : Names → Step → List Item
step_items names step = plain_items names step.act ++ more_ops_items step.after

abbrev pub step_tree : Names → Step → List Spot → t.LoopStep
step_tree names step spots = t.LoopStepOf (plain_tree names step.act spots) (more_ops_tree step.after (after spots (plain_items names step.act)))

step-told : (names : Names) (step : Step) (d : ℕ) (spots : List Spot) → tokens (t.loop_step_marks d (step_tree names step spots)) ≡ spotted spots (step_items names step)
step-told names step d spots =
    joint spots (plain_items names step.act) (more_ops_items step.after) (m.plain_marks d (plain_tree names step.act spots)) _ (plain-told names step.act d spots)
    (more-ops-told step.after d (after spots (plain_items names step.act)))

-- the head of a loop, before its body's brace, from what stands behind it

abbrev pub while_items : Names → Cond → List Item → List Item
while_items names cond rest = Is (IsWord w.While) ∷ Gap ∷ Is (IsSign s.OpenParen) ∷ (cond_items names cond ++ Is (IsSign s.CloseParen) ∷ Gap ∷ rest)

abbrev pub for_items : Names → Cond → Step → List Item → List Item
for_items names cond step rest =
    Is (IsWord w.For) ∷ Gap ∷ Is (IsSign s.OpenParen) ∷ Is (IsSign s.Semicolon) ∷ Gap
    ∷ (cond_items names cond ++ Is (IsSign s.Semicolon) ∷ Gap ∷ (step_items names step ++ Is (IsSign s.CloseParen) ∷ Gap ∷ rest))

abbrev pub loop_items : Names → Cond → Option Step → List Item → List Item
loop_items names cond None rest = while_items names cond rest
loop_items names cond (Some step) rest = for_items names cond step rest

-- statements

abbrev pub is_if : Stmt → Bool
is_if (If cond on_true on_false) = true
is_if _ = false

-- an only `if`
abbrev pub is_lone : Stmt → Stmts → Bool
is_lone s NoStmts = is_if s
is_lone s (And next more) = false

abbrev pub in_braces : List Item → List Item
in_braces items = Is (IsSign s.OpenBrace) ∷ (items ++ Is (IsSign s.CloseBrace) ∷ [])

abbrev pub else_by : Bool → List Item → List Item → List Item
else_by true first rest = Is (IsWord w.Else) ∷ Gap ∷ first
else_by false first rest = Is (IsWord w.Else) ∷ Gap ∷ in_braces (first ++ rest)

-- `if`, its condition and its first list, before what follows its brace
abbrev pub if_items : Names → Cond → List Item → List Item → List Item
if_items names cond items rest =
    Is (IsWord w.If) ∷ Gap ∷ Is (IsSign s.OpenParen) ∷ (cond_items names cond ++ Is (IsSign s.CloseParen) ∷ Gap ∷ Is (IsSign s.OpenBrace) ∷ (items ++ Is (IsSign s.CloseBrace) ∷ rest))

abbrev mutual
  pub stmt_items : Names → Stmt → List Item
  stmt_items names (Simple a ops) = act_items names a ++ Is (IsSign s.Semicolon) ∷ ops_items ops
  stmt_items names (Jumps j ops) = jump_items names j ops
  stmt_items names (If cond on_true on_false) = if_items names cond (stmts_items names on_true) (else_items names on_false)
  stmt_items names (Loop cond step body) = loop_items names cond step (in_braces (stmts_items names body))
  stmt_items names (Block body) = in_braces (stmts_items names body)

  pub stmts_items : Names → Stmts → List Item
  stmts_items names NoStmts = []
  stmts_items names (And s more) = stmt_items names s ++ stmts_items names more

  pub else_items : Names → Stmts → List Item
  else_items names NoStmts = []
  else_items names (And s more) = else_by (is_lone s more) (stmt_items names s) (stmts_items names more)

-- the statement that an item is; a declaration stands as an empty one
abbrev pub stmt_in : t.Item → t.Stmt
stmt_in (t.Does x) = x
stmt_in (t.Declares x end ops) = t.Nothing end

abbrev pub block_with : List Item → (List Spot → t.Items) → List Spot → t.Stmt
block_with items tree spots = t.Block (here spots) (tree (later spots)) (here (after (later spots) items))

-- the spots behind a condition in parentheses that a word begins
abbrev pub behind_cond : Names → Cond → List Spot → List Spot
behind_cond names cond spots = after (later (later spots)) (cond_items names cond)

abbrev pub if_tree : Names → Cond → List Item → (List Spot → t.Items) → (List Spot → t.Else) → List Spot → t.Stmt
if_tree names cond items on_true on_false spots =
    t.If (here spots) (here (later spots)) (cond_tree names cond (later (later spots))) (here (behind_cond names cond spots))
    (block_with items on_true (later (behind_cond names cond spots))) (on_false (later (after (later (later (behind_cond names cond spots))) items)))

abbrev pub else_tree_by : Bool → List Item → List Item → (List Spot → t.Item) → (List Spot → t.Items) → List Spot → t.Else
else_tree_by true first rest item more spots = t.ElseDo (here spots) (stmt_in (item (later spots)))
else_tree_by false first rest item more spots =
    t.ElseDo (here spots) (block_with (first ++ rest) (λ inner. t.AndItem (item inner) (more (after inner first))) (later spots))

abbrev pub loop_tree : Names → Cond → Option Step → (List Spot → t.Stmt) → List Spot → t.Stmt
loop_tree names cond None body spots =
    t.While (here spots) (here (later spots)) (cond_tree names cond (later (later spots))) (here (behind_cond names cond spots)) (body (later (behind_cond names cond spots)))
loop_tree names cond (Some step) body spots =
    let start = later (later (later spots)) in
    let behind = after start (cond_items names cond) in
    let last = after (later behind) (step_items names step) in
    t.For (here spots) (here (later spots)) None (here (later (later spots))) (Some (cond_tree names cond start)) (here behind) (Some (step_tree names step (later behind)))
    (here last) (body (later last))

abbrev mutual
  pub stmt_tree : Names → Stmt → List Spot → t.Item
  stmt_tree names (Simple a ops) spots =
      made_item (act_made names a spots) (here (after spots (act_items names a))) (ops_tree ops (later (after spots (act_items names a))))
  stmt_tree names (Jumps j ops) spots = t.Does (t.Jumps (jump_tree names j ops spots))
  stmt_tree names (If cond on_true on_false) spots =
      t.Does (if_tree names cond (stmts_items names on_true) (stmts_tree names on_true) (else_tree names on_false) spots)
  stmt_tree names (Loop cond step body) spots = t.Does (loop_tree names cond step (block_with (stmts_items names body) (stmts_tree names body)) spots)
  stmt_tree names (Block body) spots = t.Does (block_with (stmts_items names body) (stmts_tree names body) spots)

  pub stmts_tree : Names → Stmts → List Spot → t.Items
  stmts_tree names NoStmts spots = t.NoItems
  stmts_tree names (And s more) spots = t.AndItem (stmt_tree names s spots) (stmts_tree names more (after spots (stmt_items names s)))

  pub else_tree : Names → Stmts → List Spot → t.Else
  else_tree names NoStmts spots = t.NoElse
  else_tree names (And s more) spots = else_tree_by (is_lone s more) (stmt_items names s) (stmts_items names more) (stmt_tree names s) (stmts_tree names more) spots

-- the tokens of the trees

abbrev ToldItem : List Item → (List Spot → t.Item) → Type 0
ToldItem items tree = (d : ℕ) (spots : List Spot) → tokens (t.item_marks d (tree spots)) ≡ spotted spots items

abbrev ToldItems : List Item → (List Spot → t.Items) → Type 0
ToldItems items tree = (d : ℕ) (spots : List Spot) → tokens (t.items_marks d (tree spots)) ≡ spotted spots items

abbrev ToldStmt : List Item → (List Spot → t.Stmt) → Type 0
ToldStmt items tree = (d : ℕ) (spots : List Spot) → tokens (t.stmt_marks d (tree spots)) ≡ spotted spots items

abbrev ToldElse : List Item → (List Spot → t.Else) → Type 0
ToldElse items tree = (d : ℕ) (spots : List Spot) → tokens (t.else_marks d (tree spots)) ≡ spotted spots items

block-with-told : (items : List Item) (tree : List Spot → t.Items) → ToldItems items tree → ToldStmt (in_braces items) (block_with items tree)
block-with-told items tree h = λ d spots.
    ap (λ z. sign s.OpenBrace (here spots) ∷ z)
    (joint (later spots) items (Is (IsSign s.CloseBrace) ∷ []) (t.items_marks (suc d) (tree (later spots))) _ (h (suc d) (later spots)) refl)

if-told : (names : Names) (cond : Cond) (items rest : List Item) (on_true : List Spot → t.Items) (on_false : List Spot → t.Else)
    → ToldItems items on_true → ToldElse rest on_false → ToldStmt (if_items names cond items rest) (if_tree names cond items on_true on_false)
if-told names cond items rest on_true on_false p q = λ d spots.
    let start = later (later spots) in
    let behind = behind_cond names cond spots in
    let body = later behind in
    let last = after (later body) items in
    ap (λ z. word w.If (here spots) ∷ sign s.OpenParen (here (later spots)) ∷ z)
    (joint start (cond_items names cond) (Is (IsSign s.CloseParen) ∷ Gap ∷ Is (IsSign s.OpenBrace) ∷ (items ++ Is (IsSign s.CloseBrace) ∷ rest)) (c.cond_marks (suc d) (cond_tree names cond start)) _
    (cond-told names cond (suc d) start)
    (ap (λ z. sign s.CloseParen (here behind) ∷ z)
    (tokens-append (t.stmt_marks (suc d) (block_with items on_true body)) (t.else_marks (suc d) (on_false (later last)))
    ∙ ap (λ z. z ++ tokens (t.else_marks (suc d) (on_false (later last)))) (block-with-told items on_true p (suc d) body)
    ∙ ap (λ z. spotted body (in_braces items) ++ z) (q (suc d) (later last))
    ∙ ap (λ z. sign s.OpenBrace (here body) ∷ z)
    (ap (λ z. z ++ spotted (later last) rest) (spotted-append (later body) items (Is (IsSign s.CloseBrace) ∷ []))
    ∙ append_assoc (spotted (later body) items) (sign s.CloseBrace (here last) ∷ []) (spotted (later last) rest)
    ∙ sym (spotted-append (later body) items (Is (IsSign s.CloseBrace) ∷ rest))))))

else-told-by : (lone : Bool) (first rest : List Item) (item : List Spot → t.Item) (more : List Spot → t.Items)
    → (lone ≡ true → (spots : List Spot) → item spots ≡ t.Does (stmt_in (item spots))) → ToldItem first item → ToldItems rest more
    → ToldElse (else_by lone first rest) (else_tree_by lone first rest item more)
else-told-by true first rest item more e p q = λ d spots.
    ap (λ z. word w.Else (here spots) ∷ z) (sym (ap (λ z. tokens (t.item_marks d z)) (e refl (later spots))) ∙ p d (later spots))
else-told-by false first rest item more e p q = λ d spots.
    ap (λ z. word w.Else (here spots) ∷ z)
    (block-with-told (first ++ rest) (λ inner. t.AndItem (item inner) (more (after inner first)))
    (λ k inner. joint inner first rest (t.item_marks k (item inner)) (t.items_marks k (more (after inner first))) (p k inner) (q k (after inner first))) d (later spots))

loop-told : (names : Names) (cond : Cond) (step : Option Step) (items : List Item) (body : List Spot → t.Stmt)
    → ToldStmt items body → ToldStmt (loop_items names cond step items) (loop_tree names cond step body)
loop-told names cond None items body h = λ d spots.
    let start = later (later spots) in
    let behind = behind_cond names cond spots in
    ap (λ z. word w.While (here spots) ∷ sign s.OpenParen (here (later spots)) ∷ z)
    (joint start (cond_items names cond) (Is (IsSign s.CloseParen) ∷ Gap ∷ items) (c.cond_marks (suc d) (cond_tree names cond start)) _ (cond-told names cond (suc d) start)
    (ap (λ z. sign s.CloseParen (here behind) ∷ z) (h (suc d) (later behind))))
loop-told names cond (Some step) items body h = λ d spots.
    let start = later (later (later spots)) in
    let behind = after start (cond_items names cond) in
    let last = after (later behind) (step_items names step) in
    ap (λ z. word w.For (here spots) ∷ sign s.OpenParen (here (later spots)) ∷ sign s.Semicolon (here (later (later spots))) ∷ z)
    (joint start (cond_items names cond) (Is (IsSign s.Semicolon) ∷ Gap ∷ (step_items names step ++ Is (IsSign s.CloseParen) ∷ Gap ∷ items))
    (c.cond_marks (suc (suc d)) (cond_tree names cond start)) _ (cond-told names cond (suc (suc d)) start)
    (ap (λ z. sign s.Semicolon (here behind) ∷ z)
    (joint (later behind) (step_items names step) (Is (IsSign s.CloseParen) ∷ Gap ∷ items) (t.loop_step_marks (suc (suc d)) (step_tree names step (later behind))) _
    (step-told names step (suc (suc d)) (later behind))
    (ap (λ z. sign s.CloseParen (here last) ∷ z) (h (suc (suc d)) (later last))))))

simple-told : (names : Names) (a : Act) (ops : List Op) → ToldItem (stmt_items names (Simple a ops)) (stmt_tree names (Simple a ops))
simple-told names a ops = λ d spots.
    let behind = after spots (act_items names a) in
    ap tokens (made-marks (act_made names a spots) d (here behind) (ops_tree ops (later behind)))
    ∙ joint spots (act_items names a) (Is (IsSign s.Semicolon) ∷ ops_items ops) (made_marks d (act_made names a spots))
    ((sign s.Semicolon (here behind), d) ∷ o.ops_marks d (ops_tree ops (later behind))) (act-told names a d spots)
    (ap (λ z. sign s.Semicolon (here behind) ∷ z) (ops-told ops d (later behind)))

pub lone-does : (names : Names) (s : Stmt) (more : Stmts) → is_lone s more ≡ true → (spots : List Spot) → stmt_tree names s spots ≡ t.Does (stmt_in (stmt_tree names s spots))
lone-does names (If cond on_true on_false) more e spots = refl
lone-does names (Jumps j ops) more e spots = refl
lone-does names (Loop cond step body) more e spots = refl
lone-does names (Block body) more e spots = refl
lone-does names (Simple a ops) NoStmts e spots = absurd (true≢false (sym e))
lone-does names (Simple a ops) (And next more) e spots = absurd (true≢false (sym e))

mutual
  pub stmt-told : (names : Names) (s : Stmt) → ToldItem (stmt_items names s) (stmt_tree names s)
  stmt-told names (Simple a ops) = simple-told names a ops
  stmt-told names (Jumps j ops) = λ d spots. jump-told names j ops d spots
  stmt-told names (If cond on_true on_false) =
      if-told names cond (stmts_items names on_true) (else_items names on_false) (stmts_tree names on_true) (else_tree names on_false) (stmts-told names on_true) (else-told names on_false)
  stmt-told names (Loop cond step body) =
      loop-told names cond step (in_braces (stmts_items names body)) (block_with (stmts_items names body) (stmts_tree names body))
      (block-with-told (stmts_items names body) (stmts_tree names body) (stmts-told names body))
  stmt-told names (Block body) = block-with-told (stmts_items names body) (stmts_tree names body) (stmts-told names body)

  pub stmts-told : (names : Names) (body : Stmts) → ToldItems (stmts_items names body) (stmts_tree names body)
  stmts-told names NoStmts = λ d spots. refl
  stmts-told names (And s more) = λ d spots.
      joint spots (stmt_items names s) (stmts_items names more) (t.item_marks d (stmt_tree names s spots)) _ (stmt-told names s d spots) (stmts-told names more d (after spots (stmt_items names s)))

  pub else-told : (names : Names) (body : Stmts) → ToldElse (else_items names body) (else_tree names body)
  else-told names NoStmts = λ d spots. refl
  else-told names (And s more) =
      else-told-by (is_lone s more) (stmt_items names s) (stmts_items names more) (stmt_tree names s) (stmts_tree names more) (lone-does names s more) (stmt-told names s) (stmts-told names more)

-- the trees are derived

no-nearest : (b : Bool) → not (b && false) ≡ true
no-nearest true = refl
no-nearest false = refl

abbrev GoodItem : (List Spot → t.Item) → Type 0
GoodItem tree = (spots : List Spot) → t.is_item (tree spots) ≡ true

abbrev GoodItems : (List Spot → t.Items) → Type 0
GoodItems tree = (spots : List Spot) → t.are_items (tree spots) ≡ true

abbrev GoodElse : (List Spot → t.Else) → Type 0
GoodElse tree = (spots : List Spot) → t.is_else (tree spots) ≡ true

if-derived : (names : Names) (cond : Cond) (items : List Item) (on_true : List Spot → t.Items) (on_false : List Spot → t.Else)
    → GoodItems on_true → GoodElse on_false → (spots : List Spot) → t.is_stmt (if_tree names cond items on_true on_false spots) ≡ true
if-derived names cond items on_true on_false p q spots =
    let last = later (after (later (later (behind_cond names cond spots))) items) in
    both _ _ (cond-derived names cond (later (later spots))) (both _ _ (p (later (later (behind_cond names cond spots)))) (both _ _ (q last) (no-nearest (t.has_else (on_false last)))))

else-derived-by : (lone : Bool) (first rest : List Item) (item : List Spot → t.Item) (more : List Spot → t.Items)
    → (lone ≡ true → (spots : List Spot) → item spots ≡ t.Does (stmt_in (item spots))) → GoodItem item → GoodItems more → GoodElse (else_tree_by lone first rest item more)
else-derived-by true first rest item more e p q = λ spots. sym (ap t.is_item (e refl (later spots))) ∙ p (later spots)
else-derived-by false first rest item more e p q = λ spots. both _ _ (p (later (later spots))) (q (after (later (later spots)) first))

loop-derived : (names : Names) (cond : Cond) (step : Option Step) (body : List Spot → t.Stmt)
    → ((spots : List Spot) → t.is_stmt (body spots) ≡ true) → (spots : List Spot) → t.is_stmt (loop_tree names cond step body spots) ≡ true
loop-derived names cond None body h spots = both _ _ (cond-derived names cond (later (later spots))) (h (later (behind_cond names cond spots)))
loop-derived names cond (Some step) body h spots =
    let start = later (later (later spots)) in
    let behind = after start (cond_items names cond) in
    both _ _ (cond-derived names cond start) (both _ _ (plain-derived names step.act (later behind)) (h (later (after (later behind) (step_items names step)))))

mutual
  pub stmt-derived : (names : Names) (s : Stmt) → GoodItem (stmt_tree names s)
  stmt-derived names (Simple a ops) = λ spots.
      made-good (act_made names a spots) (here (after spots (act_items names a))) (ops_tree ops (later (after spots (act_items names a)))) ∙ act-derived names a spots
  stmt-derived names (Jumps j ops) = λ spots. jump-derived names j ops spots
  stmt-derived names (If cond on_true on_false) =
      if-derived names cond (stmts_items names on_true) (stmts_tree names on_true) (else_tree names on_false) (stmts-derived names on_true) (else-derived names on_false)
  stmt-derived names (Loop cond step body) =
      loop-derived names cond step (block_with (stmts_items names body) (stmts_tree names body)) (λ spots. stmts-derived names body (later spots))
  stmt-derived names (Block body) = λ spots. stmts-derived names body (later spots)

  pub stmts-derived : (names : Names) (body : Stmts) → GoodItems (stmts_tree names body)
  stmts-derived names NoStmts = λ spots. refl
  stmts-derived names (And s more) = λ spots. both _ _ (stmt-derived names s spots) (stmts-derived names more (after spots (stmt_items names s)))

  pub else-derived : (names : Names) (body : Stmts) → GoodElse (else_tree names body)
  else-derived names NoStmts = λ spots. refl
  else-derived names (And s more) =
      else-derived-by (is_lone s more) (stmt_items names s) (stmts_items names more) (stmt_tree names s) (stmts_tree names more) (lone-does names s more) (stmt-derived names s) (stmts-derived names more)
