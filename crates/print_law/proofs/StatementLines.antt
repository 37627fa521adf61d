-- Statements in lines: the tokens are those of the statements, the text is the canonical one, and all stand apart.
use Rattle.std.proofs.Common.{◌≡◌, ℕ, Bool, true, false, ◌&&◌, List, [], ◌∷◌, ◌++◌, map, Option, Some, None, append_assoc, append-nil, refl, ap, sym, ◌∙◌, codes, if◌then◌else◌, true≢false}
use Rattle.std.proofs.lemmas.Bool.{and_parts}
use Rattle.cfix_base.specs.declared.op.Op.{Op}
use Rattle.c_prog.specs.declared.act.Act.{Act}
use Rattle.c_prog.specs.declared.act.Act.TheVariants as act
use Rattle.c_prog.specs.declared.act.Value.TheVariants as value
use Rattle.c_prog.specs.declared.stmt.Cond.{Cond}
use Rattle.c_prog.specs.declared.stmt.Jump.{Jump}
use Rattle.c_prog.specs.declared.stmt.Jump.TheVariants.{Break, Continue, Return, ReturnNull, ReturnValue}
use Rattle.c_prog.specs.declared.stmt.Step.{Step}
use Rattle.c_prog.specs.Order.{joined}
use Rattle.c_prog.specs.Valid.Acts.{is_step}
use Rattle.c_grammar.specs.declared.sign.Sign.TheVariants as s
use Rattle.c_grammar.specs.declared.word.Word.TheVariants as w
use Rattle.c_grammar.specs.Token.{IsWord, IsSign}
use Rattle.c_grammar.specs.Marks.{first}
use Rattle.c_print.specs.Text.Names.{Names}
use Rattle.c_print.specs.Text.Pieces as pieces
use Rattle.c_print.specs.Text.Acts.{act_text}
use Rattle.c_print.specs.Text.Operations.{op_text, op_lines, cond_text}
use Rattle.c_print.specs.Text.Statements as print
use Rattle.c_print.proofs.Betweens.{between-texts}
use Rattle.c_print.proofs.TextEquations.{part-Simple, part-Jump, part-If, part-Loop, part-Block}
use Rattle.print_law.proofs.Plain.{Stmt, Simple, Jumps, If, Loop, Block, Stmts, NoStmts, And, up_stmt, up_stmts}
use Rattle.print_law.proofs.Items.{Item, Gap, Is, kinds}
use Rattle.print_law.proofs.Texts.{spelled, spelled-append, spelled-closed}
use Rattle.print_law.proofs.Apart.{fits, ends, Fits, both, fits-then, open-fits, begins-append, closed-paren, closed-apart}
use Rattle.print_law.proofs.Calls.{value_items, value-text, value-fits}
use Rattle.print_law.proofs.Operations.{op_items, op-text, ops_items, ops_lines, ops-text, cond_items, cond-text, cond-phrase}
use Rattle.print_law.proofs.Acts.{plain_items, plain-fits}
use Rattle.print_law.proofs.Simples.{act_items, act_form, act-text, act-fits}
use Rattle.print_law.proofs.Lines.{Line, deeper, braced, led, Hold, hold-append, hold-line, hold-deeper, hold-braced, texts, texts-append, texts-deeper, texts-braced, texts-led, all_fit, all_fit-append, all_fit-deeper, all_fit-braced}
use Rattle.print_law.proofs.Statements.{bare_items, alone_items, bare_end, jump_items, more_ops_items, step_items, loop_items, is_if, is_lone, in_braces, else_by, if_items, stmt_items, stmts_items, else_items}

-- the lines

abbrev value_line : Names → Jump → Line
value_line names (ReturnValue v) =
    Is (IsWord w.Int) ∷ Gap ∷ Is (IsWord w.Value) ∷ Gap ∷ Is (IsSign s.Assign) ∷ Gap ∷ (value_items names v ++ Is (IsSign s.Semicolon) ∷ [])
value_line names j = []

abbrev return_line : Line
return_line = Is (IsWord w.Return) ∷ Gap ∷ Is (IsWord w.Value) ∷ Is (IsSign s.Semicolon) ∷ []

abbrev block_lines : Names → Jump → List Op → List Line
block_lines names (ReturnValue v) ops = value_line names (ReturnValue v) ∷ (ops_lines ops ++ return_line ∷ [])
block_lines names j ops = ops_lines ops ++ (bare_items j ++ Is (IsSign s.Semicolon) ∷ []) ∷ []

abbrev pub jump_lines : Names → Jump → List Op → List Line
jump_lines names j [] = alone_items names j ∷ []
jump_lines names j (op ∷ more) = braced [] (block_lines names j (op ∷ more))

abbrev if_line : Names → Cond → Line
if_line names cond = Is (IsWord w.If) ∷ Gap ∷ Is (IsSign s.OpenParen) ∷ (cond_items names cond ++ Is (IsSign s.CloseParen) ∷ Gap ∷ Is (IsSign s.OpenBrace) ∷ [])

abbrev else_front : Line
else_front = Is (IsSign s.CloseBrace) ∷ Gap ∷ Is (IsWord w.Else) ∷ Gap ∷ []

abbrev else_lines_by : Bool → List Line → List Line → List Line
else_lines_by true lines rest = led else_front lines
else_lines_by false lines rest = braced else_front (lines ++ rest)

abbrev mutual
  pub stmt_lines : Names → Stmt → List Line
  stmt_lines names (Simple a ops) = (act_items names a ++ Is (IsSign s.Semicolon) ∷ []) ∷ ops_lines ops
  stmt_lines names (Jumps j ops) = jump_lines names j ops
  stmt_lines names (If cond on_true on_false) = if_line names cond ∷ (deeper (stmts_lines names on_true) ++ else_lines names on_false)
  stmt_lines names (Loop cond step body) = braced (loop_items names cond step []) (stmts_lines names body)
  stmt_lines names (Block body) = braced [] (stmts_lines names body)

  pub stmts_lines : Names → Stmts → List Line
  stmts_lines names NoStmts = []
  stmts_lines names (And s more) = stmt_lines names s ++ stmts_lines names more

  pub else_lines : Names → Stmts → List Line
  else_lines names NoStmts = (Is (IsSign s.CloseBrace) ∷ []) ∷ []
  else_lines names (And s more) = else_lines_by (is_lone s more) (stmt_lines names s) (stmts_lines names more)

-- their tokens

pub hold-ops : (ops : List Op) → Hold (ops_lines ops) (ops_items ops)
hold-ops [] = refl
hold-ops (op ∷ more) = ap (λ z. kinds (op_items op) ++ (IsSign s.Semicolon ∷ z)) (hold-ops more)

five : {A : Type 0} (v x ops last end : List A) → ((v ++ x) ++ (ops ++ last)) ++ end ≡ v ++ (x ++ (ops ++ (last ++ end)))
five v x ops last end = simp append_assoc refl

three : {A : Type 0} (ops last end : List A) → (ops ++ last) ++ end ≡ ops ++ (last ++ end)
three ops last end = append_assoc ops last end

hold-value : (names : Names) (j : Jump) (op : Op) (more : List Op) (v : List Item)
    → Hold ((v ++ Is (IsSign s.Semicolon) ∷ []) ∷ (ops_lines (op ∷ more) ++ return_line ∷ [])) ((v ++ Is (IsSign s.Semicolon) ∷ []) ++ (ops_items (op ∷ more) ++ return_line))
hold-value names j op more v =
    hold-line (v ++ Is (IsSign s.Semicolon) ∷ []) (ops_lines (op ∷ more) ++ return_line ∷ []) (ops_items (op ∷ more) ++ return_line)
    (hold-append (ops_lines (op ∷ more)) (return_line ∷ []) (ops_items (op ∷ more)) return_line (hold-ops (op ∷ more)) refl)

hold-bare : (j : Jump) (op : Op) (more : List Op)
    → Hold (braced [] (ops_lines (op ∷ more) ++ (bare_items j ++ Is (IsSign s.Semicolon) ∷ []) ∷ [])) (Is (IsSign s.OpenBrace) ∷ (op_items op ++ bare_end j more))
hold-bare j op more =
    let last = bare_items j ++ Is (IsSign s.Semicolon) ∷ [] in
    hold-braced [] (ops_lines (op ∷ more) ++ last ∷ []) (ops_items (op ∷ more) ++ last)
    (hold-append (ops_lines (op ∷ more)) (last ∷ []) (ops_items (op ∷ more)) last (hold-ops (op ∷ more)) (append-nil (kinds last)))
    ∙ ap (λ z. kinds (Is (IsSign s.OpenBrace) ∷ (op_items op ++ Is (IsSign s.Semicolon) ∷ z)))
    (append_assoc (ops_items more) last (Is (IsSign s.CloseBrace) ∷ []) ∙ ap (λ z. ops_items more ++ z) (append_assoc (bare_items j) (Is (IsSign s.Semicolon) ∷ []) (Is (IsSign s.CloseBrace) ∷ [])))

pub hold-jump : (names : Names) (j : Jump) (ops : List Op) → Hold (jump_lines names j ops) (jump_items names j ops)
hold-jump names j [] = append-nil (kinds (alone_items names j))
hold-jump names (ReturnValue v) (op ∷ more) =
    let front = Is (IsWord w.Int) ∷ Gap ∷ Is (IsWord w.Value) ∷ Gap ∷ Is (IsSign s.Assign) ∷ Gap ∷ value_items names v in
    hold-braced [] (block_lines names (ReturnValue v) (op ∷ more)) ((front ++ Is (IsSign s.Semicolon) ∷ []) ++ (ops_items (op ∷ more) ++ return_line))
    (hold-value names (ReturnValue v) op more front)
    ∙ ap (λ z. kinds (Is (IsSign s.OpenBrace) ∷ z)) (five front (Is (IsSign s.Semicolon) ∷ []) (ops_items (op ∷ more)) return_line (Is (IsSign s.CloseBrace) ∷ []))
hold-jump names Break (op ∷ more) = hold-bare Break op more
hold-jump names Continue (op ∷ more) = hold-bare Continue op more
hold-jump names Return (op ∷ more) = hold-bare Return op more
hold-jump names ReturnNull (op ∷ more) = hold-bare ReturnNull op more

loop-head : (names : Names) (cond : Cond) (step : Option Step) (rest : List Item) → loop_items names cond step [] ++ rest ≡ loop_items names cond step rest
loop-head names cond None rest =
    ap (λ z. Is (IsWord w.While) ∷ Gap ∷ Is (IsSign s.OpenParen) ∷ z) (append_assoc (cond_items names cond) (Is (IsSign s.CloseParen) ∷ Gap ∷ []) rest)
loop-head names cond (Some step) rest =
    ap (λ z. Is (IsWord w.For) ∷ Gap ∷ Is (IsSign s.OpenParen) ∷ Is (IsSign s.Semicolon) ∷ Gap ∷ z)
    (append_assoc (cond_items names cond) (Is (IsSign s.Semicolon) ∷ Gap ∷ (step_items names step ++ Is (IsSign s.CloseParen) ∷ Gap ∷ [])) rest
    ∙ ap (λ z. cond_items names cond ++ Is (IsSign s.Semicolon) ∷ Gap ∷ z) (append_assoc (step_items names step) (Is (IsSign s.CloseParen) ∷ Gap ∷ []) rest))

abbrev is_some_line : List Line → Bool
is_some_line [] = false
is_some_line (line ∷ more) = true

-- the lines of an `else` hold its brace and its items
hold-led : (lines : List Line) (items : List Item) → is_some_line lines ≡ true → Hold lines items → Hold (led else_front lines) (Is (IsSign s.CloseBrace) ∷ Gap ∷ Is (IsWord w.Else) ∷ Gap ∷ items)
hold-led [] items e h = absurd (true≢false (sym e))
hold-led (line ∷ more) items e h = ap (λ z. IsSign s.CloseBrace ∷ IsWord w.Else ∷ z) h

hold-else-by : (lone : Bool) (lines rest : List Line) (items more : List Item) → (lone ≡ true → is_some_line lines ≡ true) → Hold lines items → Hold rest more
    → Hold (else_lines_by lone lines rest) (Is (IsSign s.CloseBrace) ∷ else_by lone items more)
hold-else-by true lines rest items more e p q = hold-led lines items (e refl) p
hold-else-by false lines rest items more e p q = hold-braced else_front (lines ++ rest) (items ++ more) (hold-append lines rest items more p q)

lone-line : (names : Names) (s : Stmt) (more : Stmts) → is_lone s more ≡ true → is_some_line (stmt_lines names s) ≡ true
lone-line names (If cond on_true on_false) more e = refl
lone-line names (Simple a ops) more e = refl
lone-line names (Jumps j []) more e = refl
lone-line names (Jumps j (op ∷ ops)) more e = refl
lone-line names (Loop cond step body) more e = refl
lone-line names (Block body) more e = refl

if-held : (names : Names) (cond : Cond) (lines rest : List Line) (items more : List Item) → Hold lines items → Hold rest (Is (IsSign s.CloseBrace) ∷ more)
    → Hold (if_line names cond ∷ (deeper lines ++ rest)) (if_items names cond items more)
if-held names cond lines rest items more p q =
    hold-line (if_line names cond) (deeper lines ++ rest) (items ++ Is (IsSign s.CloseBrace) ∷ more)
    (hold-append (deeper lines) rest items (Is (IsSign s.CloseBrace) ∷ more) (hold-deeper lines items p) q)
    ∙ ap (λ z. kinds (Is (IsWord w.If) ∷ Gap ∷ Is (IsSign s.OpenParen) ∷ z))
    (append_assoc (cond_items names cond) (Is (IsSign s.CloseParen) ∷ Gap ∷ Is (IsSign s.OpenBrace) ∷ []) (items ++ Is (IsSign s.CloseBrace) ∷ more))

mutual
  pub hold-stmt : (names : Names) (s : Stmt) → Hold (stmt_lines names s) (stmt_items names s)
  hold-stmt names (Simple a ops) =
      hold-line (act_items names a ++ Is (IsSign s.Semicolon) ∷ []) (ops_lines ops) (ops_items ops) (hold-ops ops)
      ∙ ap kinds (append_assoc (act_items names a) (Is (IsSign s.Semicolon) ∷ []) (ops_items ops))
  hold-stmt names (Jumps j ops) = hold-jump names j ops
  hold-stmt names (If cond on_true on_false) =
      if-held names cond (stmts_lines names on_true) (else_lines names on_false) (stmts_items names on_true) (else_items names on_false) (hold-stmts names on_true) (hold-else names on_false)
  hold-stmt names (Loop cond step body) =
      hold-braced (loop_items names cond step []) (stmts_lines names body) (stmts_items names body) (hold-stmts names body)
      ∙ ap kinds (loop-head names cond step (in_braces (stmts_items names body)))
  hold-stmt names (Block body) = hold-braced [] (stmts_lines names body) (stmts_items names body) (hold-stmts names body)

  pub hold-stmts : (names : Names) (body : Stmts) → Hold (stmts_lines names body) (stmts_items names body)
  hold-stmts names NoStmts = refl
  hold-stmts names (And s more) = hold-append (stmt_lines names s) (stmts_lines names more) (stmt_items names s) (stmts_items names more) (hold-stmt names s) (hold-stmts names more)

  pub hold-else : (names : Names) (body : Stmts) → Hold (else_lines names body) (Is (IsSign s.CloseBrace) ∷ else_items names body)
  hold-else names NoStmts = refl
  hold-else names (And s more) =
      hold-else-by (is_lone s more) (stmt_lines names s) (stmts_lines names more) (stmt_items names s) (stmts_items names more) (lone-line names s more) (hold-stmt names s) (hold-stmts names more)

-- their text

-- whether each statement has a form of the grammar

abbrev pub formed_step : Option Step → Bool
formed_step None = true
formed_step (Some step) = is_step step.act

abbrev mutual
  pub formed : Stmt → Bool
  formed (Simple a ops) = act_form a
  formed (Jumps j ops) = true
  formed (If cond on_true on_false) = all_formed on_true && all_formed on_false
  formed (Loop cond step body) = formed_step step && all_formed body
  formed (Block body) = all_formed body

  pub all_formed : Stmts → Bool
  all_formed NoStmts = true
  all_formed (And s more) = formed s && all_formed more

bare-text : (names : Names) (j : Jump) → pieces.ended (print.jump_text names j) ≡ spelled (alone_items names j)
bare-text names Break = refl
bare-text names Continue = refl
bare-text names Return = refl
bare-text names ReturnNull = refl
bare-text names (ReturnValue v) =
    ap (λ z. pieces.ended (codes "return " ++ z)) (value-text names v) ∙ ap (λ z. codes "return " ++ z) (sym (spelled-closed (value_items names v) (IsSign s.Semicolon)))

bare-block-text : (names : Names) (line : Line) (text : List ℕ) (ops : List Op) → text ≡ spelled line → op_lines ops ++ text ∷ [] ≡ texts (ops_lines ops ++ line ∷ [])
bare-block-text names line text ops h =
    ap (λ z. z ++ text ∷ []) (ops-text ops) ∙ ap (λ z. texts (ops_lines ops) ++ z ∷ []) h ∙ sym (texts-append (ops_lines ops) (line ∷ []))

block-text : (names : Names) (j : Jump) (ops : List Op) → print.block_lines names j ops ≡ texts (block_lines names j ops)
block-text names (ReturnValue v) ops =
    ap (λ z. pieces.ended (codes "int cfix_value = " ++ z) ∷ (op_lines ops ++ codes "return cfix_value;" ∷ [])) (value-text names v)
    ∙ ap (λ z. (codes "int cfix_value = " ++ z) ∷ (op_lines ops ++ codes "return cfix_value;" ∷ [])) (sym (spelled-closed (value_items names v) (IsSign s.Semicolon)))
    ∙ ap (λ z. spelled (value_line names (ReturnValue v)) ∷ z) (bare-block-text names return_line (codes "return cfix_value;") ops refl)
block-text names Break ops = bare-block-text names (alone_items names Break) _ ops (bare-text names Break)
block-text names Continue ops = bare-block-text names (alone_items names Continue) _ ops (bare-text names Continue)
block-text names Return ops = bare-block-text names (alone_items names Return) _ ops (bare-text names Return)
block-text names ReturnNull ops = bare-block-text names (alone_items names ReturnNull) _ ops (bare-text names ReturnNull)

jump-text : (names : Names) (j : Jump) (ops : List Op) → print.jump_lines names j ops ≡ texts (jump_lines names j ops)
jump-text names j [] = ap (λ z. z ∷ []) (bare-text names j)
jump-text names j (op ∷ more) = ap (pieces.braced []) (block-text names j (op ∷ more)) ∙ sym (texts-braced [] (block_lines names j (op ∷ more)))

step-act-text : (names : Names) (a : Act) → is_step a ≡ true → act_text names a ≡ spelled (plain_items names a)
step-act-text names (act.Assign t how (value.Expr e)) h = act-text names (act.Assign t how (value.Expr e)) refl
step-act-text names (act.Up t) h = act-text names (act.Up t) refl
step-act-text names (act.Down t) h = act-text names (act.Down t) refl
step-act-text names (act.Assign t how (value.Call c)) h = absurd (true≢false (sym h))
step-act-text names (act.Declare name kind initial) h = absurd (true≢false (sym h))
step-act-text names (act.Call c) h = absurd (true≢false (sym h))
step-act-text names (act.Create t f e) h = absurd (true≢false (sym h))
step-act-text names (act.Join t) h = absurd (true≢false (sym h))
step-act-text names (act.Lock x) h = absurd (true≢false (sym h))
step-act-text names (act.Unlock x) h = absurd (true≢false (sym h))
step-act-text names (act.Print text args) h = absurd (true≢false (sym h))
step-act-text names (act.Scan t) h = absurd (true≢false (sym h))
step-act-text names (act.Wait c x) h = absurd (true≢false (sym h))
step-act-text names (act.Signal c) h = absurd (true≢false (sym h))
step-act-text names (act.Broadcast c) h = absurd (true≢false (sym h))

more-ops-text : (ops : List Op) → joined (map (λ op. codes ", " ++ op_text op) ops) ≡ spelled (more_ops_items ops)
more-ops-text [] = refl
more-ops-text (op ∷ more) =
    ap (λ z. (codes ", " ++ z) ++ joined (map (λ op. codes ", " ++ op_text op) more)) (op-text op)
    ∙ ap (λ z. codes ", " ++ spelled (op_items op) ++ z) (more-ops-text more)
    ∙ ap (λ z. 44 ∷ 32 ∷ z) (sym (spelled-append (op_items op) (more_ops_items more)))

step-text : (names : Names) (step : Step) → is_step step.act ≡ true → print.step_text names step ≡ spelled (step_items names step)
step-text names step h =
    between-texts (codes ", ") op_text (act_text names step.act) step.after
    ∙ ap (λ z. z ++ joined (map (λ op. codes ", " ++ op_text op) step.after)) (step-act-text names step.act h)
    ∙ ap (λ z. spelled (plain_items names step.act) ++ z) (more-ops-text step.after)
    ∙ sym (spelled-append (plain_items names step.act) (more_ops_items step.after))

for-shape : (c st : List ℕ) → codes "for (; " ++ c ++ codes "; " ++ st ++ codes ") " ≡ codes "for (; " ++ (c ++ (codes "; " ++ (st ++ codes ") ")))
for-shape c st = simp append_assoc refl

head-text : (names : Names) (cond : Cond) (step : Option Step) → formed_step step ≡ true → print.loop_head names cond step ≡ spelled (loop_items names cond step [])
head-text names cond None h =
    ap (λ z. codes "while (" ++ z ++ codes ") ") (cond-text names cond)
    ∙ ap (λ z. codes "while (" ++ z) (sym (spelled-append (cond_items names cond) (Is (IsSign s.CloseParen) ∷ Gap ∷ [])))
head-text names cond (Some step) h =
    for-shape (cond_text names cond) (print.step_text names step)
    ∙ ap (λ z. codes "for (; " ++ (cond_text names cond ++ (codes "; " ++ (z ++ codes ") ")))) (step-text names step h)
    ∙ ap (λ z. codes "for (; " ++ (cond_text names cond ++ (codes "; " ++ z))) (sym (spelled-append (step_items names step) (Is (IsSign s.CloseParen) ∷ Gap ∷ [])))
    ∙ ap (λ z. codes "for (; " ++ (z ++ (codes "; " ++ spelled (step_items names step ++ Is (IsSign s.CloseParen) ∷ Gap ∷ [])))) (cond-text names cond)
    ∙ ap (λ z. codes "for (; " ++ z) (sym (spelled-append (cond_items names cond) (Is (IsSign s.Semicolon) ∷ Gap ∷ (step_items names step ++ Is (IsSign s.CloseParen) ∷ Gap ∷ []))))

abbrev part_with : Bool → List (List ℕ) → print.Part
part_with is_if lines = record { is_if = is_if; lines = lines }

if-text : (names : Names) (cond : Cond) (x y : List (List ℕ)) (lines rest : List Line) → x ≡ texts lines → y ≡ texts rest
    → print.if_lines (cond_text names cond) x y ≡ texts (if_line names cond ∷ (deeper lines ++ rest))
if-text names cond x y lines rest p q =
    ap (λ z. (codes "if (" ++ z ++ codes ") {") ∷ (pieces.deeper x ++ y)) (cond-text names cond)
    ∙ ap (λ z. (codes "if (" ++ z) ∷ (pieces.deeper x ++ y)) (sym (spelled-append (cond_items names cond) (Is (IsSign s.CloseParen) ∷ Gap ∷ Is (IsSign s.OpenBrace) ∷ [])))
    ∙ ap (λ z. spelled (if_line names cond) ∷ (pieces.deeper z ++ y)) p
    ∙ ap (λ z. spelled (if_line names cond) ∷ (pieces.deeper (texts lines) ++ z)) q
    ∙ ap (λ z. spelled (if_line names cond) ∷ (z ++ texts rest)) (sym (texts-deeper lines))
    ∙ ap (λ z. spelled (if_line names cond) ∷ z) (sym (texts-append (deeper lines) rest))

else-one : (lone : Bool) (lines : List Line)
    → (if lone then pieces.led (codes "} else ") (texts lines) else pieces.braced (codes "} else ") (texts lines)) ≡ texts (else_lines_by lone lines [])
else-one true lines = sym (texts-led else_front lines)
else-one false lines = ap (λ z. pieces.braced (codes "} else ") (texts z)) (sym (append-nil lines)) ∙ sym (texts-braced else_front (lines ++ []))

mutual
  pub stmt-text : (names : Names) (s : Stmt) → formed s ≡ true → print.stmt_part names (up_stmt s) ≡ part_with (is_if s) (texts (stmt_lines names s))
  stmt-text names (Simple a ops) h =
      part-Simple names a ops ∙ ap (λ z. part_with false (pieces.ended z ∷ op_lines ops)) (act-text names a h)
      ∙ ap (λ z. part_with false (z ∷ op_lines ops)) (sym (spelled-closed (act_items names a) (IsSign s.Semicolon)))
      ∙ ap (λ z. part_with false (spelled (act_items names a ++ Is (IsSign s.Semicolon) ∷ []) ∷ z)) (ops-text ops)
  stmt-text names (Jumps j ops) h = part-Jump names j ops ∙ ap (part_with false) (jump-text names j ops)
  stmt-text names (If cond on_true on_false) h =
      let hs = and_parts (all_formed on_true) (all_formed on_false) h in
      part-If names cond (up_stmts on_true) (up_stmts on_false)
      ∙ ap (part_with true) (if-text names cond _ _ (stmts_lines names on_true) (else_lines names on_false) (stmts-text names on_true hs.0) (else-text names on_false hs.1))
  stmt-text names (Loop cond step body) h =
      let hs = and_parts (formed_step step) (all_formed body) h in
      part-Loop names cond step (up_stmts body)
      ∙ ap (λ z. part_with false (pieces.braced z (print.body_lines names (up_stmts body)))) (head-text names cond step hs.0)
      ∙ ap (λ z. part_with false (pieces.braced (spelled (loop_items names cond step [])) z)) (stmts-text names body hs.1)
      ∙ ap (part_with false) (sym (texts-braced (loop_items names cond step []) (stmts_lines names body)))
  stmt-text names (Block body) h =
      part-Block names (up_stmts body) ∙ ap (λ z. part_with false (pieces.braced [] z)) (stmts-text names body h)
      ∙ ap (part_with false) (sym (texts-braced [] (stmts_lines names body)))

  pub stmts-text : (names : Names) (body : Stmts) → all_formed body ≡ true → print.body_lines names (up_stmts body) ≡ texts (stmts_lines names body)
  stmts-text names NoStmts h = refl
  stmts-text names (And s more) h =
      let hs = and_parts (formed s) (all_formed more) h in
      ap (λ (z : print.Part). z.lines ++ print.body_lines names (up_stmts more)) (stmt-text names s hs.0)
      ∙ ap (λ z. texts (stmt_lines names s) ++ z) (stmts-text names more hs.1) ∙ sym (texts-append (stmt_lines names s) (stmts_lines names more))

  pub else-text : (names : Names) (body : Stmts) → all_formed body ≡ true → print.else_lines (map (print.stmt_part names) (up_stmts body)) ≡ texts (else_lines names body)
  else-text names NoStmts h = refl
  else-text names (And s NoStmts) h =
      let hs = and_parts (formed s) true h in
      ap (λ z. print.else_lines (z ∷ [])) (stmt-text names s hs.0) ∙ else-one (is_if s) (stmt_lines names s)
  else-text names (And s (And next more)) h =
      let hs = and_parts (formed s) (formed next && all_formed more) h in
      let ts = and_parts (formed next) (all_formed more) hs.1 in
      ap (λ (z : print.Part). pieces.braced (codes "} else ") (z.lines ++ print.body_lines names (up_stmts (And next more)))) (stmt-text names s hs.0)
      ∙ ap (λ (z : print.Part). pieces.braced (codes "} else ") (texts (stmt_lines names s) ++ (z.lines ++ print.body_lines names (up_stmts more)))) (stmt-text names next ts.0)
      ∙ ap (λ z. pieces.braced (codes "} else ") (texts (stmt_lines names s) ++ (texts (stmt_lines names next) ++ z))) (stmts-text names more ts.1)
      ∙ ap (λ z. pieces.braced (codes "} else ") (texts (stmt_lines names s) ++ z)) (sym (texts-append (stmt_lines names next) (stmts_lines names more)))
      ∙ ap (pieces.braced (codes "} else ")) (sym (texts-append (stmt_lines names s) (stmts_lines names (And next more))))
      ∙ sym (texts-braced else_front (stmt_lines names s ++ stmts_lines names (And next more)))

-- all stand apart

ended-fits : (items : List Item) → Fits items → fits (items ++ Is (IsSign s.Semicolon) ∷ []) None ≡ true
ended-fits items h = fits-then items (Is (IsSign s.Semicolon) ∷ []) None h refl refl

pub ops-fit : (ops : List Op) → all_fit (ops_lines ops) ≡ true
ops-fit [] = refl
ops-fit (op ∷ more) = ops-fit more

alone-fit : (names : Names) (j : Jump) → fits (alone_items names j) None ≡ true
alone-fit names Break = refl
alone-fit names Continue = refl
alone-fit names Return = refl
alone-fit names ReturnNull = refl
alone-fit names (ReturnValue v) = ended-fits (value_items names v) (value-fits names v)

block-fit : (names : Names) (j : Jump) (ops : List Op) → all_fit (block_lines names j ops) ≡ true
block-fit names (ReturnValue v) ops = both _ _ (ended-fits (value_items names v) (value-fits names v)) (all_fit-append (ops_lines ops) (return_line ∷ []) (ops-fit ops) refl)
block-fit names Break ops = all_fit-append (ops_lines ops) (alone_items names Break ∷ []) (ops-fit ops) refl
block-fit names Continue ops = all_fit-append (ops_lines ops) (alone_items names Continue ∷ []) (ops-fit ops) refl
block-fit names Return ops = all_fit-append (ops_lines ops) (alone_items names Return ∷ []) (ops-fit ops) refl
block-fit names ReturnNull ops = all_fit-append (ops_lines ops) (alone_items names ReturnNull ∷ []) (ops-fit ops) refl

jump-fit : (names : Names) (j : Jump) (ops : List Op) → all_fit (jump_lines names j ops) ≡ true
jump-fit names j [] = both _ _ (alone-fit names j) refl
jump-fit names j (op ∷ more) = all_fit-braced [] (block_lines names j (op ∷ more)) refl (block-fit names j (op ∷ more))

cond-open : (names : Names) (cond : Cond) (rest : List Item) (next : Option Item) → ends (first rest next) ≡ true → fits rest next ≡ true
    → fits (Is (IsSign s.OpenParen) ∷ (cond_items names cond ++ rest)) next ≡ true
cond-open names cond rest next e f =
    let p = cond-phrase names cond in
    open-fits s.OpenParen (cond_items names cond ++ rest) next refl (begins-append (cond_items names cond) rest p.begins) (fits-then (cond_items names cond) rest next p.fits e f)

paren-then : (back : List Item) (next : Option Item) → ends (first back next) ≡ true → fits back next ≡ true → fits (Is (IsSign s.CloseParen) ∷ back) next ≡ true
paren-then [] next e f = closed-paren next e
paren-then (x ∷ back) next e f = both _ _ (closed-apart (Some x) e) f

more-ops-ends : (ops : List Op) (rest : List Item) (next : Option Item) → ends (first rest next) ≡ true → ends (first (more_ops_items ops ++ rest) next) ≡ true
more-ops-ends [] rest next e = e
more-ops-ends (op ∷ more) rest next e = refl

more-ops-fit : (ops : List Op) (rest : List Item) (next : Option Item) → ends (first rest next) ≡ true → fits rest next ≡ true → fits (more_ops_items ops ++ rest) next ≡ true
more-ops-fit [] rest next e f = f
more-ops-fit (op ∷ more) rest next e f = paren-then (more_ops_items more ++ rest) next (more-ops-ends more rest next e) (more-ops-fit more rest next e f)

step-fit : (names : Names) (step : Step) (rest : List Item) (next : Option Item) → ends (first rest next) ≡ true → fits rest next ≡ true → fits (step_items names step ++ rest) next ≡ true
step-fit names step rest next e f =
    rw (append_assoc (plain_items names step.act) (more_ops_items step.after) rest)
    (fits-then (plain_items names step.act) (more_ops_items step.after ++ rest) next (plain-fits names step.act) (more-ops-ends step.after rest next e) (more-ops-fit step.after rest next e f))

loop-fit : (names : Names) (cond : Cond) (step : Option Step) → fits (loop_items names cond step (Is (IsSign s.OpenBrace) ∷ [])) None ≡ true
loop-fit names cond None = cond-open names cond (Is (IsSign s.CloseParen) ∷ Gap ∷ Is (IsSign s.OpenBrace) ∷ []) None refl refl
loop-fit names cond (Some step) =
    fits-then (cond_items names cond) (Is (IsSign s.Semicolon) ∷ Gap ∷ (step_items names step ++ Is (IsSign s.CloseParen) ∷ Gap ∷ Is (IsSign s.OpenBrace) ∷ [])) None
    (cond-phrase names cond).fits refl (step-fit names step (Is (IsSign s.CloseParen) ∷ Gap ∷ Is (IsSign s.OpenBrace) ∷ []) None refl refl)

led-fit : (lines : List Line) → all_fit lines ≡ true → all_fit (led else_front lines) ≡ true
led-fit [] h = refl
led-fit (line ∷ more) h = h

else-fit-by : (lone : Bool) (lines rest : List Line) → all_fit lines ≡ true → all_fit rest ≡ true → all_fit (else_lines_by lone lines rest) ≡ true
else-fit-by true lines rest p q = led-fit lines p
else-fit-by false lines rest p q = all_fit-braced else_front (lines ++ rest) refl (all_fit-append lines rest p q)

mutual
  pub stmt-fit : (names : Names) (s : Stmt) → all_fit (stmt_lines names s) ≡ true
  stmt-fit names (Simple a ops) = both _ _ (ended-fits (act_items names a) (act-fits names a)) (ops-fit ops)
  stmt-fit names (Jumps j ops) = jump-fit names j ops
  stmt-fit names (If cond on_true on_false) =
      both _ _ (cond-open names cond (Is (IsSign s.CloseParen) ∷ Gap ∷ Is (IsSign s.OpenBrace) ∷ []) None refl refl)
      (all_fit-append (deeper (stmts_lines names on_true)) (else_lines names on_false) (all_fit-deeper (stmts_lines names on_true) ∙ stmts-fit names on_true) (else-fit names on_false))
  stmt-fit names (Loop cond step body) =
      all_fit-braced (loop_items names cond step []) (stmts_lines names body)
      (ap (λ z. fits z None) (loop-head names cond step (Is (IsSign s.OpenBrace) ∷ [])) ∙ loop-fit names cond step) (stmts-fit names body)
  stmt-fit names (Block body) = all_fit-braced [] (stmts_lines names body) refl (stmts-fit names body)

  pub stmts-fit : (names : Names) (body : Stmts) → all_fit (stmts_lines names body) ≡ true
  stmts-fit names NoStmts = refl
  stmts-fit names (And s more) = all_fit-append (stmt_lines names s) (stmts_lines names more) (stmt-fit names s) (stmts-fit names more)

  pub else-fit : (names : Names) (body : Stmts) → all_fit (else_lines names body) ≡ true
  else-fit names NoStmts = refl
  else-fit names (And s more) = else-fit-by (is_lone s more) (stmt_lines names s) (stmts_lines names more) (stmt-fit names s) (stmts-fit names more)
