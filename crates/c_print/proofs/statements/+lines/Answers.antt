use Rattle.std.proofs.Common.{rules, ◌≡◌, [], ◌∷◌, ◌++◌, codes, map, ap, sym, ◌∙◌, arith}
use Rattle.std.proofs.lemmas.Grind.{common_steps}
use Rattle.c_print.specs.Table.{named}
use Rattle.c_print.specs.Text.Operations.{cond_text}
use Rattle.c_print.specs.Text.Statements.{stmt_part, body_lines, else_lines, loop_head}
use Rattle.c_print.specs.Written.{at, inside, braces, if_start, body_at}
use Rattle.c_print.proofs.Elses.{else-none, else-only, else-many, else-braced}
use Rattle.c_print.proofs.Indented.{at-body, at-only}
use Rattle.c_print.proofs.LinesWritten.{two-pieces, braces-written, start-written, indented-if, led-if, headed-written, block-written}
use Rattle.c_print.proofs.TextEquations.{part-If, part-Loop, part-Block}
use Rattle.c_print.proofs.statements.+lines.Goals as goal

pub add_braces-returns : goal.add_braces-returns
add_braces-returns t c =
    let indent = c.args.indent.now in
    let lines = body_lines (named c.args.names.now) c.args.list.now in
    let first : c.add.new.text.items ≡ c.args.text.now.items ++ codes "{\n" = search rules in
    let second : c.add_list.new.text.items ≡ c.add.new.text.items ++ at (inside indent) lines = search rules in
    let third : c.add-2.new.text.items ≡ c.add_list.new.text.items ++ indent = search rules in
    let last : c.add-3.new.text.items ≡ c.add-2.new.text.items ++ codes "}\n" = search rules in
    braces-written c.args.text.now.items c.add.new.text.items c.add_list.new.text.items c.add-2.new.text.items c.add-3.new.text.items
    indent lines first second third last

pub add_if_start-returns : goal.add_if_start-returns
add_if_start-returns t c =
    let indent = c.args.indent.now in
    let cond = cond_text (named c.args.names.now) c.args.cond.now in
    let lines = body_lines (named c.args.names.now) c.args.list.now in
    let first : c.add.new.text.items ≡ c.args.text.now.items ++ codes "if (" = search rules in
    let second : c.add_cond.new.text.items ≡ c.add.new.text.items ++ cond = search rules in
    let third : c.add-2.new.text.items ≡ c.add_cond.new.text.items ++ codes ") {\n" = search rules in
    let last : c.add_list.new.text.items ≡ c.add-2.new.text.items ++ at (inside indent) lines = search rules in
    start-written c.args.text.now.items c.add.new.text.items c.add_cond.new.text.items c.add-2.new.text.items c.add_list.new.text.items
    indent cond lines first second third last

pub add_list-returns : goal.add_list-returns
add_list-returns t c =
    let names = named c.args.names.now in
    let written : c.loop-stmt.text.items ≡ c.args.text.now.items ++ body_at names c.args.indent.now c.args.list.now = grind (arith, common_steps) in
    written ∙ ap (λ t. c.args.text.now.items ++ t) (sym (at-body names c.args.indent.now c.args.list.now))

pub add_stmt-returns-in_ok-add_else-in-If : goal.add_stmt-returns-in_ok-add_else-in-If
add_stmt-returns-in_ok-add_else-in-If t c =
    let names = named c.args.names.now in
    let indent = c.args.indent.now in
    let cond = cond_text names c.in-If.cond in
    let lines = body_lines names c.in-If.yes in
    let rest = else_lines (map (stmt_part names) c.in-If.no) in
    let first : c.add.new.text.items ≡ c.args.text.now.items ++ indent = search rules in
    let second : c.add_if_start.new.text.items ≡ c.add.new.text.items ++ if_start indent cond lines = search rules in
    let last : c.add_else.new.text.items ≡ c.add_if_start.new.text.items ++ at indent rest = search rules in
    indented-if c.args.text.now.items c.add.new.text.items c.add_if_start.new.text.items c.add_else.new.text.items indent cond lines rest first second last
    ∙ ap (λ s. c.args.text.now.items ++ at indent s.lines)
    (sym (ap (stmt_part names) c.in-If.is ∙ part-If names c.in-If.cond c.in-If.yes c.in-If.no))

pub add_stmt-returns-in_ok-add_braces-in-Loop : goal.add_stmt-returns-in_ok-add_braces-in-Loop
add_stmt-returns-in_ok-add_braces-in-Loop t c =
    let names = named c.args.names.now in
    let indent = c.args.indent.now in
    let head = loop_head names c.in-Loop.cond c.in-Loop.step in
    let lines = body_lines names c.in-Loop.body in
    let first : c.add-in-Loop.new.text.items ≡ c.args.text.now.items ++ indent = search rules in
    let second : c.add_loop_head.new.text.items ≡ c.add-in-Loop.new.text.items ++ head = search rules in
    let last : c.add_braces.new.text.items ≡ c.add_loop_head.new.text.items ++ braces indent lines = search rules in
    headed-written c.args.text.now.items c.add-in-Loop.new.text.items c.add_loop_head.new.text.items c.add_braces.new.text.items indent head lines first second last
    ∙ ap (λ s. c.args.text.now.items ++ at indent s.lines)
    (sym (ap (stmt_part names) c.in-Loop.is ∙ part-Loop names c.in-Loop.cond c.in-Loop.step c.in-Loop.body))

pub add_stmt-returns-in_ok-add_braces-in-Block : goal.add_stmt-returns-in_ok-add_braces-in-Block
add_stmt-returns-in_ok-add_braces-in-Block t c =
    let names = named c.args.names.now in
    let indent = c.args.indent.now in
    let lines = body_lines names c.in-Block.body in
    let first : c.add-in-Block.new.text.items ≡ c.args.text.now.items ++ indent = search rules in
    let last : c.add_braces-in-Block.new.text.items ≡ c.add-in-Block.new.text.items ++ braces indent lines = search rules in
    block-written c.args.text.now.items c.add-in-Block.new.text.items c.add_braces-in-Block.new.text.items indent lines first last
    ∙ ap (λ s. c.args.text.now.items ++ at indent s.lines) (sym (ap (stmt_part names) c.in-Block.is ∙ part-Block names c.in-Block.body))

pub add_only_else-returns-in_ok-add_else-in-If : goal.add_only_else-returns-in_ok-add_else-in-If
add_only_else-returns-in_ok-add_else-in-If t c =
    let names = named c.args.names.now in
    let indent = c.args.indent.now in
    let cond = cond_text names c.in-If.cond in
    let lines = body_lines names c.in-If.yes in
    let rest = else_lines (map (stmt_part names) c.in-If.no) in
    let first : c.add.new.text.items ≡ c.args.text.now.items ++ indent = search rules in
    let second : c.add-in-If.new.text.items ≡ c.add.new.text.items ++ codes "} else " = search rules in
    let third : c.add_if_start.new.text.items ≡ c.add-in-If.new.text.items ++ if_start indent cond lines = search rules in
    let last : c.add_else.new.text.items ≡ c.add_if_start.new.text.items ++ at indent rest = search rules in
    led-if c.args.text.now.items c.add.new.text.items c.add-in-If.new.text.items c.add_if_start.new.text.items c.add_else.new.text.items
    indent cond lines rest first second third last
    ∙ ap (λ s. c.args.text.now.items ++ at indent (else_lines (s ∷ [])))
    (sym (ap (stmt_part names) c.in-If.is ∙ part-If names c.in-If.cond c.in-If.yes c.in-If.no))

pub add_only_braces-returns : goal.add_only_braces-returns
add_only_braces-returns t c =
    let names = named c.args.names.now in
    let indent = c.args.indent.now in
    let lines = (stmt_part names c.args.only.now).lines in
    let first : c.add.new.text.items ≡ c.args.text.now.items ++ indent = search rules in
    let second : c.add-2.new.text.items ≡ c.add.new.text.items ++ codes "} else " = search rules in
    let opened : c.add-3.new.text.items ≡ c.add-2.new.text.items ++ codes "{\n" = search rules in
    let middle : c.add_stmt.new.text.items ≡ c.add-3.new.text.items ++ at (inside indent) lines = search rules in
    let back : c.add-4.new.text.items ≡ c.add_stmt.new.text.items ++ indent = search rules in
    let last : c.add-5.new.text.items ≡ c.add-4.new.text.items ++ codes "}\n" = search rules in
    headed-written c.args.text.now.items c.add.new.text.items c.add-2.new.text.items c.add-5.new.text.items indent (codes "} else ") lines first second
    (braces-written c.add-2.new.text.items c.add-3.new.text.items c.add_stmt.new.text.items c.add-4.new.text.items c.add-5.new.text.items
    indent lines opened middle back last)
    ∙ ap (λ ls. c.args.text.now.items ++ at indent ls) (sym (else-braced (stmt_part names c.args.only.now) c.requires))

pub add_else-returns-in_ok-add-in-empty-2 : goal.add_else-returns-in_ok-add-in-empty-2
add_else-returns-in_ok-add-in-empty-2 t c =
    let f = stmt_part (named c.args.names.now) in
    let indent = c.args.indent.now in
    let first : c.add.new.text.items ≡ c.args.text.now.items ++ indent = search rules in
    let last : c.add-in-empty.new.text.items ≡ c.add.new.text.items ++ codes "}\n" = search rules in
    two-pieces c.args.text.now.items indent (codes "}\n") c.add.new.text.items c.add-in-empty.new.text.items first last
    ∙ ap (λ t. c.args.text.now.items ++ t) (sym (at-only indent (codes "}")))
    ∙ ap (λ ls. c.args.text.now.items ++ at indent ls) (sym (else-none f c.args.list.now c.in-empty.len_below))

pub add_else-returns-in_ok-add_only_else-in-len1 : goal.add_else-returns-in_ok-add_only_else-in-len1
add_else-returns-in_ok-add_only_else-in-len1 t c =
    let f = stmt_part (named c.args.names.now) in
    let indent = c.args.indent.now in
    let last : c.add_only_else.new.text.items ≡ c.args.text.now.items ++ at indent (else_lines (f c.only-item.result ∷ [])) = c.in_ok-add_only_else-in-len1.ensures in
    last ∙ ap (λ ls. c.args.text.now.items ++ at indent ls)
    (sym (else-only f c.args.list.now c.only-item.result c.in-len1.len_at_least c.in-len1.len_below c.only-item.is))

pub add_else-returns-in_ok-add_braces-in-len2-up : goal.add_else-returns-in_ok-add_braces-in-len2-up
add_else-returns-in_ok-add_braces-in-len2-up t c =
    let names = named c.args.names.now in
    let indent = c.args.indent.now in
    let lines = body_lines names c.args.list.now in
    let first : c.add-in-len2-up.new.text.items ≡ c.args.text.now.items ++ indent = search rules in
    let second : c.add-in-len2-up-2.new.text.items ≡ c.add-in-len2-up.new.text.items ++ codes "} else " = search rules in
    let last : c.add_braces.new.text.items ≡ c.add-in-len2-up-2.new.text.items ++ braces indent lines = search rules in
    headed-written c.args.text.now.items c.add-in-len2-up.new.text.items c.add-in-len2-up-2.new.text.items c.add_braces.new.text.items
    indent (codes "} else ") lines first second last
    ∙ ap (λ ls. c.args.text.now.items ++ at indent ls) (sym (else-many (stmt_part names) c.args.list.now c.in-len2-up.len_at_least))
