-- Statements, as trees of the grammar.
use Rattle.std.specs.Prelude.{List, [], ◌∷◌, map, Option, Some, None}
use Rattle.c_raw.specs.declared.cond.Cond.{Cond}
use Rattle.c_raw.specs.declared.stmt.Bare.{Bare}
use Rattle.c_raw.specs.declared.stmt.Bare.TheVariants as bare
use Rattle.c_raw.specs.declared.stmt.BareBlock.{BareBlock}
use Rattle.c_raw.specs.declared.stmt.ValueBlock.{ValueBlock}
use Rattle.c_raw.specs.declared.stmt.Jump.{Jump}
use Rattle.c_raw.specs.declared.stmt.Jump.TheVariants as jump
use Rattle.c_raw.specs.declared.stmt.First.{First}
use Rattle.c_raw.specs.declared.stmt.First.TheVariants as first
use Rattle.c_raw.specs.declared.stmt.LoopStep.{LoopStep}
use Rattle.c_raw.specs.declared.stmt.Test.{Test}
use Rattle.c_raw.specs.declared.stmt.LoopHead.{LoopHead}
use Rattle.c_raw.specs.declared.stmt.Stmt.{Stmt}
use Rattle.c_raw.specs.declared.stmt.Item.TheOpen.{Stmt-F, Else-F, Item-F}
use Rattle.c_raw.specs.declared.stmt.Item.TheFolds.{fold-Stmt, fold-Else, fold-Item}
use Rattle.c_raw.specs.declared.stmt.Else.{Else}
use Rattle.c_raw.specs.declared.stmt.Item.{Item}
use Rattle.c_raw.specs.Simples.{value_view, plain_view, simple_view}
use Rattle.c_raw.specs.Ops.{op_view, ops_view, more_ops_view}
use Rattle.c_raw.specs.Decls.{decl_view, loop_int_view, more_loop_ints_view}
use Rattle.c_raw.specs.Conds.{cond_view}
use Rattle.c_grammar.specs.Cond as c
use Rattle.c_grammar.specs.Stmt as g

abbrev pub bare_view : Bare → g.Bare
bare_view (bare.Break at) = g.Break at
bare_view (bare.Continue at) = g.Continue at
bare_view (bare.Return at) = g.Return at
bare_view (bare.ReturnNull at null) = g.ReturnNull at null

abbrev pub bare_block_view : BareBlock → g.Jump
bare_block_view b = g.BareBlock b.before (op_view b.first) b.first_end (ops_view b.ops) (bare_view b.bare) b.end b.after

abbrev pub value_block_view : ValueBlock → g.Jump
value_block_view b =
    g.ValueBlock b.before b.int b.name b.set (value_view b.value) b.value_end (op_view b.first) b.first_end (ops_view b.ops) b.at b.returned b.end b.after

abbrev pub jump_view : Jump → g.Jump
jump_view (jump.Bare b end) = g.BareJump (bare_view b) end
jump_view (jump.ReturnValue at v end) = g.ReturnValue at (value_view v) end
jump_view (jump.BareBlock b) = bare_block_view b
jump_view (jump.ValueBlock b) = value_block_view b

abbrev pub first_view : First → g.First
first_view (first.Ints at x more) = g.FirstInts at (loop_int_view x) (more_loop_ints_view more)
first_view (first.Plain p) = g.FirstPlain (plain_view p)

abbrev pub loop_step_view : LoopStep → g.LoopStep
loop_step_view s = g.LoopStepOf (plain_view s.plain) (more_ops_view s.ops)

abbrev pub first_part_view : Option First → Option g.First
first_part_view None = None
first_part_view (Some x) = Some (first_view x)

abbrev pub cond_part_view : Option Cond → Option c.Cond
cond_part_view None = None
cond_part_view (Some x) = Some (cond_view x)

abbrev pub step_part_view : Option LoopStep → Option g.LoopStep
step_part_view None = None
step_part_view (Some x) = Some (loop_step_view x)

abbrev pub if_view : Test → g.Stmt → g.Else → g.Stmt
if_view t body other = g.If t.at t.before (cond_view t.cond) t.after body other

abbrev pub while_view : Test → g.Stmt → g.Stmt
while_view t body = g.While t.at t.before (cond_view t.cond) t.after body

abbrev pub for_view : LoopHead → g.Stmt → g.Stmt
for_view h body = g.For h.at h.before (first_part_view h.first) h.first_end (cond_part_view h.cond) h.cond_end (step_part_view h.step) h.after body

abbrev pub else_from : Option g.Else → g.Else
else_from None = g.NoElse
else_from (Some e) = e

abbrev pub items_from : List g.Item → g.Items
items_from [] = g.NoItems
items_from (i ∷ more) = g.AndItem i (items_from more)

-- one level of a statement, where its parts are trees of the grammar already
abbrev pub stmt_level : Stmt-F g.Item g.Stmt g.Else → g.Stmt
stmt_level (Stmt-F.Block before items after) = g.Block before (items_from items) after
stmt_level (Stmt-F.Nothing end) = g.Nothing end
stmt_level (Stmt-F.Simply simple end ops) = g.Simply (simple_view simple) end (ops_view ops)
stmt_level (Stmt-F.Jumps j) = g.Jumps (jump_view j)
stmt_level (Stmt-F.If test body other) = if_view test body (else_from other)
stmt_level (Stmt-F.While test body) = while_view test body
stmt_level (Stmt-F.For head body) = for_view head body

abbrev pub else_level : Else-F g.Item g.Stmt g.Else → g.Else
else_level x = g.ElseDo x.at x.body

abbrev pub item_level : Item-F g.Item g.Stmt g.Else → g.Item
item_level (Item-F.Declares d end ops) = g.Declares (decl_view d) end (ops_view ops)
item_level (Item-F.Does s) = g.Does s

-- a statement as a tree of the grammar
abbrev pub stmt_view : Stmt → g.Stmt
stmt_view = fold-Stmt g.Item g.Stmt g.Else item_level stmt_level else_level

abbrev pub else_view : Else → g.Else
else_view = fold-Else g.Item g.Stmt g.Else item_level stmt_level else_level

-- an item of a block as a tree of the grammar
abbrev pub item_view : Item → g.Item
item_view = fold-Item g.Item g.Stmt g.Else item_level stmt_level else_level

abbrev pub items_view : List Item → g.Items
items_view items = items_from (map item_view items)
