-- The readers of statements in the order in which the code reads: what stands behind a token that was read takes the
-- place of that token. In each reader d is how many more constructs may be nested.
use Rattle.std.specs.Prelude.{ℕ, List}
use Rattle.cfix_base.specs.declared.Spot.{Spot}
use Rattle.c_grammar.specs.declared.word.Word.{Word}
use Rattle.c_grammar.specs.declared.word.Word.TheVariants as w
use Rattle.c_grammar.specs.declared.sign.Sign.TheVariants as s
use Rattle.c_grammar.specs.Token.{Token}
use Rattle.c_reading.specs.Reader.{Out, next, seq, map_out, mapped, begins, either}
use Rattle.c_reading.specs.Read.{is_word, is_sign, read_word, read_sign, listed}
use Rattle.c_reading.specs.ReadOp.{is_verb, read_ops}
use Rattle.c_reading.specs.ReadSimple.{simple_at}
use Rattle.c_reading.specs.ReadDecl.{local_at}
use Rattle.c_reading.specs.ReadCond.{cond_at}
use Rattle.c_grammar.specs.Cond.{Cond}
use Rattle.c_grammar.specs.Decl as g
use Rattle.c_grammar.specs.Decl.{Ints}
use Rattle.c_grammar.specs.Op.{Ops}
use Rattle.c_grammar.specs.Stmt.{Stmt, Block, Nothing, Simply, Jumps, NoItems, AndItem, Items, Item, Declares}
use Rattle.c_reading.specs.ReadStmt.{is_semicolon, read_semicolon, begins_jump, item_with, items_with, other_item_from, other_item_with, ElseParts, else_tail_with, IfParts, if_from, WhileParts, while_from, for_from, for_with, SimplyParts, stmt_at}
use Rattle.c_raw.specs.declared.stmt.Test.{Test}
use Rattle.c_raw.specs.Conds.{cond_view}
use Rattle.c_stmt.specs.Jumps.{jump_at, bare_block_from, value_block_from}

unfoldable pub item_at : (d : ℕ) → List Token → Out Token Item
item_at d = item_with 200 d (stmt_at 200 d)

unfoldable pub items_at : (d : ℕ) → List Token → Out Token Items
items_at d = items_with 200 d (stmt_at 200 d)

-- `if (cond)` or `while (cond)`
abbrev pub TestParts : Type 0
TestParts = ((Spot × Spot) × Cond) × Spot

abbrev pub test_view : Test → TestParts
test_view t = (((t.at, t.before), cond_view t.cond), t.after)

abbrev pub test_at : Word → (d : ℕ) → List Token → Out Token TestParts
test_at word d = seq (seq (seq (read_word word) (read_sign s.OpenParen)) (cond_at 200 d)) (read_sign s.CloseParen)

abbrev pub if_parts : TestParts × (Stmt × ElseParts) → IfParts
if_parts x = (x.0.0.0.0, (x.0.0.0.1, (x.0.0.1, (x.0.1, x.1))))

unfoldable pub if_at : (d : ℕ) → List Token → Out Token Stmt
if_at d = mapped (λ x. if_from (if_parts x)) (seq (test_at w.If d) (else_tail_with (stmt_at 200 d)))

abbrev pub while_parts : TestParts × Stmt → WhileParts
while_parts x = (x.0.0.0.0, (x.0.0.0.1, (x.0.0.1, (x.0.1, x.1))))

unfoldable pub while_at : (d : ℕ) → List Token → Out Token Stmt
while_at d = mapped (λ x. while_from (while_parts x)) (seq (test_at w.While d) (stmt_at 200 d))

unfoldable pub for_at : (d : ℕ) → List Token → Out Token Stmt
for_at d = mapped for_from (for_with 200 d (stmt_at 200 d))

abbrev pub simply_from : SimplyParts → Stmt
simply_from x = Simply x.0 x.1.0 x.1.1

unfoldable pub simply_at : (d : ℕ) → List Token → Out Token Stmt
simply_at d = mapped simply_from (seq (simple_at 200 d) (seq read_semicolon read_ops))

-- the first item of a block, which declares no `int`
unfoldable pub other_item_at : (d : ℕ) → List Token → Out Token Item
other_item_at d = mapped other_item_from (other_item_with (stmt_at 200 d))

-- the first item of a block, behind its `int`
abbrev pub int_item : Spot → ((g.LocalInt × List (Spot × g.LocalInt)) × Spot) × Ops → Item
int_item int x = Declares (Ints int x.0.0.0 x.0.0.1) x.0.1 x.1

unfoldable pub int_item_at : (d : ℕ) → Spot → List Token → Out Token Item
int_item_at d int = mapped (int_item int) (seq (seq (listed (local_at 200 d)) read_semicolon) read_ops)

abbrev pub items_block : Spot → Item × (Items × Spot) → Stmt
items_block before x = Block before (AndItem x.0 x.1.0) x.1.1

-- a block behind its `{` and the `int` of its first item
unfoldable pub ints_block_from : (d : ℕ) → Spot → Spot → List Token → Out Token Stmt
ints_block_from d before int = mapped (items_block before) (seq (int_item_at d int) (seq (items_at d) (read_sign s.CloseBrace)))

-- a block or a jump block behind its `{`, which goes on with an `int`
unfoldable pub int_block_from : (d : ℕ) → Spot → List Token → Out Token Stmt
int_block_from d before ts = next (read_word w.Int ts) (λ int r. either (begins (is_word w.Value) r) (map_out Jumps (value_block_from d before int r)) (ints_block_from d before int r))

-- a block behind its `{`, which does not go on with an `int`
unfoldable pub block_from : (d : ℕ) → Spot → List Token → Out Token Stmt
block_from d before ts = either (begins (is_sign s.CloseBrace) ts) (map_out (λ after. Block before NoItems after) (read_sign s.CloseBrace ts))
    (map_out (items_block before) (seq (other_item_at d) (seq (items_at d) (read_sign s.CloseBrace)) ts))

-- a block or a jump block behind its `{`
unfoldable pub inside_from : (d : ℕ) → Spot → List Token → Out Token Stmt
inside_from d before ts = either (begins is_verb ts) (map_out Jumps (bare_block_from before ts)) (either (begins (is_word w.Int) ts) (int_block_from d before ts) (block_from d before ts))

unfoldable pub brace_at : (d : ℕ) → List Token → Out Token Stmt
brace_at d ts = next (read_sign s.OpenBrace ts) (inside_from d)

-- a statement with no other one in it
unfoldable pub flat_at : (d : ℕ) → List Token → Out Token Stmt
flat_at d ts = either (begins is_semicolon ts) (map_out Nothing (read_semicolon ts)) (either (begins begins_jump ts) (map_out Jumps (jump_at d ts)) (simply_at d ts))
