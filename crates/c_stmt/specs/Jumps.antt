-- The readers of jumps, each as one.
use Rattle.std.specs.Prelude.{ℕ, List}
use Rattle.std.proofs.Common.{inr}
use Rattle.cfix_base.specs.declared.Spot.{Spot}
use Rattle.c_grammar.specs.declared.word.Word.TheVariants as w
use Rattle.c_grammar.specs.declared.sign.Sign.TheVariants as s
use Rattle.c_grammar.specs.Token.{Token}
use Rattle.c_reading.specs.Reader.{Out, seq, mapped, alt}
use Rattle.c_grammar.specs.Op as o
use Rattle.c_grammar.specs.Simple.{Value}
use Rattle.c_grammar.specs.Stmt.{Jump, BareBlock, ValueBlock}
use Rattle.c_reading.specs.Read.{is_word, read_word, read_sign}
use Rattle.c_reading.specs.ReadOp.{read_op, read_ops}
use Rattle.c_reading.specs.ReadSimple.{value_at}
use Rattle.c_raw.specs.Ops.{op_view, ops_view}
use Rattle.c_raw.specs.Simples.{value_view}
use Rattle.c_stmt.specs.declared.jump.SetValue.{SetValue}
use Rattle.c_stmt.specs.declared.jump.ReturnValue.{ReturnValue}
use Rattle.c_reading.specs.ReadStmt.{is_semicolon, read_semicolon, jump_from, jump_parts_at, BareBlockParts, ValueBlockParts, read_bare_block}

unfoldable pub jump_at : (d : ℕ) → List Token → Out Token Jump
jump_at d = mapped jump_from (jump_parts_at 200 d)

-- a `return` behind its word
unfoldable pub return_from : (d : ℕ) → Spot → List Token → Out Token Jump
return_from d at = mapped (λ tail. jump_from (inr (inr (at, tail)))) (alt (is_word w.Null) (seq (read_word w.Null) read_semicolon) (alt is_semicolon read_semicolon (seq (value_at 200 d) read_semicolon)))

abbrev pub bare_block : Spot → BareBlockParts → Jump
bare_block before x = BareBlock before x.0 x.1.0 x.1.1.0 x.1.1.1.0 x.1.1.1.1.0 x.1.1.1.1.1

abbrev pub value_block : Spot → Spot → ValueBlockParts → Jump
value_block before int x =
    ValueBlock before int x.0 x.1.0 x.1.1.0 x.1.1.1.0 x.1.1.1.1.0 x.1.1.1.1.1.0 x.1.1.1.1.1.1.0 x.1.1.1.1.1.1.1.0 x.1.1.1.1.1.1.1.1.0 x.1.1.1.1.1.1.1.1.1.0 x.1.1.1.1.1.1.1.1.1.1

-- a jump block behind its `{`
unfoldable pub bare_block_from : Spot → List Token → Out Token Jump
bare_block_from before = mapped (bare_block before) read_bare_block

-- `cfix_value = value;`
abbrev pub SetValueParts : Type 0
SetValueParts = ((Spot × Spot) × Value) × Spot

abbrev pub set_value_view : SetValue → SetValueParts
set_value_view x = (((x.name, x.set), value_view x.value), x.end)

abbrev pub set_value_at : (d : ℕ) → List Token → Out Token SetValueParts
set_value_at d = seq (seq (seq (read_word w.Value) (read_sign s.Assign)) (value_at 200 d)) read_semicolon

-- `cfix_leave(1); return cfix_value; }`
abbrev pub ReturnValueParts : Type 0
ReturnValueParts = o.Op × (Spot × (o.Ops × (Spot × (Spot × (Spot × Spot)))))

abbrev pub return_value_view : ReturnValue → ReturnValueParts
return_value_view x = (op_view x.first, (x.first_end, (ops_view x.ops, (x.at, (x.returned, (x.end, x.after))))))

abbrev pub return_value : List Token → Out Token ReturnValueParts
return_value = seq read_op (seq read_semicolon (seq read_ops (seq (read_word w.Return) (seq (read_word w.Value) (seq read_semicolon (read_sign s.CloseBrace))))))

abbrev pub value_parts : SetValueParts × ReturnValueParts → ValueBlockParts
value_parts x = (x.0.0.0.0, (x.0.0.0.1, (x.0.0.1, (x.0.1, x.1))))

-- a jump block behind its `{` and its `int`
unfoldable pub value_block_from : (d : ℕ) → Spot → Spot → List Token → Out Token Jump
value_block_from d before int = mapped (λ x. value_block before int (value_parts x)) (seq (set_value_at d) return_value)
