-- Reading operations.
use Rattle.std.specs.Prelude.{Bool, List, Option, Some, None}
use Rattle.cfix_base.specs.declared.Spot.{Spot}
use Rattle.c_grammar.specs.declared.word.Word.TheVariants as w
use Rattle.c_grammar.specs.declared.sign.Sign.TheVariants as s
use Rattle.c_reading.specs.Reader.{Out, one_of, seq, mapped, many}
use Rattle.c_grammar.specs.Token.{Kind, IsWord, Token, Numeral}
use Rattle.c_grammar.specs.Op.{Verb, Enter, Leave, Wait, Done, First, Add, Op, OpOf, Ops}
use Rattle.c_reading.specs.Read.{read_sign, read_numeral}
use Rattle.c_reading.specs.ReadExpr.{is_some}

abbrev pub verb_in : Kind → Spot → Option (Verb × Spot)
verb_in (IsWord w.Enter) at = Some (Enter, at)
verb_in (IsWord w.Leave) at = Some (Leave, at)
verb_in (IsWord w.Wait) at = Some (Wait, at)
verb_in (IsWord w.Done) at = Some (Done, at)
verb_in (IsWord w.First) at = Some (First, at)
verb_in (IsWord w.Add) at = Some (Add, at)
verb_in _ at = None

abbrev pub verb_of : Token → Option (Verb × Spot)
verb_of t = verb_in t.kind t.spot

abbrev pub is_verb : Token → Bool
is_verb t = is_some (verb_of t)

abbrev pub OpParts : Type 0
OpParts = (Verb × Spot) × (Spot × (Numeral × Spot))

abbrev pub op_from : OpParts → Op
op_from x = OpOf x.0.0 x.0.1 x.1.0 x.1.1.0 x.1.1.1

abbrev pub read_op : List Token → Out Token Op
read_op = mapped op_from (seq (one_of verb_of) (seq (read_sign s.OpenParen) (seq read_numeral (read_sign s.CloseParen))))

-- { op ";" }
abbrev pub read_ops : List Token → Out Token Ops
read_ops = many is_verb (seq read_op (read_sign s.Semicolon))
