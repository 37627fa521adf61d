-- Operations, as trees of the grammar.
use Rattle.std.specs.Prelude.{List, map}
use Rattle.cfix_base.specs.declared.Spot.{Spot}
use Rattle.c_raw.specs.declared.op.Verb.{Verb}
use Rattle.c_raw.specs.declared.op.Verb.TheVariants as verb
use Rattle.c_raw.specs.declared.op.Op.{Op}
use Rattle.c_raw.specs.Tokens.{numeral_view}
use Rattle.c_grammar.specs.Op as g

abbrev pub verb_view : Verb → g.Verb
verb_view verb.Enter = g.Enter
verb_view verb.Leave = g.Leave
verb_view verb.Wait = g.Wait
verb_view verb.Done = g.Done
verb_view verb.First = g.First
verb_view verb.Add = g.Add

abbrev pub op_view : Op → g.Op
op_view o = g.OpOf (verb_view o.verb) o.at o.before (numeral_view o.number) o.after

-- operations, each with the token behind it: a semicolon, or a comma in a guard
abbrev pub ops_view : List (Op × Spot) → List (g.Op × Spot)
ops_view ops = map (λ x. (op_view x.0, x.1)) ops

-- operations, each with the comma before it
abbrev pub more_ops_view : List (Spot × Op) → List (Spot × g.Op)
more_ops_view ops = map (λ x. (x.0, op_view x.1)) ops
