use Rattle.std.proofs.Common.{arith}
use Rattle.c_lex.proofs.TextBytes.{bytes_fit, answer_lexed}
use Rattle.c_lex.proofs.Divisions.{one_division}
use Rattle.c_lex.proofs.Exact.{answer_tokens, answer_whole, answer_fault, answer_faulty}
use Rattle.c_lex.proofs.lexing.lex.Goals as goal

pub returns : goal.returns
returns c = record {
  divided = one_division c.args.text.now;
  tokens = answer_tokens c.args.text.now c.read_pieces.result c.read_pieces.ensures;
  are_lexed = answer_lexed c.args.text.now c.read_pieces.result c.read_pieces.ensures (bytes_fit c.args.text.now (λ place. omega (arith, c.type_inv.text place)));
  whole = answer_whole c.args.text.now c.read_pieces.result c.read_pieces.ensures;
  fault = answer_fault c.args.text.now c.read_pieces.result c.read_pieces.ensures;
  faulty = answer_faulty c.args.text.now c.read_pieces.result c.read_pieces.ensures;
}
