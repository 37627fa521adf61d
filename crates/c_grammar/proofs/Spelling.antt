-- Words and signs are told apart by how they are spelled.
use Rattle.std.proofs.Common.{◌≡◌, refl}
use Rattle.c_grammar.specs.declared.word.Word.{Word}
use Rattle.c_grammar.specs.declared.word.Word.TheVariants as w
use Rattle.c_grammar.specs.declared.sign.Sign.{Sign}
use Rattle.c_grammar.specs.declared.sign.Sign.TheVariants as s
use Rattle.c_grammar.specs.Token.{IsWord, IsSign}
use Rattle.c_grammar.specs.Spelling.{word_text, word_kind, sign_text, sign_kind}

pub word_spelled : (x : Word) → word_kind (word_text x) ≡ IsWord x
word_spelled w.Break = refl
word_spelled w.Continue = refl
word_spelled w.Else = refl
word_spelled w.For = refl
word_spelled w.If = refl
word_spelled w.Int = refl
word_spelled w.Long = refl
word_spelled w.Return = refl
word_spelled w.Static = refl
word_spelled w.Void = refl
word_spelled w.Volatile = refl
word_spelled w.While = refl
word_spelled w.Null = refl
word_spelled w.Printf = refl
word_spelled w.Scanf = refl
word_spelled w.Thread = refl
word_spelled w.Mutex = refl
word_spelled w.Create = refl
word_spelled w.Join = refl
word_spelled w.Lock = refl
word_spelled w.Unlock = refl
word_spelled w.MutexInitializer = refl
word_spelled w.Cond = refl
word_spelled w.CondWait = refl
word_spelled w.Signal = refl
word_spelled w.Broadcast = refl
word_spelled w.CondInitializer = refl
word_spelled w.Enter = refl
word_spelled w.Leave = refl
word_spelled w.Wait = refl
word_spelled w.Done = refl
word_spelled w.First = refl
word_spelled w.Add = refl
word_spelled w.Value = refl

pub sign_spelled : (x : Sign) → sign_kind (sign_text x) ≡ IsSign x
sign_spelled s.OpenParen = refl
sign_spelled s.CloseParen = refl
sign_spelled s.OpenBrace = refl
sign_spelled s.CloseBrace = refl
sign_spelled s.OpenBracket = refl
sign_spelled s.CloseBracket = refl
sign_spelled s.Semicolon = refl
sign_spelled s.Comma = refl
sign_spelled s.Assign = refl
sign_spelled s.Plus = refl
sign_spelled s.Minus = refl
sign_spelled s.Star = refl
sign_spelled s.Slash = refl
sign_spelled s.Percent = refl
sign_spelled s.Less = refl
sign_spelled s.Greater = refl
sign_spelled s.LessEqual = refl
sign_spelled s.GreaterEqual = refl
sign_spelled s.Equal = refl
sign_spelled s.NotEqual = refl
sign_spelled s.Not = refl
sign_spelled s.AndAnd = refl
sign_spelled s.OrOr = refl
sign_spelled s.Ampersand = refl
sign_spelled s.PlusPlus = refl
sign_spelled s.MinusMinus = refl
sign_spelled s.PlusAssign = refl
sign_spelled s.MinusAssign = refl
sign_spelled s.StarAssign = refl
sign_spelled s.SlashAssign = refl
sign_spelled s.PercentAssign = refl
sign_spelled s.Hash = refl
sign_spelled s.Dot = refl
