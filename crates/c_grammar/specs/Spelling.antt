-- How words and signs are spelled.
use Rattle.std.specs.Prelude.{ℕ, List, [], ◌∷◌, cond, codes}
use Rattle.std.specs.Str.{bytes_eq}
use Rattle.c_grammar.specs.declared.word.Word.{Word}
use Rattle.c_grammar.specs.declared.word.Word.TheVariants as w
use Rattle.c_grammar.specs.declared.sign.Sign.{Sign}
use Rattle.c_grammar.specs.declared.sign.Sign.TheVariants as s
use Rattle.c_grammar.specs.Token.{Kind, IsWord, IsOther, IsSign}

abbrev pub word_text : Word → List ℕ
word_text w.Break = codes "break"
word_text w.Continue = codes "continue"
word_text w.Else = codes "else"
word_text w.For = codes "for"
word_text w.If = codes "if"
word_text w.Int = codes "int"
word_text w.Long = codes "long"
word_text w.Return = codes "return"
word_text w.Static = codes "static"
word_text w.Void = codes "void"
word_text w.Volatile = codes "volatile"
word_text w.While = codes "while"
word_text w.Null = codes "NULL"
word_text w.Printf = codes "printf"
word_text w.Scanf = codes "scanf"
word_text w.Thread = codes "pthread_t"
word_text w.Mutex = codes "pthread_mutex_t"
word_text w.Create = codes "pthread_create"
word_text w.Join = codes "pthread_join"
word_text w.Lock = codes "pthread_mutex_lock"
word_text w.Unlock = codes "pthread_mutex_unlock"
word_text w.MutexInitializer = codes "PTHREAD_MUTEX_INITIALIZER"
word_text w.Cond = codes "pthread_cond_t"
word_text w.CondWait = codes "pthread_cond_wait"
word_text w.Signal = codes "pthread_cond_signal"
word_text w.Broadcast = codes "pthread_cond_broadcast"
word_text w.CondInitializer = codes "PTHREAD_COND_INITIALIZER"
word_text w.Enter = codes "cfix_enter"
word_text w.Leave = codes "cfix_leave"
word_text w.Wait = codes "cfix_wait"
word_text w.Done = codes "cfix_done"
word_text w.First = codes "cfix_first"
word_text w.Add = codes "cfix_add"
word_text w.Value = codes "cfix_value"

abbrev pub words : List Word
words = w.Break ∷ w.Continue ∷ w.Else ∷ w.For ∷ w.If ∷ w.Int ∷ w.Long ∷ w.Return ∷ w.Static ∷ w.Void ∷ w.Volatile ∷ w.While ∷ w.Null ∷ w.Printf ∷ w.Scanf ∷ w.Thread ∷ w.Mutex ∷ w.Create ∷ w.Join ∷ w.Lock ∷ w.Unlock ∷ w.MutexInitializer ∷ w.Cond ∷ w.CondWait ∷ w.Signal ∷ w.Broadcast ∷ w.CondInitializer ∷ w.Enter ∷ w.Leave ∷ w.Wait ∷ w.Done ∷ w.First ∷ w.Add ∷ w.Value ∷ []

abbrev pub sign_text : Sign → List ℕ
sign_text s.OpenParen = codes "("
sign_text s.CloseParen = codes ")"
sign_text s.OpenBrace = codes "{"
sign_text s.CloseBrace = codes "}"
sign_text s.OpenBracket = codes "["
sign_text s.CloseBracket = codes "]"
sign_text s.Semicolon = codes ";"
sign_text s.Comma = codes ","
sign_text s.Assign = codes "="
sign_text s.Plus = codes "+"
sign_text s.Minus = codes "-"
sign_text s.Star = codes "*"
sign_text s.Slash = codes "/"
sign_text s.Percent = codes "%"
sign_text s.Less = codes "<"
sign_text s.Greater = codes ">"
sign_text s.LessEqual = codes "<="
sign_text s.GreaterEqual = codes ">="
sign_text s.Equal = codes "=="
sign_text s.NotEqual = codes "!="
sign_text s.Not = codes "!"
sign_text s.AndAnd = codes "&&"
sign_text s.OrOr = codes "||"
sign_text s.Ampersand = codes "&"
sign_text s.PlusPlus = codes "++"
sign_text s.MinusMinus = codes "--"
sign_text s.PlusAssign = codes "+="
sign_text s.MinusAssign = codes "-="
sign_text s.StarAssign = codes "*="
sign_text s.SlashAssign = codes "/="
sign_text s.PercentAssign = codes "%="
sign_text s.Hash = codes "#"
sign_text s.Dot = codes "."

abbrev pub signs : List Sign
signs = s.OpenParen ∷ s.CloseParen ∷ s.OpenBrace ∷ s.CloseBrace ∷ s.OpenBracket ∷ s.CloseBracket ∷ s.Semicolon ∷ s.Comma ∷ s.Assign ∷ s.Plus ∷ s.Minus ∷ s.Star ∷ s.Slash ∷ s.Percent ∷ s.Less ∷ s.Greater ∷ s.LessEqual ∷ s.GreaterEqual ∷ s.Equal ∷ s.NotEqual ∷ s.Not ∷ s.AndAnd ∷ s.OrOr ∷ s.Ampersand ∷ s.PlusPlus ∷ s.MinusMinus ∷ s.PlusAssign ∷ s.MinusAssign ∷ s.StarAssign ∷ s.SlashAssign ∷ s.PercentAssign ∷ s.Hash ∷ s.Dot ∷ []

abbrev pub word_among : List Word → List ℕ → Kind
word_among [] text = IsOther text
word_among (x ∷ more) text = cond (bytes_eq text (word_text x)) (IsWord x) (word_among more text)

-- the kind of a word that is spelled so
abbrev pub word_kind : List ℕ → Kind
word_kind = word_among words

abbrev pub sign_among : List Sign → List ℕ → Kind
sign_among [] text = IsOther text
sign_among (x ∷ more) text = cond (bytes_eq text (sign_text x)) (IsSign x) (sign_among more text)

-- the kind of a sign that is spelled so
abbrev pub sign_kind : List ℕ → Kind
sign_kind = sign_among signs
