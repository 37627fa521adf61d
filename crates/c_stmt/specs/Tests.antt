-- What a part begins with, told by what a token is without the bytes that it carries.
use Rattle.std.specs.Prelude.{Bool, true, false, Option, Some}
use Rattle.c_grammar.specs.declared.word.Word.TheVariants as w
use Rattle.c_grammar.specs.declared.sign.Sign.TheVariants as s
use Rattle.c_cursor.specs.declared.look.Look.{Look}
use Rattle.c_cursor.specs.declared.look.Look.TheVariants as look

abbrev pub look_plain : Option Look → Bool
look_plain (Some look.Name) = true
look_plain (Some (look.Sign s.PlusPlus)) = true
look_plain (Some (look.Sign s.MinusMinus)) = true
look_plain _ = false

abbrev pub look_first : Option Look → Bool
look_first (Some look.Name) = true
look_first (Some (look.Sign s.PlusPlus)) = true
look_first (Some (look.Sign s.MinusMinus)) = true
look_first (Some (look.Word w.Int)) = true
look_first _ = false

abbrev pub look_decl : Option Look → Bool
look_decl (Some (look.Word w.Int)) = true
look_decl (Some (look.Word w.Thread)) = true
look_decl _ = false

abbrev pub look_jump : Option Look → Bool
look_jump (Some (look.Word w.Break)) = true
look_jump (Some (look.Word w.Continue)) = true
look_jump (Some (look.Word w.Return)) = true
look_jump _ = false
