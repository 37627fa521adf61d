-- The tests on what a token is are those of the grammar on the token.
use Rattle.std.proofs.Common.{◌≡◌, ◌||◌, List, [], ◌∷◌, Some, refl}
use Rattle.cfix_base.specs.declared.Spot.{Spot}
use Rattle.c_grammar.specs.declared.word.Word.TheVariants as w
use Rattle.c_grammar.specs.declared.sign.Sign.TheVariants as s
use Rattle.c_grammar.specs.Token.{Kind, IsName, IsWord, IsSign, Token}
use Rattle.c_reading.specs.Reader.{begins}
use Rattle.c_reading.specs.Read.{is_word_kind, is_name_kind}
use Rattle.c_reading.specs.ReadExpr.{is_some}
use Rattle.c_reading.specs.ReadSimple.{step_in}
use Rattle.c_reading.specs.ReadStmt.{begins_plain, begins_first, begins_item, begins_item_kind, begins_decl, begins_jump}
use Rattle.c_cursor.specs.Seen.{look_of, look_at, bare_kind, passes}
use Rattle.c_cursor.proofs.Looks.{passes-begins}
use Rattle.c_stmt.specs.Tests.{look_plain, look_first, look_decl, look_jump}

plain_kind : (k : Kind) (at : Spot) → look_plain (Some (look_of k)) ≡ is_name_kind k || is_some (step_in k at)
plain_kind (IsName x) at = refl
plain_kind (IsSign s.PlusPlus) at = refl
plain_kind k at = refl

first_kind : (k : Kind) (at : Spot) → look_first (Some (look_of k)) ≡ is_word_kind w.Int k || (is_name_kind k || is_some (step_in k at))
first_kind (IsName x) at = refl
first_kind (IsSign s.PlusPlus) at = refl
first_kind (IsWord w.Int) at = refl
first_kind k at = refl

decl_kind : (k : Kind) → look_decl (Some (look_of k)) ≡ is_word_kind w.Int k || is_word_kind w.Thread k
decl_kind (IsWord w.Int) = refl
decl_kind k = refl

jump_kind : (k : Kind) → look_jump (Some (look_of k)) ≡ is_word_kind w.Break k || (is_word_kind w.Continue k || is_word_kind w.Return k)
jump_kind (IsWord w.Break) = refl
jump_kind k = refl

item_kind : (k : Kind) → begins_item_kind (bare_kind (look_of k)) ≡ begins_item_kind k
item_kind (IsName x) = refl
item_kind k = refl

pub plain_is : (ts : List Token) → look_plain (look_at ts) ≡ begins begins_plain ts
plain_is [] = refl
plain_is (t ∷ ts) = plain_kind t.kind t.spot

pub first_is : (ts : List Token) → look_first (look_at ts) ≡ begins begins_first ts
first_is [] = refl
first_is (t ∷ ts) = first_kind t.kind t.spot

pub decl_is : (ts : List Token) → look_decl (look_at ts) ≡ begins begins_decl ts
decl_is [] = refl
decl_is (t ∷ ts) = decl_kind t.kind

pub jump_is : (ts : List Token) → look_jump (look_at ts) ≡ begins begins_jump ts
jump_is [] = refl
jump_is (t ∷ ts) = jump_kind t.kind

pub item_is : (ts : List Token) → passes begins_item_kind (look_at ts) ≡ begins begins_item ts
item_is = passes-begins begins_item_kind item_kind
