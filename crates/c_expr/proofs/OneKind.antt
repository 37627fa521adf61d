-- A token is of one kind only.
use Rattle.std.proofs.Common.{◌≡◌, true, false, List, [], ◌∷◌, refl}
use Rattle.c_grammar.specs.declared.sign.Sign.TheVariants as s
use Rattle.c_reading.specs.Reader.{begins}
use Rattle.c_grammar.specs.Token.{Kind, IsName, IsSign, Token}
use Rattle.c_reading.specs.Read.{is_name_kind, is_number_kind, is_sign_kind, is_sign, is_name, is_number}
use Rattle.c_reading.specs.ReadExpr.{is_some, prefix_in, is_prefix}
use Rattle.cfix_base.specs.declared.Spot.{Spot}

name_no_prefix : (k : Kind) (at : Spot) → is_name_kind k ≡ true → is_some (prefix_in k at) ≡ false
name_no_prefix (IsName x) at e = refl
name_no_prefix _ at e = absurd cc

name_no_number : (k : Kind) → is_name_kind k ≡ true → is_number_kind k ≡ false
name_no_number (IsName x) e = refl
name_no_number _ e = absurd cc

paren_no_prefix : (k : Kind) (at : Spot) → is_sign_kind s.OpenParen k ≡ true → is_some (prefix_in k at) ≡ false
paren_no_prefix (IsSign s.OpenParen) at e = refl
paren_no_prefix _ at e = absurd cc

paren_no_number : (k : Kind) → is_sign_kind s.OpenParen k ≡ true → is_number_kind k ≡ false
paren_no_number (IsSign x) e = refl
paren_no_number _ e = absurd cc

paren_no_name : (k : Kind) → is_sign_kind s.OpenParen k ≡ true → is_name_kind k ≡ false
paren_no_name (IsSign x) e = refl
paren_no_name _ e = absurd cc

pub name-prefix : (ts : List Token) → begins is_name ts ≡ true → begins is_prefix ts ≡ false
name-prefix [] e = refl
name-prefix (t ∷ ts) e = name_no_prefix t.kind t.spot e

pub name-number : (ts : List Token) → begins is_name ts ≡ true → begins is_number ts ≡ false
name-number [] e = refl
name-number (t ∷ ts) e = name_no_number t.kind e

pub paren-prefix : (ts : List Token) → begins (is_sign s.OpenParen) ts ≡ true → begins is_prefix ts ≡ false
paren-prefix [] e = refl
paren-prefix (t ∷ ts) e = paren_no_prefix t.kind t.spot e

pub paren-number : (ts : List Token) → begins (is_sign s.OpenParen) ts ≡ true → begins is_number ts ≡ false
paren-number [] e = refl
paren-number (t ∷ ts) e = paren_no_number t.kind e

pub paren-name : (ts : List Token) → begins (is_sign s.OpenParen) ts ≡ true → begins is_name ts ≡ false
paren-name [] e = refl
paren-name (t ∷ ts) e = paren_no_name t.kind e
