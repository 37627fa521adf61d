-- The tokens of a text as the grammar speaks of them.
use Rattle.std.specs.Prelude.{◌≡◌, ℕ, ℤ, Bool, false, drop, List, [], ◌∷◌, Option, Some, None}
use Rattle.cfix_base.specs.declared.Spot.{Spot}
use Rattle.c_grammar.specs.Token as g
use Rattle.c_grammar.specs.Token.{Token}
use Rattle.c_cursor.specs.declared.look.Look.{Look}
use Rattle.c_cursor.specs.declared.look.Look.TheVariants as look

-- tokens, and where the text ends
pub record Source : Type 0 where
  pub tokens : List Token
  pub end : Spot

-- what a token is, without the bytes that it carries
abbrev pub look_of : g.Kind → Look
look_of (g.IsName text) = look.Name
look_of (g.IsNumber n) = look.Number n
look_of (g.IsQuoted bytes) = look.Quoted
look_of (g.IsWord w) = look.Word w
look_of (g.IsOther text) = look.Other
look_of (g.IsSign s) = look.Sign s

-- a kind that looks so, without bytes
abbrev pub bare_kind : Look → g.Kind
bare_kind look.Name = g.IsName []
bare_kind (look.Number n) = g.IsNumber n
bare_kind look.Quoted = g.IsQuoted []
bare_kind (look.Word w) = g.IsWord w
bare_kind look.Other = g.IsOther []
bare_kind (look.Sign s) = g.IsSign s

-- whether there is a token whose kind passes a test that looks at no bytes
abbrev pub passes : (g.Kind → Bool) → Option Look → Bool
passes test None = false
passes test (Some l) = test (bare_kind l)

-- what the first token is, if there is one
abbrev pub look_at : List Token → Option Look
look_at [] = None
look_at (t ∷ more) = Some (look_of t.kind)

abbrev pub number_in : g.Kind → Option ℤ
number_in (g.IsNumber n) = Some n
number_in _ = None

-- the value of the first token, if it is a number
abbrev pub number_at : List Token → Option ℤ
number_at [] = None
number_at (t ∷ more) = number_in t.kind

-- where the first token stands, or else the text's end
abbrev pub spot_at : Spot → List Token → Spot
spot_at end [] = end
spot_at end (t ∷ more) = t.spot

-- The next token is this, stands at this place, and has this place behind it; or there is none.
abbrev pub Next : List Token → ℕ → Option (Look × Spot × ℕ) → Type 0
Next ts at None = drop at ts ≡ []
Next ts at (Some x) = (t : Token) × (drop at ts ≡ t ∷ drop x.2 ts) × (look_of t.kind ≡ x.0) × (t.spot ≡ x.1)
