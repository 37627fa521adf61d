-- What is found in the next token, from what the token is.
use Rattle.std.specs.Prelude.{option_map}
use Rattle.std.proofs.Common.{◌≡◌, ℕ, List, [], ◌∷◌, Option, Some, None, refl, sym, ap, ◌∙◌}
use Rattle.cfix_base.specs.declared.Spot.{Spot}
use Rattle.c_grammar.specs.declared.word.Word.TheVariants as w
use Rattle.c_grammar.specs.declared.sign.Sign.TheVariants as s
use Rattle.c_reading.specs.Reader.{begins}
use Rattle.c_grammar.specs.Token.{Kind, IsWord, IsSign, Token}
use Rattle.c_reading.specs.ReadExpr.{prefix_in, binary_in, begins_expr_kind, begins_expr}
use Rattle.c_reading.specs.ReadSimple.{change_in, step_in}
use Rattle.c_reading.specs.ReadOp.{verb_in}
use Rattle.c_cursor.specs.declared.look.Look.{Look}
use Rattle.c_cursor.specs.Seen.{look_of, look_at, Next}
use Rattle.c_raw.specs.Exprs.{prefix_view, binary_view}
use Rattle.c_raw.specs.Simples.{change_view, step_view}
use Rattle.c_raw.specs.Ops.{verb_view}
use Rattle.c_expr.specs.Finds.{Finds}
use Rattle.c_expr.specs.Signs.{prefix_look, binary_look, change_look, step_look, verb_look, begins_expr_look}

-- ---- one test for all classes of signs

module _ {X B : Type 0} (view : X → B) (raw : Look → Option X) (by : Kind → Spot → Option (B × Spot)) (same : (k : Kind) (at : Spot) → by k at ≡ option_map (λ x. (view x, at)) (raw (look_of k))) where
  abbrev by_token : Token → Option (B × Spot)
  by_token t = by t.kind t.spot

  abbrev placed : X × Spot → B × Spot
  placed x = (view x.0, x.1)

  found : (t : Token) (x : X) → raw (look_of t.kind) ≡ Some x → by t.kind t.spot ≡ Some (view x, t.spot)
  found t x e = same t.kind t.spot ∙ ap (λ (z : Option X). option_map (λ y. (view y, t.spot)) z) e

  missed : (t : Token) → raw (look_of t.kind) ≡ None → by t.kind t.spot ≡ None
  missed t e = same t.kind t.spot ∙ ap (λ (z : Option X). option_map (λ y. (view y, t.spot)) z) e

  pub finds : (ts : List Token) (at : ℕ) (l : Look) (spot : Spot) (next : ℕ) (x : X) → Next ts at (Some (l, spot, next)) → raw l ≡ Some x → Finds placed by_token ts at (Some ((x, spot), next))
  finds ts at l spot next x n e =
      let f = found n.0 x (ap raw n.2 ∙ e) in
      (rw (n.1, f) refl, rw (n.1, f, n.3) refl)

  pub finds-none : (ts : List Token) (at : ℕ) (l : Look) (spot : Spot) (next : ℕ) → Next ts at (Some (l, spot, next)) → raw l ≡ None → Finds placed by_token ts at None
  finds-none ts at l spot next n e = let f = missed n.0 (ap raw n.2 ∙ e) in (rw (n.1, f) refl, rw (n.1, f) refl)

  pub finds-end : (ts : List Token) (at : ℕ) → Next ts at None → Finds placed by_token ts at None
  finds-end ts at n = (rw n refl, rw n refl)

pub prefix-same : (k : Kind) (at : Spot) → prefix_in k at ≡ option_map (λ x. (prefix_view x, at)) (prefix_look (look_of k))
prefix-same (IsSign s.Minus) at = refl
prefix-same (IsSign s.Not) at = refl
prefix-same _ at = refl

pub binary-same : (k : Kind) (at : Spot) → binary_in k at ≡ option_map (λ x. (binary_view x, at)) (binary_look (look_of k))
binary-same (IsSign s.OrOr) at = refl
binary-same (IsSign s.AndAnd) at = refl
binary-same _ at = refl

pub change-same : (k : Kind) (at : Spot) → change_in k at ≡ option_map (λ x. (change_view x, at)) (change_look (look_of k))
change-same (IsSign s.PlusAssign) at = refl
change-same _ at = refl

pub step-same : (k : Kind) (at : Spot) → step_in k at ≡ option_map (λ x. (step_view x, at)) (step_look (look_of k))
step-same (IsSign s.PlusPlus) at = refl
step-same _ at = refl

pub verb-same : (k : Kind) (at : Spot) → verb_in k at ≡ option_map (λ x. (verb_view x, at)) (verb_look (look_of k))
verb-same (IsWord w.Enter) at = refl
verb-same _ at = refl

begins-same : (k : Kind) → begins_expr_look (look_of k) ≡ begins_expr_kind k
begins-same (IsSign s.OpenParen) = refl
begins-same _ = refl

pub begins-some : (ts : List Token) (l : Look) → look_at ts ≡ Some l → begins_expr_look l ≡ begins begins_expr ts
begins-some [] l e = absurd cc
begins-some (t ∷ ts) l e = let h : look_of t.kind ≡ l = cc in ap begins_expr_look (sym h) ∙ begins-same t.kind
