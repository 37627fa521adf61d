-- Binary operators and their operands: each step of the loop.
use Rattle.std.proofs.Common.{◌≡◌, ◌≢◌, ℕ, zero, suc, ltb, ◌+◌, ◌-◌, ◌≤◌, Bool, true, false, List, refl, ap, ◌∙◌, arith, inl, inr, cond}
use Rattle.cfix_base.specs.declared.Spot.{Spot}
use Rattle.c_reading.specs.Reader.{Fault, Deep, Out, Got, Stop, next, map_out, one_of, begins, either, glue, chain}
use Rattle.c_grammar.specs.Token.{Token}
use Rattle.c_grammar.specs.Expr.{Binary, level, Expr, Number, Name, Index, Paren, Cast, Unary, Operation}
use Rattle.c_reading.specs.ReadExpr.{is_binary, binary_of, operators, Link, append, grow, group, link_with, links_with, unary_at, expr_at}
use Rattle.c_expr.specs.Parts.{chain_at}
use Rattle.c_expr.proofs.Outs.{next-same}

-- one operator more
pub operators-append : (e : Expr) (op : Binary) (at : Spot) (u : Expr) → operators (append e op at u) ≡ operators e + suc (operators u)
operators-append (Operation a op1 at1 b) op at u = by (ltb (level op1) (level op)) (operators-append b op at u)
  where
    by : (v : Bool) → operators (append b op at u) ≡ operators b + suc (operators u)
        → operators (cond v (Operation a op1 at1 (append b op at u)) (Operation (Operation a op1 at1 b) op at u)) ≡ operators a + suc (operators b) + suc (operators u)
    by true h = omega arith
    by false h = refl
operators-append (Number n) op at u = refl
operators-append (Name x) op at u = refl
operators-append (Index x before e after) op at u = refl
operators-append (Paren before e after) op at u = refl
operators-append (Cast before int after long x) op at u = refl
operators-append (Unary p at1 e) op at u = refl

module _ (unary : ℕ → List Token → Out Token Expr) where
  abbrev links : (fuel n : ℕ) → List Token → Out Token (List Link)
  links fuel n = chain (λ x. operators x.1) fuel n is_binary (λ k. link_with k unary)

  -- the fuel does not matter where there is enough
  fuel_same : (bound f g n : ℕ) → n ≤ bound → n ≤ f → n ≤ g → (ts : List Token) → links f n ts ≡ links g n ts
  fuel_same bound zero zero zero h hf hg ts = refl
  fuel_same bound zero (suc g) zero h hf hg ts = refl
  fuel_same bound (suc f) zero zero h hf hg ts = refl
  fuel_same bound (suc f) (suc g) zero h hf hg ts = refl
  fuel_same bound zero g (suc n) h hf hg ts = absurd (omega arith)
  fuel_same bound f zero (suc n) h hf hg ts = absurd (omega arith)
  fuel_same zero f g (suc n) h hf hg ts = absurd (omega arith)
  fuel_same (suc bound) (suc f) (suc g) (suc n) h hf hg ts =
      ap (λ (o : Out Token (Link × List Link)). map_out glue (either (begins is_binary ts) (map_out inl o) (map_out inr (Got tt ts))))
      (next-same (link_with (suc n) unary ts) _ _ (λ a r. ap (λ (o : Out Token (List Link)). next o (λ b s. Got (a, b) s)) (fuel_same bound f g (suc n - suc (operators a.1)) (omega arith) (omega arith) (omega arith) r)))

module _ (e : Expr) (d n : ℕ) (ts : List Token) where
  pub chain-end : begins is_binary ts ≡ false → chain_at e d n ts ≡ Got e ts
  chain-end h = by n
    where
      by : (n : ℕ) → chain_at e d n ts ≡ Got e ts
      by zero = rw h refl
      by (suc n) = rw h refl

  pub chain-deep : begins is_binary ts ≡ true → n ≡ 0 → chain_at e d n ts ≡ Stop Deep ts
  chain-deep h z = rw (z, h) refl

module _ (e : Expr) (d : ℕ) (ts r : List Token) (op : Binary × Spot) (begun : begins is_binary ts ≡ true) (read : one_of binary_of ts ≡ Got op r) where
  step : (n m : ℕ) (u : Expr) (t : List Token) → n ≡ suc m → unary_at d m r ≡ Got u t → chain_at e d n ts ≡ chain_at (append e op.0 op.1 u) d (m - operators u) t
  step n m u t h k =
      rw (h, begun, read, k) (by (links (λ k. unary_at d k) m (suc m - suc (operators u)) t) ∙ ap (map_out (grow (append e op.0 op.1 u))) fewer)
    where
      by : (o : Out Token (List Link)) → map_out (grow e) (map_out glue (map_out inl (next o (λ b s. Got ((op, u), b) s)))) ≡ map_out (grow (append e op.0 op.1 u)) o
      by (Got more s) = refl
      by (Stop f s) = refl

      less : suc m - suc (operators u) ≡ m - operators u
      less = omega arith

      fewer : links (λ k. unary_at d k) m (suc m - suc (operators u)) t ≡ links_with (m - operators u) (λ k. unary_at d k) t
      fewer = rw less (fuel_same (λ k. unary_at d k) m m (m - operators u) (m - operators u) (omega arith) (omega arith) (omega arith) t)

  stop : (n m : ℕ) (f : Fault) (t : List Token) → n ≡ suc m → unary_at d m r ≡ Stop f t → chain_at e d n ts ≡ Stop f t
  stop n m f t h k = rw (h, begun, read, k) refl

  pub chain-step : (n : ℕ) (u : Expr) (t : List Token) → n ≢ 0 → unary_at d (n - 1) r ≡ Got u t → chain_at e d n ts ≡ chain_at (append e op.0 op.1 u) d (n - 1 - operators u) t
  chain-step n u t h k = step n (n - 1) u t (omega arith) k

  pub chain-stop : (n : ℕ) (f : Fault) (t : List Token) → n ≢ 0 → unary_at d (n - 1) r ≡ Stop f t → chain_at e d n ts ≡ Stop f t
  chain-stop n f t h k = stop n (n - 1) f t (omega arith) k

-- an expression is an operand and what stands behind it
pub expr-is : (d n : ℕ) (ts : List Token) → expr_at d n ts ≡ next (unary_at d n ts) (λ u r. chain_at u d (n - operators u) r)
unfolding expr_at
expr-is d n ts = by (unary_at d n ts)
  where
    inner : (u : Expr) (o : Out Token (List Link)) → map_out group (next o (λ b s. Got (u, b) s)) ≡ map_out (grow u) o
    inner u (Got more s) = refl
    inner u (Stop f s) = refl

    by : (o : Out Token Expr) → map_out group (next o (λ u r. next (links_with (n - operators u) (λ k. unary_at d k) r) (λ b s. Got (u, b) s))) ≡ next o (λ u r. chain_at u d (n - operators u) r)
    by (Got u r) = inner u (links_with (n - operators u) (λ k. unary_at d k) r)
    by (Stop f r) = refl

pub expr-got : (d n k : ℕ) (ts r : List Token) (u : Expr) → unary_at d n ts ≡ Got u r → k ≡ n - operators u → expr_at d n ts ≡ chain_at u d k r
expr-got d n k ts r u h e = expr-is d n ts ∙ rw (h, e) refl

pub expr-stop : (d n : ℕ) (ts r : List Token) (f : Fault) → unary_at d n ts ≡ Stop f r → expr_at d n ts ≡ Stop f r
expr-stop d n ts r f h = expr-is d n ts ∙ rw h refl
