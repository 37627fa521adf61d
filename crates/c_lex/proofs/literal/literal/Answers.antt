use Rattle.std.proofs.Common.{List, ℕ, ◌∷◌, sym, subst}
use Rattle.c_lex.proofs.Literals.{Read, value_turn}
use Rattle.c_lex.proofs.literal.literal.Goals as goal

pub characters-preserved : goal.characters-preserved
characters-preserved c =
    let here : Read c.args.after.now c.characters.value (c.in-Some.byte.now ∷ c.in-Some.behind.now) c.characters.escaped =
    subst (λ (z : List ℕ). Read c.args.after.now c.characters.value z c.characters.escaped) c.in-Some.ensures.cases.0 c.characters.invariant in
    rw c.in_ok-push-in-Value.ensures.pushed (value_turn _ _ _ _ _ _ (sym c.in-Value.ensures) here)
