-- Being joined is an equivalence of reports, and holds where guards share a node.
use Rattle.std.proofs.Common.{ℕ, Bool, List, [], ◌∷◌, ◌++◌, refl, sym, subst}
use Rattle.plan_types.specs.Classes.{Share, Leads, AreJoined}

pub joined-same : (guards : List (List Bool)) (one : ℕ) → AreJoined guards one one
joined-same guards one = ([], refl)

pub joined-share : (guards : List (List Bool)) (one other : ℕ) → Share guards one other → AreJoined guards one other
joined-share guards one other shared = (other ∷ [], (shared, refl))

pub share-back : (guards : List (List Bool)) (one other : ℕ) → Share guards one other → Share guards other one
share-back guards one other shared = (shared.0, shared.2, shared.1)

leads-on : (guards : List (List Bool)) (one other last : ℕ) (reports more : List ℕ) → Leads guards one reports other → Leads guards other more last → Leads guards one (reports ++ more) last
leads-on guards one other last [] more first second = let P : ℕ → Type 0 = λ n. Leads guards n more last in subst P (sym first) second
leads-on guards one other last (next ∷ rest) more first second = (first.0, leads-on guards next other last rest more first.1 second)

pub joined-on : (guards : List (List Bool)) (one other last : ℕ) → AreJoined guards one other → AreJoined guards other last → AreJoined guards one last
joined-on guards one other last first second = (first.0 ++ second.0, leads-on guards one other last first.0 second.0 first.1 second.1)

leads-back : (guards : List (List Bool)) (one other : ℕ) (reports : List ℕ) → Leads guards one reports other → AreJoined guards other one
leads-back guards one other [] way = ([], sym way)
leads-back guards one other (next ∷ rest) way =
    joined-on guards other next one (leads-back guards next other rest way.1)
    (joined-share guards next one (share-back guards one next way.0))

pub joined-back : (guards : List (List Bool)) (one other : ℕ) → AreJoined guards one other → AreJoined guards other one
joined-back guards one other way = leads-back guards one other way.0 way.1
