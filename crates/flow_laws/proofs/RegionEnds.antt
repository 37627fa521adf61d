-- A path splits at each of its nodes.
use Rattle.std.proofs.Common.{ℕ, List, [], ◌∷◌, false, inl, inr, refl, sym, subst}
use Rattle.std.specs.List.{Contains}
use Rattle.std.proofs.lemmas.List.Elements.{Contains-append_cases, Contains-push_cases}
use Rattle.flow_graph.specs.Flow.{Edge}
use Rattle.flow_graph.specs.Paths.{Path, Comes, OnPath}
use Rattle.flow_graph.specs.Regions.{InRegion}
use Rattle.walks.proofs.Walks.{nothing_in}
use Rattle.flow_laws.specs.RegionEnds.{HasEnds}

module _ (edges : List Edge) where
  record Parts (u v n : ℕ) : Type 0 where
    before : List ℕ
    after : List ℕ
    first : Path edges u before n
    second : Path edges n after v

  split : (u v n : ℕ) (inner : List ℕ) → Path edges u inner v → Contains inner n → Parts u v n
  split u v n [] path here = absurd (nothing_in n here)
  split u v n (m ∷ rest) path here = elim (Contains-append_cases (m ∷ []) rest n here) [
    | inl first ↦ elim (Contains-push_cases [] m n first) [
      | inl none ↦ absurd (nothing_in n none)
      | inr same ↦ subst (Parts u v) same (record { before = []; after = rest; first = path.0; second = path.1 })
    ]
    | inr later ↦
        let parts = split m v n rest path.1 later in
        record { before = m ∷ parts.before; after = parts.after; first = (path.0, parts.first); second = parts.second }
  ]

  from : (u v n : ℕ) (on : OnPath edges u v n) → Comes edges u n
  from u v n on = elim on.on [
    | inl is_u ↦ inl is_u
    | inr other ↦ elim other [
      | inl is_v ↦ inr (on.inner, subst (Path edges u on.inner) (sym is_v) on.path)
      | inr here ↦ let parts = split u v n on.inner on.path here in inr (parts.before, parts.first)
    ]
  ]

  to : (u v n : ℕ) (on : OnPath edges u v n) → Comes edges n v
  to u v n on = elim on.on [
    | inl is_u ↦ inr (on.inner, subst (λ m. Path edges m on.inner v) (sym is_u) on.path)
    | inr other ↦ elim other [
      | inl is_v ↦ inl (sym is_v)
      | inr here ↦ let parts = split u v n on.inner on.path here in inr (parts.after, parts.second)
    ]
  ]

pub ends : (edges : List Edge) (np nc n : ℕ) → InRegion false edges np nc n → HasEnds edges np nc n
ends edges np nc n on = record {
  has_np = record { inner = on.inner; path = on.path; avoids = on.avoids; on = inl refl };
  has_nc = record { inner = on.inner; path = on.path; avoids = on.avoids; on = inr (inl refl) };
  from_np = from edges np nc n on;
  to_nc = to edges np nc n on;
}
