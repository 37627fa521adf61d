-- A walk that follows links from its starts, and goes on from a node only where it is not avoided,
-- finds exactly the ends of the chains whose inner nodes are not avoided.
use Rattle.std.proofs.Common.{◌≡◌, ℕ, ◌⊎◌, Bool, List, [], ◌∷◌, ◌++◌, inl, inr, sym, subst, arith}
use Rattle.std.specs.List.{Contains}
use Rattle.std.proofs.lemmas.List.Elements.{Contains-append_left, Contains-push, Contains-push_cases}
use Rattle.plan_types.specs.Sets.{IsIn}
use Rattle.walks.specs.Walks.{Clear, Steps, Ends, Grows}

-- the empty list has no item
pub nothing_in : {X : Type 0} (x : X) → Contains [] x → ⊥
nothing_in x here = absurd (omega (arith, here.1))

pub clear_append : (avoiding : List Bool) (xs : List ℕ) (m : ℕ) → Clear avoiding xs → (IsIn avoiding m → ⊥) → Clear avoiding (xs ++ m ∷ [])
clear_append avoiding [] m clear not = (not, tt)
clear_append avoiding (x ∷ xs) m clear not = (clear.0, clear_append avoiding xs m clear.1 not)

module _ (next : ℕ → List ℕ) where
  pub steps_on : (u m v : ℕ) (inner : List ℕ) → Steps next u inner m → Contains (next m) v → Steps next u (inner ++ m ∷ []) v
  steps_on u m v [] steps last = (steps, last)
  steps_on u m v (x ∷ inner) steps last = (steps.0, steps_on x m v inner steps.1 last)

module _ (next : ℕ → List ℕ) (avoiding : List Bool) (starts : List ℕ) where
  -- the walk may go on from a node
  abbrev pub Open : List Bool → ℕ → Type 0
  Open found u = Contains starts u ⊎ ((IsIn avoiding u → ⊥) × IsIn found u)

  pub record Walking (found : List Bool) (work : List ℕ) : Type 0 where
    pub sound : (n : ℕ) → IsIn found n → Ends next avoiding starts n
    pub ready : (u : ℕ) → Contains work u → Open found u
    pub closed : (u : ℕ) → Open found u → Contains work u ⊎ ((v : ℕ) → Contains (next u) v → IsIn found v)

  goes_on : (found : List Bool) (u v : ℕ) → ((n : ℕ) → IsIn found n → Ends next avoiding starts n) → Open found u → Contains (next u) v → Ends next avoiding starts v
  goes_on found u v sound (inl start) link =
      record { start = u; is_start = start; chain = record { inner = []; steps = link; clear = tt } }
  goes_on found u v sound (inr more) link =
      let to = sound u more.1 in
      record {
        start = to.start;
        is_start = to.is_start;
        chain = record {
          inner = to.chain.inner ++ u ∷ [];
          steps = steps_on next to.start u v to.chain.inner to.chain.steps link;
          clear = clear_append avoiding to.chain.inner u to.chain.clear more.0;
        };
      }

  still_open : (found later : List Bool) (u : ℕ) → ((n : ℕ) → IsIn found n → IsIn later n) → Open found u → Open later u
  still_open found later u keeps (inl start) = inl start
  still_open found later u keeps (inr more) = inr (more.0, keeps u more.1)

  -- one turn: the walk goes on from u
  pub walked : (found later : List Bool) (work rest more : List ℕ) (u : ℕ) → work ≡ rest ++ u ∷ [] → Walking found work
      → Grows avoiding (next u) found rest later more → Walking later more
  walked found later work rest more u popped walking grows = record {
    sound = λ n here. elim (grows.only n here) [
      | inl old ↦ walking.sound n old
      | inr link ↦ goes_on found u n walking.sound from_u link
    ];
    ready = λ w here. elim (grows.adds w here) [
      | inl old ↦ still_open found later w grows.keeps (walking.ready w (in_work w old))
      | inr new ↦ inr (new.1, grows.has w new.0)
    ];
    closed = λ x opened. elim opened [
      | inl start ↦ close x (inl start)
      | inr both ↦ elim (grows.new x both.1 both.0) [
        | inl old ↦ close x (inr (both.0, old))
        | inr queued ↦ inl queued
      ]
    ];
  }
    where
      in_work : (w : ℕ) → Contains rest w → Contains work w
      in_work w here = subst (λ l. Contains l w) (sym popped) (Contains-append_left rest (u ∷ []) w here)

      from_u : Open found u
      from_u = walking.ready u (subst (λ l. Contains l u) (sym popped) (Contains-push rest u))

      close : (x : ℕ) → Open found x → Contains more x ⊎ ((v : ℕ) → Contains (next x) v → IsIn later v)
      close x opened =
          elim (walking.closed x opened) [
            | inl queued ↦
                elim (Contains-push_cases rest u x (subst (λ l. Contains l x) popped queued)) [
                  | inl old ↦ inl (grows.stays x old)
                  | inr same ↦ inr (λ v link. grows.has v (subst (λ y. Contains (next y) v) (sym same) link))
                ]
            | inr done ↦ inr (λ v link. grows.keeps v (done v link))
          ]

  -- at the end, with nothing left to go on from
  arrives : (found : List Bool) (u n : ℕ) (inner : List ℕ) → Walking found [] → Open found u → Steps next u inner n → Clear avoiding inner → IsIn found n
  arrives found u n [] walking opened steps clear =
      elim (walking.closed u opened) [
        | inl queued ↦ absurd (nothing_in u queued)
        | inr done ↦ done n steps
      ]
  arrives found u n (m ∷ inner) walking opened steps clear =
      elim (walking.closed u opened) [
        | inl queued ↦ absurd (nothing_in u queued)
        | inr done ↦ arrives found m n inner walking (inr (clear.0, done m steps.0)) steps.1 clear.1
      ]

  pub all_found : (found : List Bool) (n : ℕ) → Walking found [] → Ends next avoiding starts n → IsIn found n
  all_found found n walking to = arrives found to.start n to.chain.inner walking (inl to.is_start) to.chain.steps to.chain.clear
