-- Control flow and operations of a straight main.
use Rattle.std.proofs.Common.{◌≡◌, ℕ, zero, suc, ◌+◌, ◌-◌, ◌<◌, ◌≤◌, true, false, eqb, List, [], ◌∷◌, length, Some, None, if◌then◌else◌, inl, inr, ap, sym, ◌∙◌, refl, arith}
use Rattle.std.proofs.lemmas.Bool.{eq-eqb}
use Rattle.std.proofs.lemmas.Bool.Decides.{eqb_tells}
use Rattle.cfix_base.specs.declared.op.Op.{Op}
use Rattle.cfix_base.specs.declared.place.Place.{Place}
use Rattle.cfix_base.specs.declared.place.Place.TheVariants.{After}
use Rattle.c_prog.specs.declared.act.Act.{Act}
use Rattle.c_prog.specs.declared.stmt.Stmt.TheVariants as stmt
use Rattle.c_prog.specs.declared.stmt.Stmt.TheOpen.{Stmt-F}
use Rattle.c_prog.specs.declared.stmt.Stmt.TheFolds.{fold-roll-Stmt}
use Rattle.flow_graph.specs.Flow.{Part, Edge, flow, flow_level, parts_of, size_of, first_of, along, after_way, edges_of, outermost, node, same_place}
use Rattle.first_form.specs.Straight.{with_ops}
use Rattle.cfix_core.specs.Patched.{Placed, placed, placed_level, edge_at}

-- a simple statement as a part
abbrev pub plain_part : Part
plain_part = record { size = 1; ways = λ start around. after_way start around.follow }

pub flow-Simple : (act : Act) (after : List Op) → flow (stmt.Simple act after) ≡ plain_part
flow-Simple act after =
    ap flow (sym (stmt.rolls-Simple act after)) ∙ fold-roll-Stmt Part flow_level (Stmt-F.Simple act after)

pub placed-Simple : (act : Act) (after : List Op)
    → placed (stmt.Simple act after) ≡ record { size = 1; build = λ ops n. stmt.Simple act (ops (After (node n))) }
placed-Simple act after =
    ap placed (sym (stmt.rolls-Simple act after)) ∙ fold-roll-Stmt Placed placed_level (Stmt-F.Simple act after)

-- so many simple statements
abbrev pub plain_parts : ℕ → List Part
plain_parts zero = []
plain_parts (suc n) = plain_part ∷ plain_parts n

pub straight_parts : (behind : ℕ → List Op) (k : ℕ) (acts : List Act)
    → parts_of (with_ops behind k acts) ≡ plain_parts (length acts)
straight_parts behind k [] = refl
straight_parts behind k (a ∷ acts) =
    ap (λ part. part ∷ parts_of (with_ops behind (k + 1) acts)) (flow-Simple a (behind k))
    ∙ ap (λ parts. plain_part ∷ parts) (straight_parts behind (k + 1) acts)

pub straight_size : (n : ℕ) → size_of (plain_parts n) ≡ n
straight_size zero = refl
straight_size (suc n) = ap (λ m. 1 + m) (straight_size n) ∙ omega arith

-- the edge behind node k, of n nodes from `start` on
abbrev pub straight_edge : ℕ → ℕ → Edge
straight_edge k left = record { place = After (node k); source = Some k; target = first_of left (k + 1) None }

-- the edges of n nodes from `start` on
abbrev pub straight_edges : ℕ → ℕ → List Edge
straight_edges start n = edges_of (along (plain_parts n) start outermost)

first_edge : (start n : ℕ) → straight_edges start (suc n) ≡ straight_edge start n ∷ straight_edges (start + 1) n
first_edge start n =
    ap (λ m. record { place = After (node start); source = Some start; target = first_of m (start + 1) None }
    ∷ straight_edges (start + 1) n) (straight_size n)

edge_hit : (place : Place) (edge : Edge) (rest : List Edge) → same_place edge.place place ≡ true
    → edge_at place (edge ∷ rest) ≡ Some edge
edge_hit place edge rest e = ap (λ b. if b then Some edge else edge_at place rest) e

edge_miss : (place : Place) (edge : Edge) (rest : List Edge) → same_place edge.place place ≡ false
    → edge_at place (edge ∷ rest) ≡ edge_at place rest
edge_miss place edge rest e = ap (λ b. if b then Some edge else edge_at place rest) e

edge_here : (k n : ℕ) → edge_at (After (node k)) (straight_edges k (suc n)) ≡ Some (straight_edge k n)
edge_here k n =
    ap (edge_at (After (node k))) (first_edge k n)
    ∙ edge_hit (After (node k)) (straight_edge k n) (straight_edges (k + 1) n) (eq-eqb k k refl)

edge_later : (start k n : ℕ) → eqb start k ≡ false
    → edge_at (After (node k)) (straight_edges start (suc n)) ≡ edge_at (After (node k)) (straight_edges (start + 1) n)
edge_later start k n e =
    ap (edge_at (After (node k))) (first_edge start n)
    ∙ edge_miss (After (node k)) (straight_edge start n) (straight_edges (start + 1) n) e

-- the edge behind node k among n nodes from `start` on
pub straight_found : (n start k : ℕ) → start ≤ k → k < start + n
    → edge_at (After (node k)) (straight_edges start n) ≡ Some (straight_edge k (start + n - (k + 1)))
straight_found zero start k low high = absurd (omega (arith, low, high))
straight_found (suc n) start k low high =
    elim (eqb_tells start k) [
      | inl w ↦ rw w.1 (edge_here k n ∙ ap (λ m. Some (straight_edge k m)) (omega arith))
      | inr w ↦ edge_later start k n w.0
          ∙ straight_found n (start + 1) k (omega (arith, low, w.1)) (omega (arith, high))
          ∙ ap (λ m. Some (straight_edge k m)) (omega arith)
    ]
