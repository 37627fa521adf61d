-- The accesses in each node of a valid program are few.
use Rattle.std.proofs.Common.{◌≡◌, ℕ, ◌-◌, ◌<◌, ◌^◌, suc, Bool, true, ◌&&◌, List, [], ◌∷◌, map, length, refl, ap, sym, subst, arith}
use Rattle.std.specs.Prelude.{nat_lt, slice_get}
use Rattle.std.specs.List.{list_all}
use Rattle.std.proofs.lemmas.Bool.Decides.{nat_tests}
use Rattle.c_prog.specs.Accesses.{touches, touches_of}
use Rattle.c_prog.specs.Order.{Node, tree_order}
use Rattle.c_prog.specs.Valid.{IsValid}
use Rattle.c_prog.specs.View.{seen}
use Rattle.c_prog.specs.declared.node.NodeView.{NodeView}
use Rattle.c_prog.specs.declared.tree.Tree.{Tree}
use Rattle.c_prog.proofs.NodeLaws.{tree_order-length}
use Rattle.std.proofs.lemmas.List.{length-map}

both : (a b : Bool) → a ≡ true → b ≡ true → (a && b) ≡ true
both a b p q = subst (λ x. (x && b) ≡ true) (sym p) q

less : (a : ℕ) → a < 2 ^ 32 - 1 → nat_lt a (2 ^ 32) ≡ true
less a h = grind (arith, nat_tests)

pub few-all : (list : List Node) → ((n : ℕ) → length (touches_of (slice_get list n)) < 2 ^ 32 - 1)
    → list_all (λ node. nat_lt (length (touches node)) (2 ^ 32)) list ≡ true
few-all [] h = refl
few-all (x ∷ xs) h = both (nat_lt (length (touches x)) (2 ^ 32)) (list_all (λ node. nat_lt (length (touches node)) (2 ^ 32)) xs) (less (length (touches x)) (h 0)) (few-all xs (λ n. h (suc n)))

-- nodes that are seen as those of a valid program
pub nodes-few : (t : Tree) → IsValid t → (nodes : List NodeView) → map seen nodes ≡ tree_order t
    → (length nodes < 2 ^ 32) × (list_all (λ node. nat_lt (length (touches node)) (2 ^ 32)) (map seen nodes) ≡ true)
nodes-few t valid nodes is = (
  omega (arith, length-map nodes seen, ap length is, tree_order-length t, valid.few_nodes),
  subst (λ l. list_all (λ node. nat_lt (length (touches node)) (2 ^ 32)) l ≡ true) (sym is) (few-all (tree_order t) valid.few_accesses),
)
