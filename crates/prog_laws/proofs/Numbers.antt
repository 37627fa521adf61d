-- Node numbers have no gap.
use Rattle.std.proofs.Common.{◌≡◌, ◌<◌, ◌↔◌, ℕ, Option, Some, None, refl, ap, sym, subst, true≢false}
use Rattle.std.specs.Prelude.{is_some, IsSome}
use Rattle.std.proofs.lemmas.Option.{slice_get_within}
use Rattle.c_prog.specs.declared.tree.Tree.{Tree}
use Rattle.c_prog.specs.Nodes.{tree_nodes}
use Rattle.c_prog.specs.Order.{Node, node_at, tree_order}
use Rattle.c_prog.proofs.NodeLaws.{tree_order-length, node_at-within}

within : (t : Tree) (n : ℕ) (found : Option Node) → node_at t n ≡ found → IsSome found → n < tree_nodes t
within t n None is some = absurd (true≢false (sym some))
within t n (Some node) is some = subst (λ m. n < m) (tree_order-length t) (slice_get_within (tree_order t) n node is)

pub no_gap : (t : Tree) (n : ℕ) → IsSome (node_at t n) ↔ (n < tree_nodes t)
no_gap t n = (λ some. within t n (node_at t n) refl some, λ below. ap is_some (node_at-within t n below).1)
