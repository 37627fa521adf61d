-- The accesses of a node count from 0.
use Rattle.std.proofs.Common.{◌≡◌, ℕ, zero, suc, ◌+◌, List, [], ◌∷◌, Option, Some, None, ap, sym, ◌∙◌, arith}
use Rattle.std.specs.Prelude.{slice_get}
use Rattle.std.proofs.lemmas.Option.{none-some}
use Rattle.cfix_base.specs.declared.access.AccessId.{AccessId}
use Rattle.cfix_base.specs.declared.number.NodeId.{NodeId}
use Rattle.c_prog.specs.Accesses.{numbered, touches_of, accesses}
use Rattle.c_prog.specs.Order.{node_at}
use Rattle.c_prog.specs.declared.access_item.AccessItem.{AccessItem}
use Rattle.c_prog.specs.declared.access_item.Touch.{Touch}
use Rattle.c_prog.specs.declared.tree.Tree.{Tree}

abbrev numbers : NodeId → ℕ → AccessId
numbers node index = record { node = node; index = index }

abbrev id_of : AccessId → Option AccessItem → AccessId
id_of other None = other
id_of other (Some item) = item.id

counted : (node : NodeId) (index : ℕ) (list : List Touch) (place : ℕ) (item : AccessItem)
    → slice_get (numbered node index list) place ≡ Some item → item.id ≡ numbers node (index + place)
counted node index [] place item is = absurd (none-some item is)
counted node index (x ∷ list) zero item is = sym (ap (id_of item.id) is) ∙ ap (numbers node) (omega (arith))
counted node index (x ∷ list) (suc place) item is =
    counted node (index + 1) list place item is ∙ ap (numbers node) (omega (arith))

pub counts-from-zero : (t : Tree) (node : NodeId) (place : ℕ) (item : AccessItem)
    → slice_get (accesses t node) place ≡ Some item → item.id ≡ numbers node place
counts-from-zero t node place item is =
    counted node 0 (touches_of (node_at t node.number)) place item is ∙ ap (numbers node) (omega (arith))
