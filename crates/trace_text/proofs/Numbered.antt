-- Numbered accesses are to the same variables.
use Rattle.std.proofs.Common.{◌≡◌, ℕ, zero, suc, ◌+◌, ◌≤◌, List, [], ◌∷◌, length, slice_get, None, option_map, refl, ap, sym, ◌∙◌}
use Rattle.std.proofs.lemmas.Option.{slice_get_past}
use Rattle.cfix_base.specs.declared.access.AccessId.{AccessId}
use Rattle.cfix_base.specs.declared.number.NodeId.{NodeId}
use Rattle.c_prog.specs.declared.access_item.Touch.{Touch}
use Rattle.c_prog.specs.declared.access_item.AccessItem.{AccessItem}
use Rattle.c_prog.specs.declared.tree.Tree.{Tree}
use Rattle.c_prog.specs.Order.{node_at}
use Rattle.c_prog.specs.Accesses.{numbered, accesses, touches_of}
use Rattle.step_tables.specs.TreeCode.{variable_of}

pub same_variable : (node : NodeId) (i : ℕ) (touches : List Touch) (k : ℕ)
    → option_map (λ item. item.var) (slice_get (numbered node i touches) k) ≡ option_map (λ touch. touch.var) (slice_get touches k)
same_variable node i [] k = refl
same_variable node i (touch ∷ rest) zero = refl
same_variable node i (touch ∷ rest) (suc k) = same_variable node (i + 1) rest k

-- an access that the program does not have is to no variable
pub variable_missing : (tree : Tree) (site : AccessId) (list : List AccessItem) → list ≡ accesses tree site.node → length list ≤ site.index
    → None ≡ variable_of tree site
variable_missing tree site list is past =
    sym (
    sym (same_variable site.node 0 (touches_of (node_at tree site.node.number)) site.index)
    ∙ ap (λ items. option_map (λ item. item.var) (slice_get items site.index)) (sym is)
    ∙ ap (option_map (λ item. item.var)) (slice_get_past list site.index past)
    )
