-- A turn of a loop over the accesses or the calls of a program, beside their lines in a source.
use Rattle.std.proofs.Common.{◌≡◌, ◌≢◌, ℕ, ◌+◌, ◌-◌, ◌<◌, Bool, true, false, ◌&&◌, List, length, map, drop, get_or, slice_get, Option, Some, refl, ap, sym, subst, ◌∙◌, arith}
use Rattle.std.specs.Prelude.{filter}
use Rattle.std.proofs.lemmas.List.{length-map, get_or-map, get_or_default}
use Rattle.cfix_base.specs.declared.access.AccessId.{AccessId}
use Rattle.cfix_base.specs.declared.number.NodeId.{NodeId}
use Rattle.c_prog.specs.declared.access_item.AccessItem.{AccessItem}
use Rattle.c_prog.specs.declared.tree.Tree.{Tree}
use Rattle.c_prog.specs.Lines.{SourceTree, IsLined, InOrder, same_access, access_before, access_line, same_node, node_before, call_line, tree_accesses}
use Rattle.c_prog.specs.Rising.{keys, Rises, line_in}
use Rattle.c_source.proofs.KeyOrders.{access-order, node-order}
use Rattle.c_source.proofs.Searches.{Ordered, in-middle}
use Rattle.report_bind.specs.Sites.{is_line, is_of, is_meant}
use Rattle.report_bind.proofs.Kept.{keeps, drops, behind}
use Rattle.report_json.specs.declared.report.Site.{Site}

untrue : (b : Bool) → (b ≡ true → ⊥) → b ≡ false
untrue true never = absurd (never refl)
untrue false never = refl

-- the line of the key of an entry is that of the entry
module _ {K : Type 0} (before same : K → K → Bool) (order : Ordered before same) where
  irreflexive : (key : K) → before key key ≡ false
  irreflexive key = untrue (before key key) (λ is. absurd (cc (order.earlier key key is, order.itself key)))

  line-at : (entries : List (K × ℕ)) (i : ℕ) (d : K × ℕ) → Rises before (keys entries) → i < length entries
      → line_in same (get_or entries i d).0 entries ≡ Some (get_or entries i d).1
  line-at entries i d rises below =
      sym (in-middle before same order (get_or entries i d).0 entries i d below rises (irreflexive (get_or entries i d).0) (irreflexive (get_or entries i d).0))

pub call-line-at : (source : SourceTree) (entries : List (NodeId × ℕ)) (i : ℕ) (d : NodeId × ℕ) → InOrder source.lines
    → entries ≡ source.lines.calls → i < length entries → call_line source.lines (get_or entries i d).0 ≡ Some (get_or entries i d).1
call-line-at source entries i d order are below =
    ap (line_in same_node (get_or entries i d).0) (sym are)
    ∙ line-at node_before same_node node-order entries i d (subst (λ es. Rises node_before (keys es)) (sym are) order.calls) below

-- the accesses of a program have their lines at their places
items-lined : (source : SourceTree) (entries : List (AccessId × ℕ)) (items : List AccessItem) → IsLined source.tree source.lines
    → entries ≡ source.lines.accesses → items ≡ tree_accesses source.tree → keys entries ≡ map (λ item. item.id) items
items-lined source entries items lined are all = ap keys are ∙ lined.accesses ∙ ap (map (λ item. item.id)) (sym all)

pub within : (source : SourceTree) (entries : List (AccessId × ℕ)) (items : List AccessItem) (i : ℕ) → IsLined source.tree source.lines
    → entries ≡ source.lines.accesses → items ≡ tree_accesses source.tree → i < length items → i < length entries
within source entries items i lined are all below =
    omega (
      arith,
      below,
      length-map entries (λ e. e.0),
      length-map items (λ item. item.id),
      ap length (items-lined source entries items lined are all),
    )

pub access-line-at : (source : SourceTree) (entries : List (AccessId × ℕ)) (items : List AccessItem) (i : ℕ) (d : AccessId × ℕ) (item : AccessItem)
    → IsLined source.tree source.lines → InOrder source.lines → entries ≡ source.lines.accesses → items ≡ tree_accesses source.tree
    → i < length items → item ≡ get_or items i item → access_line source.lines item.id ≡ Some (get_or entries i d).1
access-line-at source entries items i d item lined order are all below at =
    let here : i < length entries = within source entries items i lined are all below in
    let id : item.id ≡ (get_or entries i d).0 =
    ap (λ x. x.id) at ∙ sym (get_or-map (λ x. x.id) items i item d.0 below)
    ∙ ap (λ ks. get_or ks i d.0) (sym (items-lined source entries items lined are all)) ∙ get_or-map (λ e. e.0) entries i d d.0 here in
    ap (access_line source.lines) id ∙ ap (line_in same_access (get_or entries i d).0) (sym are)
    ∙ line-at access_before same_access access-order entries i d (subst (λ es. Rises access_before (keys es)) (sym are) order.accesses) here

-- Turns of the search for the access that a site means.

abbrev pub left_of : SourceTree → Site → List AccessItem → ℕ → ℕ → Option AccessItem
left_of source site items i left = slice_get (filter (is_meant source site) (drop i items)) left

-- whether the item of a turn is meant, by the line of its entry
pub meant-at : (source : SourceTree) (site : Site) (tree : Tree) (entries : List (AccessId × ℕ)) (items : List AccessItem) (i : ℕ) (d : AccessId × ℕ)
    (e : AccessItem) (test : Bool) → IsLined source.tree source.lines → InOrder source.lines → entries ≡ source.lines.accesses
    → items ≡ tree_accesses source.tree → tree ≡ source.tree → i < length items
    → test ≡ (is_line (Some (get_or entries i d).1) site.line && is_of tree site (get_or items i e)) → is_meant source site (get_or items i e) ≡ test
meant-at source site tree entries items i d e test lined order are all whole below is =
    let item = get_or items i e in
    ap (λ line. is_line line site.line && is_of source.tree site item)
    (access-line-at source entries items i d item lined order are all below (get_or_default items i e item below))
    ∙ sym (is ∙ ap (λ t. is_line (Some (get_or entries i d).1) site.line && is_of t site item) whole)

-- an access that is not meant is passed
pub passes : (source : SourceTree) (site : Site) (items : List AccessItem) (i left : ℕ) (e : AccessItem) → i < length items
    → is_meant source site (get_or items i e) ≡ false → left_of source site items i left ≡ left_of source site items (i + 1) left
passes source site items i left e below is =
    ap (λ xs. slice_get xs left)
    (drops (is_meant source site) items i (get_or items i e) (get_or_default items i e (get_or items i e) below) below is)

-- one that is meant counts
pub counts : (source : SourceTree) (site : Site) (items : List AccessItem) (i left : ℕ) (e : AccessItem) → i < length items
    → is_meant source site (get_or items i e) ≡ true → left ≢ 0 → left_of source site items i left ≡ left_of source site items (i + 1) (left - 1)
counts source site items i left e below is some =
    ap (λ xs. slice_get xs left)
    (keeps (is_meant source site) items i (get_or items i e) (get_or_default items i e (get_or items i e) below) below is)
    ∙ behind (get_or items i e) (filter (is_meant source site) (drop (i + 1) items)) left some

-- and the one at the place that is sought is found
pub finds : (source : SourceTree) (site : Site) (items : List AccessItem) (i : ℕ) (e : AccessItem) → i < length items
    → is_meant source site (get_or items i e) ≡ true → left_of source site items i 0 ≡ Some (get_or items i e)
finds source site items i e below is =
    ap (λ xs. slice_get xs 0) (keeps (is_meant source site) items i (get_or items i e) (get_or_default items i e (get_or items i e) below) below is)
