-- How the nodes of functions that were kept one after another join.
use Rattle.std.proofs.Common.{◌≡◌, ℕ, ◌+◌, ◌<◌, List, [], ◌∷◌, ◌++◌, map, drop, length, get_or, slice_get, Some, refl, ap, sym, ◌∙◌, subst, append_assoc, arith}
use Rattle.std.proofs.lemmas.List.{drop_more, length-append, length-map}
use Rattle.std.proofs.lemmas.Option.{slice_get_read}
use Rattle.c_prog.specs.declared.act.LocalKind.{LocalKind}
use Rattle.c_prog.specs.declared.function.Function.{Function}
use Rattle.c_prog.specs.declared.tree.Tree.{Tree}
use Rattle.c_prog.specs.Order.{function_order, functions_order, tree_order}
use Rattle.c_prog.specs.Valid.{IsValid}
use Rattle.c_prog.specs.Valid.Locals.{function_locals, locals_of}
use Rattle.c_prog.proofs.NodeLaws.{functions_order-length}
use Rattle.step_tables.specs.declared.row.Row.{Row}
use Rattle.step_tables.specs.Kept.{kept, kept_from, kept_functions, AreFew, HaveRoom}
use Rattle.step_tables.specs.Functions.{AreLeft}
use Rattle.step_tables.proofs.Keeping.{kept-length, few_all, few_front, few_behind}
use Rattle.step_tables.proofs.Declared.{body_declares}

-- at first all functions are left
left_first : (tree : Tree) → IsValid tree → AreLeft tree.functions 0 0 [] []
left_first tree valid = record {
  number = refl;
  rows = refl;
  locals = refl;
  room = omega (arith, functions_order-length tree.functions, valid.few_nodes);
  few = few_all (tree_order tree) valid.few_accesses;
}

pub left_init : (tree : Tree) (table : List Row) (kinds : List (List LocalKind)) → IsValid tree → table ≡ [] → kinds ≡ [] → AreLeft tree.functions 0 0 table kinds
left_init tree table kinds valid no_rows no_kinds =
    subst (λ t. AreLeft tree.functions 0 0 t kinds) (sym no_rows)
    (subst (λ k. AreLeft tree.functions 0 0 [] k) (sym no_kinds) (left_first tree valid))

-- the function with this number is the first one that is left
here : (functions : List Function) (i : ℕ) (f : Function) → i < length functions → f ≡ get_or functions i f → drop i functions ≡ f ∷ drop (i + 1) functions
here functions i f within is = drop_more functions i f within ∙ ap (λ g. g ∷ drop (i + 1) functions) (sym is)

pub left_room : (tree : Tree) (i count : ℕ) (table : List Row) (kinds : List (List LocalKind)) (f : Function)
    → IsValid tree → AreLeft tree.functions i count table kinds → i < length tree.functions → f ≡ get_or tree.functions i f
    → HaveRoom (length table) (length f.params) (function_order f)
left_room tree i count table kinds f valid left within is =
    let order = ap functions_order (here tree.functions i f within is) in
    let got : slice_get tree.functions i ≡ Some f = slice_get_read tree.functions (length tree.functions) i f refl within is in
    record {
      rows = omega (arith, left.room, ap length order, length-append (function_order f) (functions_order (drop (i + 1) tree.functions)));
      locals = omega (arith, valid.few_locals i, ap function_locals got, ap length (body_declares f.body));
      accesses = few_front (function_order f) (functions_order (drop (i + 1) tree.functions)) (subst AreFew order left.few);
    }

pub left_next : (functions : List Function) (i count : ℕ) (table : List Row) (kinds : List (List LocalKind)) (f : Function)
    (new : List Row) (kind : List LocalKind) (after : List (List LocalKind))
    → AreLeft functions i count table kinds → i < length functions → f ≡ get_or functions i f
    → map kept new ≡ map kept table ++ kept_from count (length table) (length f.params) (function_order f)
    → kind ≡ locals_of f.body → after ≡ kinds ++ kind ∷ [] → AreLeft functions (i + 1) (count + 1) new after
left_next functions i count table kinds f new kind after left within is grown declares added =
    let rest = drop (i + 1) functions in
    let n = length table in
    let split = here functions i f within is in
    let order = ap functions_order split in
    let own = kept_from i n (length f.params) (function_order f) in
    let longer : length new ≡ n + length (function_order f) =
    omega (
      arith,
      ap length grown,
      length-map new kept,
      length-map table kept,
      length-append (map kept table) (kept_from count n (length f.params) (function_order f)),
      kept-length count n (length f.params) (function_order f),
    ) in
    let body : Function → List LocalKind = λ g. locals_of g.body in
    record {
      number = ap (λ m. m + 1) left.number;
      rows = ap (λ r. r ++ kept_functions (i + 1) (length new) rest) grown
          ∙ ap (λ m. map kept table ++ kept_from m n (length f.params) (function_order f) ++ kept_functions (i + 1) (length new) rest) left.number
          ∙ ap (λ m. map kept table ++ own ++ kept_functions (i + 1) m rest) longer
          ∙ append_assoc (map kept table) own (kept_functions (i + 1) (n + length (function_order f)) rest)
          ∙ ap (λ fs. map kept table ++ kept_functions i n fs) (sym split) ∙ left.rows;
      locals = ap (λ ks. ks ++ map body rest) added ∙ append_assoc kinds (kind ∷ []) (map body rest)
          ∙ ap (λ k. kinds ++ (k ∷ map body rest)) declares ∙ ap (λ fs. kinds ++ map body fs) (sym split) ∙ left.locals;
      room = omega (arith, left.room, longer, ap length order, length-append (function_order f) (functions_order rest));
      few = few_behind (function_order f) (functions_order rest) (subst AreFew order left.few);
    }
