-- The counts of the program that a file without faults spells fit.
use Rattle.std.proofs.Common.{ℕ, zero, suc, ◌-◌, ◌^◌, ◌≤◌, ◌<◌, List, [], ◌∷◌, map, length, slice_get, zip, ap, arith}
use Rattle.std.proofs.lemmas.List.{length-map}
use Rattle.cfix_base.specs.declared.Spot.{Spot}
use Rattle.c_grammar.specs.Marks.{each}
use Rattle.c_grammar.specs.File.{File}
use Rattle.c_prog.specs.declared.tree.Tree.{Tree}
use Rattle.c_prog.specs.Accesses.{touches_of}
use Rattle.c_prog.specs.Lines.{IsLined, tree_accesses}
use Rattle.c_prog.specs.Nodes.{tree_nodes}
use Rattle.c_prog.specs.Order.{Node, node_at, tree_order}
use Rattle.c_prog.specs.Valid.{global_cells}
use Rattle.c_prog.specs.Valid.Locals.{function_locals, function_cells}
use Rattle.c_names.specs.Declarations.{names_of}
use Rattle.c_names.specs.Files.{top_nodes, top_functions, top_cells}
use Rattle.c_names.specs.Limits.{Cells}
use Rattle.c_grammar.specs.Parsed.{IsParsed}
use Rattle.c_names.specs.Sources.{top_lines, top_functions_of, source_of}
use Rattle.names_laws.proofs.Lined.{lined_spelled}
use Rattle.names_laws.proofs.Weights.{in_nodes, touch_count, accesses-length}
use Rattle.valid_law.proofs.Cells.{cells-within, global-cells, global-count, function-count, cells-few}
use Rattle.valid_law.proofs.FaultlessParts.{FileFaultless}
use Rattle.valid_law.proofs.Locals.{locals-among, cells-among}
use Rattle.valid_law.proofs.Nodes.{within, nodes-count}
use Rattle.valid_law.proofs.Tokens.{tokens-few}
use Rattle.valid_law.proofs.Touches.{lines-few}

-- ---- accesses

-- a node has no more accesses than all nodes together
among-nodes : (list : List Node) (n : ℕ) → length (touches_of (slice_get list n)) ≤ in_nodes touch_count list
among-nodes [] n = omega (arith)
among-nodes (x ∷ list) zero = omega (arith)
among-nodes (x ∷ list) (suc n) = omega (arith, among-nodes list n)

zip-length : {A B : Type 0} (xs : List A) (ys : List B) → length (zip xs ys) ≤ length ys
zip-length [] ys = omega (arith)
zip-length (x ∷ xs) [] = omega (arith)
zip-length (x ∷ xs) (y ∷ ys) = omega (arith, zip-length xs ys)

-- each access has a line
accesses-lined : (file : File) → in_nodes touch_count (tree_order (source_of file).tree) ≤ length (each (top_lines (names_of file)) file)
accesses-lined file =
    let tree : Tree = (source_of file).tree in
    let lined : IsLined (source_of file).tree (source_of file).lines = lined_spelled file in
    omega (
      arith,
      accesses-length 0 (tree_order tree),
      length-map (tree_accesses tree) (λ item. item.id),
      ap length lined.accesses,
      length-map (source_of file).lines.accesses (λ e. e.0),
      zip-length (map (λ item. item.id) (tree_accesses tree)) (each (top_lines (names_of file)) file),
    )

pub few-accesses : (end : Spot) (file : File) → IsParsed end file → (n : ℕ) → length (touches_of (node_at (source_of file).tree n)) < 2 ^ 32 - 1
few-accesses end file parsed n =
    omega (
      arith,
      among-nodes (tree_order (source_of file).tree) n,
      accesses-lined file,
      lines-few (names_of file) file,
      tokens-few end file parsed,
    )

-- ---- what the limits count

module _ (end : Spot) (file : File) (parts : FileFaultless (names_of file) end file) where
  nodes-within : tree_nodes (source_of file).tree ≤ 20000
  nodes-within = omega (arith, within 20000 (each top_nodes file) parts.nodes, nodes-count (names_of file) file)

  pub few-nodes : tree_nodes (source_of file).tree < 2 ^ 32 - 1
  few-nodes = omega (arith, nodes-within)

  pub few-functions : length (source_of file).tree.functions < 2 ^ 32 - 1
  few-functions = omega (arith, within 500 (each top_functions file) parts.functions, function-count (names_of file) file)

  pub few-variables : length (source_of file).tree.globals < 2 ^ 32 - 1
  few-variables =
      omega (
        arith,
        within 1000 (map (λ (x : Cells). x.0) (each (top_cells (names_of file)) file)) parts.globals,
        global-count (names_of file) file,
      )

  pub few-cells : global_cells (source_of file).tree.globals < 2 ^ 32 - 1
  few-cells = omega (arith, cells-within 1000000 (each (top_cells (names_of file)) file) parts.cells, global-cells (names_of file) file)

  pub few-locals : (n : ℕ) → function_locals (slice_get (source_of file).tree.functions n) < 2 ^ 32 - 1
  few-locals n =
      omega (arith, nodes-within, locals-among (each (top_functions_of (names_of file)) file) n (cells-few (names_of file) file parts.tops))

  pub few-local_cells : (n : ℕ) → function_cells (slice_get (source_of file).tree.functions n) < 2 ^ 32 - 1
  few-local_cells n =
      omega (arith, cells-among (each (top_functions_of (names_of file)) file) n (cells-few (names_of file) file parts.tops))
