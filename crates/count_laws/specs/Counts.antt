-- What the limits of a file count, and what the program has that the file spells.
use Rattle.std.specs.Prelude.{ℕ, ◌≡◌, ◌+◌, List, [], ◌∷◌, length}
use Rattle.c_grammar.specs.Marks.{each}
use Rattle.c_grammar.specs.File.{File}
use Rattle.c_prog.specs.declared.tree.Tree.{Tree}
use Rattle.c_prog.specs.Nodes.{tree_nodes}
use Rattle.c_prog.specs.Valid.{global_cells}
use Rattle.c_names.specs.Declarations.{names_of}
use Rattle.c_names.specs.Files.{top_nodes, top_functions, top_cells}
use Rattle.c_names.specs.Limits.{Cells}

-- the cells of variables, together
abbrev pub all_cells : List Cells → ℕ
all_cells [] = 0
all_cells (x ∷ more) = x.1 + all_cells more

-- The limits of a file count the nodes, functions, global variables and cells of global variables of this program.
pub record AreCounts (file : File) (tree : Tree) : Type 0 where
  pub nodes : length (each top_nodes file) ≡ tree_nodes tree
  pub functions : length (each top_functions file) ≡ length tree.functions
  pub variables : length (each (top_cells (names_of file)) file) ≡ length tree.globals
  pub cells : all_cells (each (top_cells (names_of file)) file) ≡ global_cells tree.globals
