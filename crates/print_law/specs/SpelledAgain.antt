-- The program that a text spells.
use Rattle.std.specs.Prelude.{◌≡◌, ℕ, List}
use Rattle.c_names.specs.Texts.{Spells}
use Rattle.c_prog.specs.declared.tree.Tree.{Tree}
use Rattle.c_prog.specs.Lines.{SourceTree}

-- The text spells a source, with some lines, whose program this is.
pub record SpellsProgram (text : List ℕ) (tree : Tree) : Type 0 where
  pub source : SourceTree
  pub spells : Spells text source
  pub program : source.tree ≡ tree
