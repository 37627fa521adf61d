-- Programs in which no operation stands.
use Rattle.std.specs.Prelude.{◌≡◌, List, [], Some}
use Rattle.cfix_base.specs.declared.op.Op.{Op}
use Rattle.cfix_base.specs.declared.place.Place.{Place}
use Rattle.c_prog.specs.declared.tree.Tree.{Tree}
use Rattle.c_prog.specs.Places.{ops}

-- No order begins with a token, and no operation stands at a place of the program.
pub record IsBare (tree : Tree) : Type 0 where
  pub starts : tree.starts ≡ []
  pub places : (place : Place) (list : List Op) → ops tree place ≡ Some list → list ≡ []
