-- How a program with its lines is told from another.
use Rattle.std.specs.Prelude.{ℕ, List, refl}
use Rattle.std.specs.Coded.{Coded, code_by, coded×, coded_list, coded_ℕ}
use Rattle.cfix_base.specs.declared.access.AccessId.{AccessId}
use Rattle.cfix_base.specs.declared.number.NodeId.{NodeId}
use Rattle.c_prog.specs.declared.tree.Tree.{Tree}
use Rattle.c_prog.specs.contracts.tree.Tree as tree_row
use Rattle.c_prog.specs.Lines.{LineTable, SourceTree}

-- an access as the numbers of its node and its place
abbrev access_code : Coded AccessId
access_code =
    code_by (ℕ × ℕ) (coded× coded_ℕ coded_ℕ) (λ a. (a.node.number, a.index)) (λ p. record { node = record { number = p.0 }; index = p.1 }) (λ _. refl)

-- a node as its number
abbrev node_code : Coded NodeId
node_code = code_by ℕ coded_ℕ (λ n. n.number) (λ n. record { number = n }) (λ _. refl)

-- lines as the pair of their lists
abbrev lines_code : Coded LineTable
lines_code =
    code_by (List (AccessId × ℕ) × List (NodeId × ℕ)) (coded× (coded_list (coded× access_code coded_ℕ)) (coded_list (coded× node_code coded_ℕ)))
    (λ l. (l.accesses, l.calls)) (λ p. record { accesses = p.0; calls = p.1 }) (λ _. refl)

-- a program with its lines as a pair
abbrev pub source_code : Coded SourceTree
source_code =
    code_by (Tree × LineTable) (coded× tree_row.the_row.coded lines_code) (λ s. (s.tree, s.lines)) (λ p. record { tree = p.0; lines = p.1 }) (λ _. refl)
