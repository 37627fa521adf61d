-- The orders of nodes and of accesses.
use Rattle.std.proofs.Common.{◌≡◌, ℕ, ap, ◌∙◌, arith}
use Rattle.cfix_base.specs.declared.access.AccessId.{AccessId}
use Rattle.cfix_base.specs.declared.number.NodeId.{NodeId}
use Rattle.c_prog.specs.Lines.{same_node, node_before, same_access, access_before}
use Rattle.c_source.proofs.Searches.{Ordered}

pub node-order : Ordered node_before same_node
node-order = record {
  later = λ a b is. grind (arith, is);
  earlier = λ a b is. grind (arith, is);
  chain = λ a b c is next. grind (arith, is, next);
  equal = λ a b is other.
      let number : a.number ≡ b.number = grind (arith, is, other) in
      let f : ℕ → NodeId = λ n. record { number = n } in
      ap f number;
  itself = λ a. grind arith;
}

pub access-order : Ordered access_before same_access
access-order = record {
  later = λ a b is. grind (arith, is);
  earlier = λ a b is. grind (arith, is);
  chain = λ a b c is next. grind (arith, is, next);
  equal = λ a b is other.
      let number : a.node.number ≡ b.node.number = grind (arith, is, other) in
      let index : a.index ≡ b.index = grind (arith, is, other) in
      let f : ℕ → ℕ → AccessId = λ n i. record { node = record { number = n }; index = i } in
      ap (λ n. f n a.index) number ∙ ap (λ i. f b.node.number i) index;
  itself = λ a. grind arith;
}
