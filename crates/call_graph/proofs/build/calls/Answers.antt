use Rattle.std.proofs.Common.{◌≡◌, arith, length, subst, ap, sym, ◌∙◌}
use Rattle.c_prog.specs.Nodes.{functions_nodes}
use Rattle.call_graph.specs.Kept.{HaveCallers, HasCreated}
use Rattle.call_graph.proofs.SiteLaws.{sites_from-length}
use Rattle.std.proofs.lemmas.List.{length-map}
use Rattle.call_graph.specs.Sites.{is_main_function}
use Rattle.call_graph.proofs.build.calls.Goals as goal

pub callers-requires : goal.callers-requires
callers-requires c =
    omega (
      arith,
      ap length c.as_slice.ensures,
      ap length c.in_ok-sites.ensures,
      sites_from-length 0 c.as_slice-functions.result.now,
      ap functions_nodes c.as_slice-functions.ensures,
      c.tree.ensures.valid.few_nodes,
    )

pub of-requires : goal.of-requires
of-requires c =
    let counted : length c.in_ok-mains.mains ≡ length c.as_slice-functions.result.now =
    ap length c.in_ok-mains.ensures ∙ length-map c.as_slice-functions.result.now is_main_function in
    record {
      callers_sized = c.in_ok-callers.ensures.sized ∙ sym counted;
      created_sized = c.in_ok-created.ensures.sized ∙ sym counted;
      callers_kept = subst (λ sites. HaveCallers sites c.in_ok-callers.callers) c.as_slice.ensures c.in_ok-callers.ensures.kept;
      created_kept = subst (λ sites. HasCreated sites c.in_ok-created.created) c.as_slice-2.ensures c.in_ok-created.ensures.kept;
    }
