-- A straight main without its operations.
use Rattle.std.proofs.Common.{◌≡◌, ℕ, ◌+◌, false, List, [], ◌∷◌, Option, ap, ◌∙◌, refl}
use Rattle.cfix_base.specs.declared.op.Op.{Op}
use Rattle.c_prog.specs.declared.act.Act.{Act}
use Rattle.c_prog.specs.declared.global.Global as global_module
use Rattle.c_prog.specs.declared.stmt.Stmt.{Stmt}
use Rattle.c_prog.specs.declared.stmt.Stmt.TheVariants as stmt
use Rattle.c_prog.specs.declared.tree.Tree.{Tree}
use Rattle.c_prog.specs.Marks.{all_new}
use Rattle.c_prog.specs.Strip.{strip_all, strip_tree}
use Rattle.c_prog.proofs.Equations.{strip-Simple}
use Rattle.c_patched.proofs.PatchedStrip.{no-old}
use Rattle.first_form.specs.declared.region.Region.{Region}
use Rattle.first_form.specs.Straight.{with_ops, main_with, bare, inside, crossing, behind, guarded}

strip_statements : (after : ℕ → List Op) (k : ℕ) (acts : List Act)
    → strip_all all_new (with_ops after k acts) ≡ with_ops (λ n. []) k acts
strip_statements after k [] = refl
strip_statements after k (a ∷ acts) =
    ap (λ s. s ∷ strip_all all_new (with_ops after (k + 1) acts)) (strip-Simple all_new a (after k) ∙ ap (λ ops. stmt.Simple a ops) (no-old (after k)))
    ∙ ap (λ rest. stmt.Simple a [] ∷ rest) (strip_statements after (k + 1) acts)

pub strip_guarded : (globals : List global_module.Global) (acts : List Act) (region : Option Region)
    → strip_tree all_new (guarded globals acts region) ≡ bare globals acts
strip_guarded globals acts region =
    let with : List Op → List Stmt → Tree = λ start body. record { globals = globals; functions = main_with start body ∷ []; starts = [] } in
    ap (λ start. with start (strip_all all_new (with_ops (behind region) 0 acts))) (no-old (crossing false (inside region 0)))
    ∙ ap (λ body. with [] body) (strip_statements (behind region) 0 acts)
