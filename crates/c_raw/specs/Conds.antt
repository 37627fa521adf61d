-- Conditions and guards, as trees of the grammar.
use Rattle.c_raw.specs.declared.cond.Guard.{Guard}
use Rattle.c_raw.specs.declared.cond.TrueGuard.{TrueGuard}
use Rattle.c_raw.specs.declared.cond.FalseGuard.{FalseGuard}
use Rattle.c_raw.specs.declared.cond.BothGuard.{BothGuard}
use Rattle.c_raw.specs.declared.cond.Cond.{Cond}
use Rattle.c_raw.specs.declared.cond.Cond.TheVariants as cond
use Rattle.c_raw.specs.Exprs.{expr_view}
use Rattle.c_raw.specs.Ops.{op_view, ops_view}
use Rattle.c_grammar.specs.Cond as g

abbrev pub guard_view : Guard → g.Guard
guard_view x = g.GuardOf (op_view x.first) x.comma (ops_view x.more) x.digit

abbrev pub true_guard_view : TrueGuard → g.TrueGuard
true_guard_view x = g.TrueGuardOf x.before (expr_view x.test) x.after x.and x.guard_before (guard_view x.guard) x.guard_after

abbrev pub false_guard_view : FalseGuard → g.Cond
false_guard_view x = g.OnFalse x.before (expr_view x.test) x.after x.or x.guard_before (guard_view x.guard) x.guard_after

abbrev pub both_guard_view : BothGuard → g.Cond
both_guard_view x = g.OnBoth x.before (true_guard_view x.inner) x.after x.or x.guard_before (guard_view x.guard) x.guard_after

abbrev pub cond_view : Cond → g.Cond
cond_view (cond.Bare e) = g.Bare (expr_view e)
cond_view (cond.OnTrue x) = g.OnTrue (true_guard_view x)
cond_view (cond.OnFalse x) = false_guard_view x
cond_view (cond.OnBoth x) = both_guard_view x
