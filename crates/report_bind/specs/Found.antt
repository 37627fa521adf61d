-- What is known of a report's accesses and calls while it is being bound.
use Rattle.std.specs.Prelude.{◌≡◌, Some}
use Rattle.c_prog.specs.Lines.{SourceTree}
use Rattle.report_bind.specs.declared.found.Found.{Found}
use Rattle.report_bind.specs.declared.found.Sites.{Sites}
use Rattle.report_bind.specs.Sites.{site_of}
use Rattle.report_bind.specs.Stacks.{stack_of}
use Rattle.report_json.specs.declared.report.Site as site_module

-- these are the accesses that the sites of p and c mean
pub record AreFound (source : SourceTree) (p c : site_module.Site) (sites : Sites) : Type 0 where
  pub is_p : site_of source p ≡ Some sites.p
  pub is_c : site_of source c ≡ Some sites.c

-- and these are the calls that their stacks mean, which begin in one function
pub record AreTraced (source : SourceTree) (p c : site_module.Site) (found : Found) : Type 0 where
  pub sites : AreFound source p c found.sites
  pub is_p : stack_of source p.stack found.sites.p.id ≡ Some found.p
  pub is_c : stack_of source c.stack found.sites.c.id ≡ Some found.c
  pub meet : found.p.function ≡ found.c.function
