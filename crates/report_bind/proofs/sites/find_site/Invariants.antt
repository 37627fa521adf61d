use Rattle.std.proofs.Common.{◌≡◌}
use Rattle.report_bind.specs.Sites.{site_of}
use Rattle.report_bind.proofs.Turns.{left_of}
use Rattle.report_bind.proofs.sites.find_site.Given as goal

abbrev pub invariant-loop-place : goal.invariant-loop-place
invariant-loop-place l = left_of l.source l.site l.items l.place l.left ≡ site_of l.source l.site
