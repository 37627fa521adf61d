-- A report of a kind has the sites of that kind.
use Rattle.std.proofs.Common.{◌≡◌, ℕ, List, get_or, Some, ◌∙◌, sym, ap, codes, arith}
use Rattle.serde_json.specs.Data.{Data}
use Rattle.report_json.specs.declared.report.Site.{Site}
use Rattle.report_json.specs.declared.report.Report.TheVariants.{Atomicity, AllBefore, FirstBefore}
use Rattle.report_json.specs.Members.{text_of}
use Rattle.report_json.specs.Sites.{HasSite}
use Rattle.report_json.specs.Shapes.{HasKind, IsMisshapen}

one_kind : (value : Data) (a b : List ℕ) → HasKind value a → HasKind value b → a ≡ b
one_kind value a b ha hb = let is = sym ha ∙ hb in cc

-- the second bytes of the names of the kinds differ
pub one_byte : (value : Data) (a b : List ℕ) → HasKind value a → HasKind value b → get_or a 1 0 ≡ get_or b 1 0
one_byte value a b ha hb = ap (λ (z : List ℕ). get_or z 1 0) (one_kind value a b ha hb)

pub kind_from : (value : Data) (found kind : List ℕ) → Some found ≡ text_of (codes "kind") value → found ≡ kind → HasKind value kind
kind_from value found kind seen is = sym seen ∙ ap Some is

module _ (value : Data) where
  pub no_atomicity : HasKind value (codes "atomicity")
      → ((p c r : Site) → HasSite value (codes "p") p → HasSite value (codes "c") c → HasSite value (codes "r") r → ⊥) → IsMisshapen value
  no_atomicity kind none (Atomicity p c r) h = none p c r h.1 h.2 h.3
  no_atomicity kind none (AllBefore a b) h = omega (arith, one_byte value (codes "atomicity") (codes "all_before") kind h.0)
  no_atomicity kind none (FirstBefore a b) h = omega (arith, one_byte value (codes "atomicity") (codes "first_before") kind h.0)

  pub no_all_before : HasKind value (codes "all_before") → ((a b : Site) → HasSite value (codes "a") a → HasSite value (codes "b") b → ⊥) → IsMisshapen value
  no_all_before kind none (Atomicity p c r) h = omega (arith, one_byte value (codes "all_before") (codes "atomicity") kind h.0)
  no_all_before kind none (AllBefore a b) h = none a b h.1 h.2
  no_all_before kind none (FirstBefore a b) h = omega (arith, one_byte value (codes "all_before") (codes "first_before") kind h.0)

  pub no_first_before : HasKind value (codes "first_before") → ((a b : Site) → HasSite value (codes "a") a → HasSite value (codes "b") b → ⊥) → IsMisshapen value
  no_first_before kind none (Atomicity p c r) h = omega (arith, one_byte value (codes "first_before") (codes "atomicity") kind h.0)
  no_first_before kind none (AllBefore a b) h = omega (arith, one_byte value (codes "first_before") (codes "all_before") kind h.0)
  no_first_before kind none (FirstBefore a b) h = none a b h.1 h.2
