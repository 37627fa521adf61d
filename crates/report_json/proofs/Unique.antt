-- What a text is fixes its reports, or why there are none.
use Rattle.std.proofs.Common.{◌≡◌, ℕ, ◌<◌, ◌≤◌, ◌⊎◌, inl, inr, List, length, refl, sym, ap, subst, ◌∙◌, arith, Option, Some, None, Result, Ok, Err, IfOk, IfErr, codes}
use Rattle.cfix_base.specs.declared.access.Access.{Access}
use Rattle.cfix_base.specs.declared.limits.TheConstants.{MAX_REPORTS}
use Rattle.serde_json.specs.Data.{Data}
use Rattle.serde_json.specs.Find.{get}
use Rattle.report_json.specs.declared.fault.ReportFault.{ReportFault}
use Rattle.report_json.specs.declared.fault.ReportFault.TheVariants.{NoMemory, BadJson, Shape, TooMany}
use Rattle.report_json.specs.declared.report.CallSite.{CallSite}
use Rattle.report_json.specs.declared.report.Site.{Site}
use Rattle.report_json.specs.declared.report.Report.{Report}
use Rattle.report_json.specs.declared.report.Report.TheVariants.{Atomicity, AllBefore, FirstBefore}
use Rattle.report_json.specs.Members.{Each}
use Rattle.report_json.specs.Sites.{IsCallSite, IsStack, IsSite, HasSite}
use Rattle.report_json.specs.Shapes.{IsReport}
use Rattle.report_json.specs.Reading.{IsJson, IsNoJson, outer, Holds, SpellsReports, HasNoReports, HasTooManyReports, IsFirstMisshapen, HasMisshapenReport, ExplainsReportFault}
use Rattle.report_json.proofs.ReportKinds.{one_byte}
use Rattle.report_json.proofs.Related.{each-unique, each-bad, each-first}

call_made : List ℕ → ℕ → ℕ → CallSite
call_made name line nth = record { «of» = name; line = line; nth = nth }

same_call : (value : Data) (a b : CallSite) → IsCallSite value a → IsCallSite value b → a ≡ b
unfolding call_made
same_call value a b ha hb =
    let name : a.«of» ≡ b.«of» = cc in
    let line : a.line ≡ b.line = cc in
    let nth : a.nth ≡ b.nth = cc in
    ap (λ (z : List ℕ). call_made z a.line a.nth) name ∙ ap (λ (z : ℕ). call_made b.«of» z a.nth) line ∙ ap (λ (z : ℕ). call_made b.«of» b.line z) nth

same_stack : (found : Option Data) (xs ys : List CallSite) → IsStack found xs → IsStack found ys → xs ≡ ys
same_stack None xs ys ha hb = ha ∙ sym hb
same_stack (Some value) xs ys ha hb =
    let values : ha.0 ≡ hb.0 = let is = sym ha.1 ∙ hb.1 in cc in
    each-unique IsCallSite same_call hb.0 xs ys (subst (λ (z : List Data). Each IsCallSite z xs) values ha.2) hb.2

site_made : ℕ → List ℕ → Access → ℕ → List CallSite → Site
site_made line var access nth stack = record { line = line; var = var; access = access; nth = nth; stack = stack }

same_site : (value : Data) (a b : Site) → IsSite value a → IsSite value b → a ≡ b
unfolding site_made
same_site value a b ha hb =
    let line : a.line ≡ b.line = let is = sym ha.on_line ∙ hb.on_line in cc in
    let var : a.var ≡ b.var = let is = sym ha.of_variable ∙ hb.of_variable in cc in
    let access : a.access ≡ b.access = let is = sym ha.accesses ∙ hb.accesses in cc in
    let nth : a.nth ≡ b.nth = let is = sym ha.which ∙ hb.which in cc in
    let stack : a.stack ≡ b.stack = same_stack (get (codes "stack") value) a.stack b.stack ha.calls hb.calls in
    ap (λ (z : ℕ). site_made z a.var a.access a.nth a.stack) line ∙ ap (λ (z : List ℕ). site_made b.line z a.access a.nth a.stack) var
    ∙ ap (λ (z : Access). site_made b.line b.var z a.nth a.stack) access ∙ ap (λ (z : ℕ). site_made b.line b.var b.access z a.stack) nth
    ∙ ap (λ (z : List CallSite). site_made b.line b.var b.access b.nth z) stack

same_member : (holder : Data) (name : List ℕ) (a b : Site) → HasSite holder name a → HasSite holder name b → a ≡ b
same_member holder name a b ha hb =
    let values : ha.value ≡ hb.value = let is = sym ha.found ∙ hb.found in cc in
    same_site hb.value a b (subst (λ (z : Data). IsSite z a) values ha.is_site) hb.is_site

same_report : (value : Data) (a b : Report) → IsReport value a → IsReport value b → a ≡ b
same_report value (Atomicity p c r) (Atomicity q d s) ha hb =
    let first : p ≡ q = same_member value (codes "p") p q ha.1 hb.1 in
    let second : c ≡ d = same_member value (codes "c") c d ha.2 hb.2 in
    let third : r ≡ s = same_member value (codes "r") r s ha.3 hb.3 in
    cc
same_report value (Atomicity p c r) (AllBefore a b) ha hb = absurd (omega (arith, one_byte value (codes "atomicity") (codes "all_before") ha.0 hb.0))
same_report value (Atomicity p c r) (FirstBefore a b) ha hb = absurd (omega (arith, one_byte value (codes "atomicity") (codes "first_before") ha.0 hb.0))
same_report value (AllBefore a b) (Atomicity q d s) ha hb = absurd (omega (arith, one_byte value (codes "all_before") (codes "atomicity") ha.0 hb.0))
same_report value (AllBefore a b) (AllBefore e f) ha hb =
    let first : a ≡ e = same_member value (codes "a") a e ha.1 hb.1 in
    let second : b ≡ f = same_member value (codes "b") b f ha.2 hb.2 in
    cc
same_report value (AllBefore a b) (FirstBefore e f) ha hb = absurd (omega (arith, one_byte value (codes "all_before") (codes "first_before") ha.0 hb.0))
same_report value (FirstBefore a b) (Atomicity q d s) ha hb = absurd (omega (arith, one_byte value (codes "first_before") (codes "atomicity") ha.0 hb.0))
same_report value (FirstBefore a b) (AllBefore e f) ha hb = absurd (omega (arith, one_byte value (codes "first_before") (codes "all_before") ha.0 hb.0))
same_report value (FirstBefore a b) (FirstBefore e f) ha hb =
    let first : a ≡ e = same_member value (codes "a") a e ha.1 hb.1 in
    let second : b ≡ f = same_member value (codes "b") b f ha.2 hb.2 in
    cc

-- ---- one answer for a text

module _ (text : List ℕ) where
  same_json : (a b : Data) → IsJson text a → IsJson text b → a ≡ b
  same_json a b ha hb = let is = sym ha.reads ∙ hb.reads in cc

  same_outer : (a : Data) (found : Option (List Data)) → IsJson text a → outer a ≡ found → (values : List Data) → Holds text values → found ≡ Some values
  same_outer a found json shape values holds = sym shape ∙ ap outer (same_json a holds.value json holds.is_json) ∙ holds.shape

  same_values : (vs us : List Data) → Holds text vs → Holds text us → vs ≡ us
  same_values vs us hv hu = let is = same_outer hv.value (Some vs) hv.is_json hv.shape us hu in cc

  not_shape : (values : List Data) → Holds text values → HasNoReports text → ⊥
  not_shape values holds none = let is = same_outer none.value None none.is_json none.no_shape values holds in cc

  not_json : (value : Data) → IsJson text value → IsNoJson text → ⊥
  not_json value json none = none value json

  not_few : (vs us : List Data) → Holds text vs → Holds text us → length vs ≤ MAX_REPORTS → MAX_REPORTS < length us → ⊥
  not_few vs us hv hu few many = omega (arith, few, many, ap length (same_values vs us hv hu))

  not_misshapen : (vs us : List Data) (reports : List Report) (number : ℕ) → Holds text vs → Holds text us → Each IsReport vs reports → IsFirstMisshapen us number → ⊥
  not_misshapen vs us reports number hv hu each bad =
      each-bad IsReport bad.good bad.bad bad.more reports (subst (λ (z : List Data). Each IsReport z reports) (same_values vs us hv hu ∙ bad.parts) each) bad.misshapen

  same_number : (m n : ℕ) → HasMisshapenReport text m → HasMisshapenReport text n → m ≡ n
  same_number m n a b =
      let parts = sym a.first.parts ∙ same_values a.values b.values a.holds b.holds ∙ b.first.parts in
      a.first.counted ∙ each-first IsReport a.first.good b.first.good a.first.bad b.first.bad a.first.more b.first.more a.first.reports b.first.reports
      a.first.each b.first.each a.first.misshapen b.first.misshapen parts ∙ sym b.first.counted

  pub reads : (r : Result (List Report) ReportFault) → IfOk r (SpellsReports text) → IfErr r (ExplainsReportFault text)
      → (reports : List Report) → SpellsReports text reports → (r ≡ Ok reports) ⊎ (r ≡ Err NoMemory)
  reads (Ok got) ok refused reports spells =
      inl (ap Ok (each-unique IsReport same_report spells.values got reports
      (subst (λ (z : List Data). Each IsReport z got) (same_values ok.values spells.values ok.holds spells.holds) ok.each) spells.each))
  reads (Err NoMemory) ok refused reports spells = inr refl
  reads (Err BadJson) ok refused reports spells = absurd (not_json spells.holds.value spells.holds.is_json refused)
  reads (Err (Shape None)) ok refused reports spells = absurd (not_shape spells.values spells.holds refused)
  reads (Err (Shape (Some number))) ok refused reports spells = absurd (not_misshapen spells.values refused.values reports number spells.holds refused.holds spells.each refused.first)
  reads (Err TooMany) ok refused reports spells = absurd (not_few spells.values refused.values spells.holds refused.holds spells.few refused.many)

  pub bad_json : (r : Result (List Report) ReportFault) → IfOk r (SpellsReports text) → IfErr r (ExplainsReportFault text)
      → IsNoJson text → (r ≡ Err BadJson) ⊎ (r ≡ Err NoMemory)
  bad_json (Ok got) ok refused none = absurd (not_json ok.holds.value ok.holds.is_json none)
  bad_json (Err NoMemory) ok refused none = inr refl
  bad_json (Err BadJson) ok refused none = inl refl
  bad_json (Err (Shape None)) ok refused none = absurd (not_json refused.value refused.is_json none)
  bad_json (Err (Shape (Some number))) ok refused none = absurd (not_json refused.holds.value refused.holds.is_json none)
  bad_json (Err TooMany) ok refused none = absurd (not_json refused.holds.value refused.holds.is_json none)

  pub outer_shape : (r : Result (List Report) ReportFault) → IfOk r (SpellsReports text) → IfErr r (ExplainsReportFault text)
      → HasNoReports text → (r ≡ Err (Shape None)) ⊎ (r ≡ Err NoMemory)
  outer_shape (Ok got) ok refused none = absurd (not_shape ok.values ok.holds none)
  outer_shape (Err NoMemory) ok refused none = inr refl
  outer_shape (Err BadJson) ok refused none = absurd (not_json none.value none.is_json refused)
  outer_shape (Err (Shape None)) ok refused none = inl refl
  outer_shape (Err (Shape (Some number))) ok refused none = absurd (not_shape refused.values refused.holds none)
  outer_shape (Err TooMany) ok refused none = absurd (not_shape refused.values refused.holds none)

  pub too_many : (r : Result (List Report) ReportFault) → IfOk r (SpellsReports text) → IfErr r (ExplainsReportFault text)
      → HasTooManyReports text → (r ≡ Err TooMany) ⊎ (r ≡ Err NoMemory)
  too_many (Ok got) ok refused more = absurd (not_few ok.values more.values ok.holds more.holds ok.few more.many)
  too_many (Err NoMemory) ok refused more = inr refl
  too_many (Err BadJson) ok refused more = absurd (not_json more.holds.value more.holds.is_json refused)
  too_many (Err (Shape None)) ok refused more = absurd (not_shape more.values more.holds refused)
  too_many (Err (Shape (Some number))) ok refused more = absurd (not_few refused.values more.values refused.holds more.holds refused.few more.many)
  too_many (Err TooMany) ok refused more = inl refl

  pub report_shape : (r : Result (List Report) ReportFault) → IfOk r (SpellsReports text) → IfErr r (ExplainsReportFault text)
      → (number : ℕ) → HasMisshapenReport text number → (r ≡ Err (Shape (Some number))) ⊎ (r ≡ Err NoMemory)
  report_shape (Ok got) ok refused number bad = absurd (not_misshapen ok.values bad.values got number ok.holds bad.holds ok.each bad.first)
  report_shape (Err NoMemory) ok refused number bad = inr refl
  report_shape (Err BadJson) ok refused number bad = absurd (not_json bad.holds.value bad.holds.is_json refused)
  report_shape (Err (Shape None)) ok refused number bad = absurd (not_shape bad.values bad.holds refused)
  report_shape (Err (Shape (Some other))) ok refused number bad = inl (ap (λ (n : ℕ). Err (Shape (Some n))) (same_number other number refused bad))
  report_shape (Err TooMany) ok refused number bad = absurd (not_few bad.values refused.values bad.holds refused.holds bad.few refused.many)
