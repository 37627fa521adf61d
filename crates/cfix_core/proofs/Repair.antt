-- What is accepted is not refused, and what is refused is refused for one reason.
use Rattle.std.proofs.Common.{◌≡◌, ◌⊎◌, inl, inr, Bool, true, false, ℕ, List, Option, Some, None, Result, Ok, Err, subst, ap, sym, ◌∙◌, refl}
use Rattle.c_prog.specs.Lines.{SourceTree}
use Rattle.report_json.specs.declared.fault.ReportFault.{ReportFault}
use Rattle.report_json.specs.declared.fault.ReportFault.TheVariants as fault
use Rattle.report_json.specs.declared.report.Report.{Report}
use Rattle.report_json.specs.Reading.{SpellsReports, ExplainsReportFault}
use Rattle.report_json.proofs.Unique.{reads, bad_json, outer_shape, too_many, report_shape}
use Rattle.first_form.specs.Form.{is_first_form}
use Rattle.c_read.proofs.Once.{one_flaw, no_flaw, one_reading}
use Rattle.cfix_core.specs.OneReport.{only_report}
use Rattle.cfix_core.specs.Repair.{IsReport, OtherReports, Reads, in_one_visit, Visits, OtherVisits, refusal_for, Breaks, Unbound, refusal_of, Wrong, RefusedBy, IsAccepted, Repaired}
use Rattle.cfix_core.specs.declared.failure.Refusal.{Refusal}
use Rattle.cfix_core.specs.declared.failure.Refusal.TheVariants.{Source, Form}
use Rattle.cfix_core.specs.Sources.{IsRefusedSource, Shown, IsFirstSource, IsOtherSource, IsNoFirstSource}
use Rattle.c_names.specs.Texts.{Accepts}
use Rattle.c_names.specs.Sources.{source_of}
use Rattle.c_read.specs.Reading.{Reads as IsReadAs}
use Rattle.cfix_core.proofs.OneAnswer.{one_bound, one_fault, bound_refused}

none_some : {X : Type 0} (o : Option X) (x : X) → o ≡ None → o ≡ Some x → ⊥
none_some o x e f = cc

same_value : {X : Type 0} (o : Option X) (x y : X) → o ≡ Some x → o ≡ Some y → x ≡ y
same_value o x y e f = cc

false_true : (b : Bool) → b ≡ false → b ≡ true → ⊥
false_true b e f = cc

-- ---- the source

same_source : (text : List ℕ) (a b : SourceTree) → IsFirstSource text a → IsFirstSource text b → a ≡ b
same_source text a b p q = one_reading text a b p.reads q.reads

-- a source that is read is not refused
pub refused_reads : (refusal : Refusal) (text : List ℕ) (source : SourceTree) → IsRefusedSource refusal text → IsReadAs text source → ⊥
refused_reads refusal text source p q = no_flaw text source p.flaw q p.flawed

pub one_refused_source : (a b : Refusal) (text : List ℕ) → IsRefusedSource a text → IsRefusedSource b text → b ≡ a
one_refused_source a b text p q = q.is_refusal ∙ ap Source (one_flaw text q.flaw p.flaw q.flawed p.flawed) ∙ sym p.is_refusal

pub not_shown : (refusal : Refusal) (text shown : List ℕ) → Shown text shown → IsRefusedSource refusal text → ⊥
not_shown refusal text shown p q = refused_reads refusal text p.source q p.reads

pub not_refused_source : (refusal : Refusal) (text : List ℕ) → Accepts text → IsRefusedSource refusal text → ⊥
not_refused_source refusal text a q =
    refused_reads refusal text (source_of a.file) q (record { accepted = a; is_source = refl })

other_first : (text : List ℕ) (source : SourceTree) → IsOtherSource text → IsFirstSource text source → ⊥
other_first text source p q =
    false_true (is_first_form source.tree)
    (sym (ap (λ (s : SourceTree). is_first_form s.tree) (one_reading text p.source source p.reads q.reads)) ∙ p.other) q.form

no_first : (refusal : Refusal) (text : List ℕ) (source : SourceTree) → IsNoFirstSource refusal text → IsFirstSource text source → ⊥
no_first refusal text source (inl p) q = refused_reads refusal text source p q.reads
no_first refusal text source (inr p) q = other_first text source p.1 q

no_first_once : (a b : Refusal) (text : List ℕ) → IsNoFirstSource a text → IsNoFirstSource b text → b ≡ a
no_first_once a b text (inl p) (inl q) = one_refused_source a b text p q
no_first_once a b text (inl p) (inr q) = absurd (refused_reads a text q.1.source p q.1.reads)
no_first_once a b text (inr p) (inl q) = absurd (refused_reads b text p.1.source q p.1.reads)
no_first_once a b text (inr p) (inr q) = q.0 ∙ sym p.0

-- ---- the reports

module _ (reports : List ℕ) where
  abbrev Real : ReportFault → Refusal → Type 0
  Real f refusal = refusal_of f ≡ Some refusal

  abbrev failed : ReportFault → Result (List Report) ReportFault
  failed f = Err f

  abbrev given : List Report → Result (List Report) ReportFault
  given list = Ok list

  unreal : (f : ReportFault) (refusal : Refusal) → Real f refusal → failed f ≡ failed fault.NoMemory → ⊥
  unreal f refusal real e =
      let same : f ≡ fault.NoMemory = cc in
      none_some (refusal_of fault.NoMemory) refusal refl (sym (ap refusal_of same) ∙ real)

  picked : (f g : ReportFault) (refusal : Refusal) → Real f refusal
      → (failed f ≡ failed g) ⊎ (failed f ≡ failed fault.NoMemory) → f ≡ g
  picked f g refusal real (inl e) = cc
  picked f g refusal real (inr e) = absurd (unreal f refusal real e)

  fault_once : (f g : ReportFault) (a b : Refusal) → Real f a → Real g b → ExplainsReportFault reports f
      → ExplainsReportFault reports g → f ≡ g
  fault_once f fault.NoMemory a b real other p q = absurd (none_some (refusal_of fault.NoMemory) b refl other)
  fault_once f fault.BadJson a b real other p q = picked f fault.BadJson a real (bad_json reports (Err f) tt p q)
  fault_once f (fault.Shape None) a b real other p q = picked f (fault.Shape None) a real (outer_shape reports (Err f) tt p q)
  fault_once f (fault.Shape (Some n)) a b real other p q = picked f (fault.Shape (Some n)) a real (report_shape reports (Err f) tt p n q)
  fault_once f fault.TooMany a b real other p q = picked f fault.TooMany a real (too_many reports (Err f) tt p q)

  spelled_or : (f : ReportFault) (refusal : Refusal) (list : List Report) → Real f refusal
      → (failed f ≡ given list) ⊎ (failed f ≡ failed fault.NoMemory) → ⊥
  spelled_or f refusal list real (inl e) = cc
  spelled_or f refusal list real (inr e) = unreal f refusal real e

  fault_spells : (f : ReportFault) (refusal : Refusal) (list : List Report) → Real f refusal → ExplainsReportFault reports f
      → SpellsReports reports list → ⊥
  fault_spells f refusal list real p q = spelled_or f refusal list real (reads reports (Err f) tt p list q)

  ok_once : (a b : List Report) → (given a ≡ given b) ⊎ (given a ≡ failed fault.NoMemory) → a ≡ b
  ok_once a b (inl e) = cc
  ok_once a b (inr e) = cc

  spells_once : (a b : List Report) → SpellsReports reports a → SpellsReports reports b → a ≡ b
  spells_once a b p q = ok_once a b (reads reports (Ok a) p tt b q)

  same_report : (a b : Report) → IsReport reports a → IsReport reports b → a ≡ b
  same_report a b p q =
      same_value (only_report q.list) a b (sym (ap only_report (spells_once p.list q.list p.spells q.spells)) ∙ p.only) q.only

  other_report : (report : Report) → OtherReports reports → IsReport reports report → ⊥
  other_report report p q =
      none_some (only_report q.list) report (sym (ap only_report (spells_once p.list q.list p.spells q.spells)) ∙ p.other) q.only

  wrong_report : (refusal : Refusal) (report : Report) → Wrong refusal reports → IsReport reports report → ⊥
  wrong_report refusal report (inl p) q = fault_spells p.fault refusal q.list p.is_fault p.explained q.spells
  wrong_report refusal report (inr p) q = other_report report p.1 q

  wrong_once : (a b : Refusal) → Wrong a reports → Wrong b reports → b ≡ a
  wrong_once a b (inl p) (inl q) =
      same_value (refusal_of q.fault) b a q.is_fault
      (sym (ap refusal_of (fault_once p.fault q.fault a b p.is_fault q.is_fault p.explained q.explained)) ∙ p.is_fault)
  wrong_once a b (inl p) (inr q) = absurd (fault_spells p.fault a q.1.list p.is_fault p.explained q.1.spells)
  wrong_once a b (inr p) (inl q) = absurd (fault_spells q.fault b p.1.list q.is_fault q.explained p.1.spells)
  wrong_once a b (inr p) (inr q) = q.0 ∙ sym p.0

-- ---- what the one report means

module _ (program : SourceTree) (report : Report) where
  other_mode : (refusal : Refusal) → Breaks refusal program report → Visits program report → ⊥
  other_mode refusal h v = bound_refused program report v.bound h.fault v.binds h.refuses

  one_visit_other : Visits program report → OtherVisits program report → ⊥
  one_visit_other v h =
      false_true (in_one_visit h.bound) h.other
      (ap in_one_visit (one_bound program report h.bound v.bound h.binds v.binds) ∙ v.one_visit)

  unbound_visits : (refusal : Refusal) → Unbound refusal program report → Visits program report → ⊥
  unbound_visits refusal (inl h) v = other_mode refusal h v
  unbound_visits refusal (inr h) v = one_visit_other v h.1

  unbound_once : (a b : Refusal) → Unbound a program report → Unbound b program report → b ≡ a
  unbound_once a b (inl p) (inl q) =
      same_value (refusal_for q.fault) b a q.is_fault
      (sym (ap refusal_for (one_fault program report p.fault q.fault p.refuses q.refuses)) ∙ p.is_fault)
  unbound_once a b (inl p) (inr q) = absurd (bound_refused program report q.1.bound p.fault q.1.binds p.refuses)
  unbound_once a b (inr p) (inl q) = absurd (bound_refused program report p.1.bound q.fault p.1.binds q.refuses)
  unbound_once a b (inr p) (inr q) = q.0 ∙ sym p.0

-- ---- the two files

-- what is said of what the files read as is said of all that they read as
moved : (S : SourceTree → Report → Type 0) (source reports : List ℕ) (a b : Reads source reports) → S b.program b.report
    → S a.program a.report
moved S source reports a b p =
    subst (λ report. S a.program report) (same_report reports b.report a.report b.is_report a.is_report)
    (subst (λ program. S program b.report) (same_source source b.program a.program b.is_source a.is_source) p)

-- nothing is answered but what is accepted
pub not_refused : (refusal : Refusal) (source reports : List ℕ) → IsAccepted source reports → RefusedBy refusal source reports → ⊥
not_refused refusal source reports a (inl p) = no_first refusal source a.reads.program p a.reads.is_source
not_refused refusal source reports a (inr (inl p)) = wrong_report reports refusal a.reads.report p.wrong a.reads.is_report
not_refused refusal source reports a (inr (inr p)) =
    unbound_visits a.reads.program a.reads.report refusal (moved (Unbound refusal) source reports a.reads p.reads p.unbound) a.visits

-- what is written is not refused
pub not_repaired : (refusal : Refusal) (source reports text : List ℕ) → Repaired source reports text → RefusedBy refusal source reports → ⊥
not_repaired refusal source reports text repaired why =
    not_refused refusal source reports (record { reads = repaired.reads; visits = repaired.repaired.visits }) why

pub one_refusal : (a b : Refusal) (source reports : List ℕ) → RefusedBy a source reports → RefusedBy b source reports → b ≡ a
one_refusal a b source reports (inl p) (inl q) = no_first_once a b source p q
one_refusal a b source reports (inl p) (inr (inl q)) = absurd (no_first a source q.program p q.is_source)
one_refusal a b source reports (inl p) (inr (inr q)) = absurd (no_first a source q.reads.program p q.reads.is_source)
one_refusal a b source reports (inr (inl p)) (inl q) = absurd (no_first b source p.program q p.is_source)
one_refusal a b source reports (inr (inl p)) (inr (inl q)) = wrong_once reports a b p.wrong q.wrong
one_refusal a b source reports (inr (inl p)) (inr (inr q)) = absurd (wrong_report reports a q.reads.report p.wrong q.reads.is_report)
one_refusal a b source reports (inr (inr p)) (inl q) = absurd (no_first b source p.reads.program q p.reads.is_source)
one_refusal a b source reports (inr (inr p)) (inr (inl q)) = absurd (wrong_report reports b p.reads.report q.wrong p.reads.is_report)
one_refusal a b source reports (inr (inr p)) (inr (inr q)) =
    unbound_once p.reads.program p.reads.report a b p.unbound (moved (Unbound b) source reports p.reads q.reads q.unbound)
