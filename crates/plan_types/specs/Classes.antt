-- The classes of atomicity reports. Report i has the guard at place i of a list of sets of nodes.
use Rattle.std.specs.Prelude.{ℕ, ◌≡◌, ◌<◌, ◌↔◌, Bool, List, [], ◌∷◌, length, slice_index_or, All, Any, AllPairs, Contains}
use Rattle.plan_types.specs.declared.class.Class.{Class}
use Rattle.plan_types.specs.Sets.{IsIn}

-- the guard of a report; of a number past the last report, no nodes
abbrev pub guard_of : List (List Bool) → ℕ → List Bool
guard_of guards report = slice_index_or guards report []

-- the guards of two reports share a node
abbrev pub Share : List (List Bool) → ℕ → ℕ → Type 0
Share guards one other = (node : ℕ) × IsIn (guard_of guards one) node × IsIn (guard_of guards other) node

-- from one report these reports lead to another: the guards of neighbours share a node
abbrev pub Leads : List (List Bool) → ℕ → List ℕ → ℕ → Type 0
Leads guards from [] to = from ≡ to
Leads guards from (next ∷ rest) to = Share guards from next × Leads guards next rest to

-- some list of reports leads from one report to another
abbrev pub AreJoined : List (List Bool) → ℕ → ℕ → Type 0
AreJoined guards one other = (reports : List ℕ) × Leads guards one reports other

-- the first report of a class, which is its least
abbrev pub least_of : Class → ℕ
least_of class = slice_index_or class.reports 0 0

-- a node of the guard of some of these reports
abbrev pub Guards : List (List Bool) → List ℕ → ℕ → Type 0
Guards guards reports node = Any (λ report. IsIn (guard_of guards report) node) reports

-- the class of its least report: all reports joined to it, rising, and the union of their guards
pub record IsClass (guards : List (List Bool)) (class : Class) : Type 0 where
  pub has_report : 0 < length class.reports
  pub rising : AllPairs (λ one other. one < other) class.reports
  pub joined : (report : ℕ) → Contains class.reports report ↔ ((report < length guards) × AreJoined guards (least_of class) report)
  pub size : length class.nodes ≡ length (guard_of guards (least_of class))
  pub union : (node : ℕ) → IsIn class.nodes node ↔ Guards guards class.reports node

-- the classes of the reports: each report is in one, and they are numbered by their least report
pub record AreClasses (guards : List (List Bool)) (classes : List Class) : Type 0 where
  pub each : All (IsClass guards) classes
  pub every : (report : ℕ) → report < length guards → Any (λ class. Contains class.reports report) classes
  pub numbered : AllPairs (λ one other. least_of one < least_of other) classes
