-- The text of reports.
use Rattle.std.specs.Prelude.{◌≡◌, ℕ, ◌<◌, ◌≤◌, List, ◌∷◌, ◌++◌, length, codes, Option, Some, None, option_and_then}
use Rattle.std.specs.Str.{IsUtf8}
use Rattle.cfix_base.specs.declared.limits.TheConstants.{MAX_REPORTS}
use Rattle.serde_json.specs.Data.{Data}
use Rattle.serde_json.specs.Find.{get}
use Rattle.serde_json.specs.Read.{read}
use Rattle.report_json.specs.declared.fault.ReportFault.{ReportFault}
use Rattle.report_json.specs.declared.fault.ReportFault.TheVariants.{NoMemory, BadJson, Shape, TooMany}
use Rattle.report_json.specs.declared.report.Report.{Report}
use Rattle.report_json.specs.Members.{elements_of, Each}
use Rattle.report_json.specs.Shapes.{IsReport, IsMisshapen}

-- the JSON value of a text (RFC 8259), with arrays and objects nested at most 127 deep
pub record IsJson (text : List ℕ) (value : Data) : Type 0 where
  pub utf8 : IsUtf8 text
  pub reads : read text ≡ Some value

abbrev pub IsNoJson : List ℕ → Type 0
IsNoJson text = (value : Data) → IsJson text value → ⊥

-- the values of the array `reports` of the outer object
abbrev pub outer : Data → Option (List Data)
outer value = option_and_then elements_of (get (codes "reports") value)

-- a text is JSON that holds these values as its reports
pub record Holds (text : List ℕ) (values : List Data) : Type 0 where
  pub value : Data
  pub is_json : IsJson text value
  pub shape : outer value ≡ Some values

-- a text is read as these reports
pub record SpellsReports (text : List ℕ) (reports : List Report) : Type 0 where
  pub values : List Data
  pub holds : Holds text values
  pub few : length values ≤ MAX_REPORTS
  pub each : Each IsReport values reports

-- the outer value is not of its shape
pub record HasNoReports (text : List ℕ) : Type 0 where
  pub value : Data
  pub is_json : IsJson text value
  pub no_shape : outer value ≡ None

-- there are more reports than may be
pub record HasTooManyReports (text : List ℕ) : Type 0 where
  pub values : List Data
  pub holds : Holds text values
  pub many : MAX_REPORTS < length values

-- value `number`, counted from 0, is the first that is no report
pub record IsFirstMisshapen (values : List Data) (number : ℕ) : Type 0 where
  pub good : List Data
  pub reports : List Report
  pub bad : Data
  pub more : List Data
  pub parts : values ≡ good ++ bad ∷ more
  pub each : Each IsReport good reports
  pub misshapen : IsMisshapen bad
  pub counted : number ≡ length good

-- report `number` of a text is the first that is not of its shape
pub record HasMisshapenReport (text : List ℕ) (number : ℕ) : Type 0 where
  pub values : List Data
  pub holds : Holds text values
  pub few : length values ≤ MAX_REPORTS
  pub first : IsFirstMisshapen values number

-- why a text is not read
abbrev pub ExplainsReportFault : List ℕ → ReportFault → Type 0
ExplainsReportFault text NoMemory = Unit {0}
ExplainsReportFault text BadJson = IsNoJson text
ExplainsReportFault text (Shape None) = HasNoReports text
ExplainsReportFault text (Shape (Some number)) = HasMisshapenReport text number
ExplainsReportFault text TooMany = HasTooManyReports text
