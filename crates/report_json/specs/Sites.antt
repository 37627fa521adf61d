-- The sites of a report.
use Rattle.std.specs.Prelude.{◌≡◌, ℕ, List, [], codes, Option, Some, None}
use Rattle.serde_json.specs.Data.{Data}
use Rattle.serde_json.specs.Find.{get}
use Rattle.report_json.specs.declared.report.CallSite.{CallSite}
use Rattle.report_json.specs.declared.report.Site.{Site}
use Rattle.report_json.specs.Members.{line_of, nth_of, text_of, access_of, elements_of, Each}

-- an object is a call of a stack
pub record IsCallSite (value : Data) (call : CallSite) : Type 0 where
  pub of_function : text_of (codes "fn") value ≡ Some call.of
  pub on_line : line_of value ≡ Some call.line
  pub which : nth_of value ≡ Some call.nth

-- a stack is an array of calls, and empty where it is missing
abbrev pub IsStack : Option Data → List CallSite → Type 0
IsStack None calls = calls ≡ []
IsStack (Some value) calls = (values : List Data) × (elements_of value ≡ Some values) × Each IsCallSite values calls

-- an object is a site; `nth` and `stack` may be missing, and other members are passed over
pub record IsSite (value : Data) (site : Site) : Type 0 where
  pub on_line : line_of value ≡ Some site.line
  pub of_variable : text_of (codes "var") value ≡ Some site.var
  pub accesses : access_of value ≡ Some site.access
  pub which : nth_of value ≡ Some site.nth
  pub calls : IsStack (get (codes "stack") value) site.stack

-- the member of this name is a site
pub record HasSite (holder : Data) (name : List ℕ) (site : Site) : Type 0 where
  pub value : Data
  pub found : get name holder ≡ Some value
  pub is_site : IsSite value site
