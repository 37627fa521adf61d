-- The words of a command: `patch PROG REPORTS`, `show PROG`, `replay PROG INPUT SCHED`, `erase PROG INPUT SCHED` and
-- `erase PROG INPUT SCHED LOCK ORDER`.
use Rattle.std.specs.Prelude.{ℕ, nat_le, Bool, ◌&&◌, eqb, List, [], ◌∷◌, map, codes, Option, Some, None, if◌then◌else◌, String, string_bytes}
use Rattle.std.specs.Fmt.{decimal}
use Rattle.std.specs.List.{list_any, starts_with}
use Rattle.std.specs.Str.{bytes_eq}
use Rattle.std.specs.Str.Parse.{digits_value}
use Rattle.std.specs.declared.alloc.Global.{Global}
use Rattle.cfix_base.specs.declared.mark.Marks.{Marks}
use Rattle.c_prog.specs.Marks.{all_new}
use Rattle.cfix_core.specs.declared.words.Request.{Request}
use Rattle.cfix_core.specs.declared.words.Request.TheVariants as request

-- the words as their bytes
abbrev pub texts : List (String Global) → List (List ℕ)
texts words = map string_bytes words

-- what the words ask for: a command, the names of its files, and the marks from which on operations are new
pub data Asked : Type 0 where
  patch : List ℕ → List ℕ → Asked
  show : List ℕ → Asked
  replay : List ℕ → List ℕ → List ℕ → Asked
  erase : List ℕ → List ℕ → List ℕ → Marks → Asked

abbrev pub asked_of : Request → Asked
asked_of (request.Patch source reports) = patch source.now reports.now
asked_of (request.Show source) = show source.now
asked_of (request.Replay source input schedule) = replay source.now input.now schedule.now
asked_of (request.Erase source input schedule marks) = erase source.now input.now schedule.now marks

-- a word that begins with `-`
abbrev pub is_option : List ℕ → Bool
is_option word = starts_with eqb word (codes "-")

-- `show PROG`
abbrev pub show_row : List ℕ → List ℕ → Option Asked
show_row command source = if bytes_eq command (codes "show") then Some (show source) else None

-- `patch PROG REPORTS`
abbrev pub patch_row : List ℕ → List ℕ → List ℕ → Option Asked
patch_row command source reports = if bytes_eq command (codes "patch") then Some (patch source reports) else None

-- the greatest mark that words may give
abbrev pub max_mark : ℕ
max_mark = 1000

-- a mark, if the word is its decimal digits without a leading zero
abbrev pub mark_of : List ℕ → Option ℕ
mark_of word =
    if bytes_eq word (decimal (digits_value 10 word)) && nat_le (digits_value 10 word) max_mark
    then Some (digits_value 10 word) else None

abbrev pub both_marks : Option ℕ → Option ℕ → Option Marks
both_marks (Some lock) (Some order) = Some (record { lock = lock; order = order })
both_marks _ _ = None

-- `erase PROG INPUT SCHED`, with marks
abbrev pub erase_row : List ℕ → List ℕ → List ℕ → List ℕ → Option Marks → Option Asked
erase_row command source input schedule None = None
erase_row command source input schedule (Some marks) =
    if bytes_eq command (codes "erase") then Some (erase source input schedule marks) else None

-- the rows of four words: the marks of `erase` are 0 and 0
abbrev pub run_row : List ℕ → List ℕ → List ℕ → List ℕ → Option Asked
run_row command source input schedule =
    if bytes_eq command (codes "replay") then Some (replay source input schedule)
    else erase_row command source input schedule (Some all_new)

-- the rows, by how many words they have
abbrev pub row_of : List (List ℕ) → Option Asked
row_of (command ∷ source ∷ []) = show_row command source
row_of (command ∷ source ∷ reports ∷ []) = patch_row command source reports
row_of (command ∷ source ∷ input ∷ schedule ∷ []) = run_row command source input schedule
row_of (command ∷ source ∷ input ∷ schedule ∷ lock ∷ order ∷ []) =
    erase_row command source input schedule (both_marks (mark_of lock) (mark_of order))
row_of _ = None

-- what the words ask for, if they are a row; no word of a row begins with `-`
abbrev pub request_of : List (List ℕ) → Option Asked
request_of words = if list_any is_option words then None else row_of words
