-- Why a command was not done: the status and the line to the notes of each reason.
use Rattle.std.specs.Prelude.{ℕ, List, [], ◌∷◌, ◌++◌, codes, Option, Some, None}
use Rattle.std.specs.Fmt.{decimal}
use Rattle.cfix_core.specs.Words.{Asked}
use Rattle.cfix_core.specs.NamedFiles.{file_name, limit_of}
use Rattle.cfix_base.specs.declared.number.NodeId.{NodeId}
use Rattle.c_read.specs.declared.flaw.Flaw.{Flaw}
use Rattle.c_read.specs.declared.flaw.FlawKind.{FlawKind}
use Rattle.c_read.specs.declared.flaw.FlawKind.TheVariants as flaw
use Rattle.report_bind.specs.declared.fault.Role.{Role}
use Rattle.report_bind.specs.declared.fault.Role.TheVariants.{P, C, R, A, B}
use Rattle.cfix_core.specs.declared.failure.Refusal.{Refusal}
use Rattle.cfix_core.specs.declared.failure.Refusal.TheVariants as refused
use Rattle.cfix_core.specs.declared.failure.Failure.{Failure}
use Rattle.cfix_core.specs.declared.failure.Failure.TheVariants as failure
use Rattle.cfix_core.specs.declared.stop.NamedFile.{NamedFile}
use Rattle.cfix_core.specs.declared.stop.Stop.{Stop}
use Rattle.cfix_core.specs.declared.stop.Stop.TheVariants.{NoMemory, CannotRead, TooLong, CannotWrite, Refused}

abbrev pub or_empty : Option (List ℕ) → List ℕ
or_empty None = []
or_empty (Some name) = name

-- the word that names a file
abbrev pub word_of : NamedFile → Asked → List ℕ
word_of file asked = or_empty (file_name file asked)

abbrev pub stop_of : Failure → Stop
stop_of failure.NoMemory = NoMemory
stop_of (failure.Refused refusal) = Refused refusal

-- 6 for the source, 7 for the reports, 8 for what a report means, 9 for the input and the schedule
abbrev pub refusal_status : Refusal → ℕ
refusal_status (refused.Source flaw) = 6
refusal_status refused.Form = 6
refusal_status refused.NotJson = 7
refusal_status (refused.Shape which) = 7
refusal_status refused.TooMany = 7
refusal_status refused.Reports = 7
refusal_status (refused.NoSite role) = 8
refusal_status (refused.StackBroken role) = 8
refusal_status (refused.NoPath np nc) = 8
refusal_status refused.OtherMode = 7
refusal_status (refused.BadNumber start) = 9
refusal_status (refused.BadEntry number) = 9
refusal_status refused.TooManyEntries = 9
refusal_status (refused.NotEnabled number) = 9

abbrev pub status_of : Stop → ℕ
status_of NoMemory = 3
status_of (CannotRead file) = 4
status_of (TooLong file) = 4
status_of CannotWrite = 5
status_of (Refused refusal) = refusal_status refusal

abbrev pub letter_of : Role → List ℕ
letter_of P = codes "p"
letter_of C = codes "c"
letter_of R = codes "r"
letter_of A = codes "a"
letter_of B = codes "b"

-- a text, as a line
abbrev pub ended : List ℕ → List ℕ
ended text = text ++ 10 ∷ []

abbrev pub words_line : List ℕ
words_line = ended (codes "cfix: bad words")

abbrev pub read_line : List ℕ → List ℕ
read_line name = codes "cfix: cannot read " ++ ended name

abbrev pub limit_end : ℕ → List ℕ
limit_end limit = decimal limit ++ ended (codes " bytes")

abbrev pub long_line : List ℕ → ℕ → List ℕ
long_line name limit = codes "cfix: " ++ (name ++ (codes " is longer than " ++ limit_end limit))

abbrev pub site_line : Role → List ℕ
site_line role = codes "cfix: report 0: no site for " ++ ended (letter_of role)

abbrev pub stack_line : Role → List ℕ
stack_line role = codes "cfix: report 0: broken stack of " ++ ended (letter_of role)

-- a number that ends a line
abbrev pub number_end : ℕ → List ℕ
number_end number = decimal number ++ 10 ∷ []

abbrev pub path_start : ℕ → List ℕ
path_start number = codes "cfix: report 0: no path from node " ++ (decimal number ++ codes " to node ")

abbrev pub path_line : NodeId → NodeId → List ℕ
path_line np nc = path_start np.number ++ number_end nc.number

-- what is wrong with a source
abbrev pub kind_text : FlawKind → List ℕ
kind_text flaw.BadByte = codes "bad byte"
kind_text flaw.OpenComment = codes "comment is not closed"
kind_text flaw.BadString = codes "bad string"
kind_text flaw.BadNumber = codes "bad number"
kind_text flaw.TooMany = codes "too many tokens"
kind_text flaw.Unexpected = codes "unexpected token"
kind_text flaw.Deep = codes "nested too deep"
kind_text flaw.Unknown = codes "unknown name"
kind_text flaw.Twice = codes "name declared twice"
kind_text flaw.Arity = codes "wrong number of arguments"
kind_text flaw.WrongUse = codes "wrong use"
kind_text flaw.NoReturn = codes "end of function without a value"
kind_text flaw.RootCalled = codes "thread function called"
kind_text flaw.Reserved = codes "reserved name"
kind_text flaw.Limit = codes "limit passed"

abbrev pub source_start : ℕ → List ℕ
source_start line = codes "cfix: source line " ++ (decimal line ++ codes ": ")

-- the line of the text, from 1, and what is wrong there
abbrev pub source_line : Flaw → List ℕ
source_line flaw = source_start flaw.spot.line ++ ended (kind_text flaw.kind)

abbrev pub report_shape_line : ℕ → List ℕ
report_shape_line number = codes "cfix: report " ++ (decimal number ++ ended (codes ": wrong shape"))

-- the outer shape of the reports, or the shape of the report with this number
abbrev pub shape_line : Option ℕ → List ℕ
shape_line None = ended (codes "cfix: reports: wrong shape")
shape_line (Some number) = report_shape_line number

-- the byte of the text, from 0, at which the malformed word begins
abbrev pub input_line : ℕ → List ℕ
input_line start = codes "cfix: input byte " ++ (decimal start ++ ended (codes ": bad number"))

-- the line of the text, from 1, that is malformed
abbrev pub schedule_line : ℕ → List ℕ
schedule_line number = codes "cfix: schedule line " ++ (decimal number ++ ended (codes ": bad entry"))

-- the entry, from 1, that makes no step
abbrev pub entry_line : ℕ → List ℕ
entry_line number = codes "cfix: entry " ++ (decimal number ++ ended (codes " is not enabled"))

abbrev pub refusal_line : Refusal → List ℕ
refusal_line (refused.Source flaw) = source_line flaw
refusal_line refused.Form = ended (codes "cfix: source is outside the first form")
refusal_line refused.NotJson = ended (codes "cfix: reports: not JSON")
refusal_line (refused.Shape which) = shape_line which
refusal_line refused.TooMany = ended (codes "cfix: reports: more than 200")
refusal_line refused.Reports = ended (codes "cfix: reports: outside the first form")
refusal_line (refused.NoSite role) = site_line role
refusal_line (refused.StackBroken role) = stack_line role
refusal_line (refused.NoPath np nc) = path_line np nc
refusal_line refused.OtherMode = ended (codes "cfix: reports: outside the first form")
refusal_line (refused.BadNumber start) = input_line start
refusal_line (refused.BadEntry number) = schedule_line number
refusal_line refused.TooManyEntries = ended (codes "cfix: schedule: more than 1000000 entries")
refusal_line (refused.NotEnabled number) = entry_line number

abbrev pub line_of : Asked → Stop → List ℕ
line_of asked NoMemory = ended (codes "cfix: no memory")
line_of asked (CannotRead file) = read_line (word_of file asked)
line_of asked (TooLong file) = long_line (word_of file asked) (limit_of file)
line_of asked CannotWrite = ended (codes "cfix: cannot write")
line_of asked (Refused refusal) = refusal_line refusal
