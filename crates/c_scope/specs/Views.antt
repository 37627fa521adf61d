-- Kinds, locals, meanings and uses, as the definitions speak of them.
use Rattle.c_prog.specs.Valid.Scope as s
use Rattle.c_names.specs.Uses as u
use Rattle.c_scope.specs.declared.kind.VarKind.{VarKind}
use Rattle.c_scope.specs.declared.kind.VarKind.TheVariants as kind
use Rattle.c_scope.specs.declared.local.Local.{Local}
use Rattle.c_scope.specs.declared.table.Meaning.{Meaning}
use Rattle.c_scope.specs.declared.table.Meaning.TheVariants as meaning
use Rattle.c_scope.specs.declared.uses.Use.{Use}
use Rattle.c_scope.specs.declared.uses.Use.TheVariants as found

abbrev pub kind_view : VarKind → s.VarKind
kind_view kind.Int = s.int
kind_view kind.IntArray = s.int_array
kind_view kind.Thread = s.thread
kind_view kind.ThreadArray = s.thread_array
kind_view kind.Mutex = s.mutex
kind_view kind.Cond = s.cond
kind_view kind.Argument = s.argument

abbrev pub local_view : Local → s.Local
local_view local = record { name = local.name; kind = kind_view local.kind; number = local.number }

abbrev pub meaning_view : Meaning → u.Meaning
meaning_view (meaning.Variable n kind) = u.OfVariable n (kind_view kind)
meaning_view (meaning.Function n kind params) = u.OfFunction n kind params
meaning_view (meaning.Number value) = u.OfNumber value

abbrev pub use_view : Use → u.Use
use_view (found.Local n kind) = u.IsLocal n (kind_view kind)
use_view (found.Global n kind) = u.IsGlobal n (kind_view kind)
use_view (found.Function n kind params) = u.IsFunction n kind params
use_view (found.Defined value) = u.IsDefined value
use_view found.Unknown = u.IsUnknown
