-- The flaw for each fault of the tokens, of the grammar and of the names.
use Rattle.std.specs.Prelude.{Option, Some, None}
use Rattle.cfix_base.specs.declared.spot.Spot.{Spot}
use Rattle.c_lex.specs.declared.fault.LexFault.{LexFault}
use Rattle.c_lex.specs.declared.fault.LexFault.TheVariants as lex
use Rattle.c_parse.specs.declared.fault.ParseFault.{ParseFault}
use Rattle.c_parse.specs.declared.fault.ParseFault.TheVariants as parse
use Rattle.c_types.specs.declared.fault.NameFault.{NameFault}
use Rattle.c_types.specs.declared.fault.NameFault.TheVariants as name
use Rattle.c_names.specs.declared.fault.Fault.{Fault}
use Rattle.c_names.specs.declared.fault.FaultKind.{FaultKind}
use Rattle.c_names.specs.declared.fault.FaultKind.TheVariants as kind
use Rattle.c_read.specs.declared.flaw.FlawKind.{FlawKind}
use Rattle.c_read.specs.declared.flaw.FlawKind.TheVariants.{BadByte, OpenComment, BadString, BadNumber, TooMany, Unexpected, Deep, Unknown, Twice, Arity, WrongUse, NoReturn, RootCalled, Reserved, Limit}
use Rattle.c_read.specs.declared.flaw.Flaw.{Flaw}
use Rattle.c_read.specs.declared.flaw.ReadFault.{ReadFault}
use Rattle.c_read.specs.declared.flaw.ReadFault.TheVariants.{NoMemory, Flawed}

abbrev pub flaw : FlawKind → Spot → Flaw
flaw kind spot = record { kind = kind; spot = spot }

-- the flaw for a fault of the tokens; want of memory is none
abbrev pub token_flaw : LexFault → Option Flaw
token_flaw lex.NoMemory = None
token_flaw (lex.BadByte spot) = Some (flaw BadByte spot)
token_flaw (lex.OpenComment spot) = Some (flaw OpenComment spot)
token_flaw (lex.BadString spot) = Some (flaw BadString spot)
token_flaw (lex.BadNumber spot) = Some (flaw BadNumber spot)
token_flaw (lex.TooMany spot) = Some (flaw TooMany spot)

-- the flaw for a fault of the grammar
abbrev pub grammar_flaw : ParseFault → Option Flaw
grammar_flaw parse.NoMemory = None
grammar_flaw (parse.Unexpected spot) = Some (flaw Unexpected spot)
grammar_flaw (parse.Deep spot) = Some (flaw Deep spot)

abbrev pub name_kind : FaultKind → FlawKind
name_kind kind.Unknown = Unknown
name_kind kind.Twice = Twice
name_kind kind.Arity = Arity
name_kind kind.WrongUse = WrongUse
name_kind kind.NoReturn = NoReturn
name_kind kind.RootCalled = RootCalled
name_kind kind.Reserved = Reserved
name_kind kind.Limit = Limit

-- the flaw for a fault of the names
abbrev pub name_flaw : Fault → Flaw
name_flaw fault = flaw (name_kind fault.kind) fault.spot

-- an answer that tells a flaw, or that there was no memory
abbrev pub answer_of : Option Flaw → ReadFault
answer_of None = NoMemory
answer_of (Some f) = Flawed f

abbrev pub token_answer : LexFault → ReadFault
token_answer fault = answer_of (token_flaw fault)

abbrev pub grammar_answer : ParseFault → ReadFault
grammar_answer fault = answer_of (grammar_flaw fault)

abbrev pub name_answer : NameFault → ReadFault
name_answer name.NoMemory = NoMemory
name_answer (name.Unknown spot) = Flawed (flaw Unknown spot)
name_answer (name.Twice spot) = Flawed (flaw Twice spot)
name_answer (name.Arity spot) = Flawed (flaw Arity spot)
name_answer (name.WrongUse spot) = Flawed (flaw WrongUse spot)
name_answer (name.NoReturn spot) = Flawed (flaw NoReturn spot)
name_answer (name.RootCalled spot) = Flawed (flaw RootCalled spot)
name_answer (name.Reserved spot) = Flawed (flaw Reserved spot)
name_answer (name.Limit spot) = Flawed (flaw Limit spot)
