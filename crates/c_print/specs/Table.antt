-- A table of names as the names of the definitions.
use Rattle.c_print.specs.declared.names.NameTable.{NameTable}
use Rattle.c_print.specs.Text.Names.{Names}

abbrev pub named : NameTable → Names
named table = record { globals = table.globals; functions = table.functions; locals = table.locals }
