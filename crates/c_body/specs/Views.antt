-- What a statement stands in, as the definitions speak of it.
use Rattle.c_prog.specs.Valid.Statements as s
use Rattle.c_body.specs.declared.around.Around.{Around}

abbrev pub around_view : Around → s.Around
around_view around = record { kind = around.kind; in_loop = around.in_loop }
