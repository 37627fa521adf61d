use Rattle.std.proofs.Common.{◌≡◌, ◌++◌, codes, map, drop}
use Rattle.c_prog.specs.Order.{joined}
use Rattle.c_print.specs.Text.Pieces.{text_of}
use Rattle.c_print.specs.Written.{function_with}
use Rattle.c_print.proofs.functions.add_more_functions.Given as goal

abbrev pub invariant-loop-function : goal.invariant-loop-function
invariant-loop-function l = record {
  written : l.text.items ++ joined (map (λ f. codes "\n" ++ text_of (function_with l.initial.names.globals l.initial.names.functions f)) (drop l.function-index l.functions))
      ≡ l.initial.text.items ++ joined (map (λ f. codes "\n" ++ text_of (function_with l.initial.names.globals l.initial.names.functions f)) l.functions);
  same_globals : l.names.globals ≡ l.initial.names.globals;
  same_functions : l.names.functions ≡ l.initial.names.functions;
}
