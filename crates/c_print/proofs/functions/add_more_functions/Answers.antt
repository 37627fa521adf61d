use Rattle.std.proofs.Common.{◌≡◌, ◌+◌, ◌∷◌, ◌++◌, codes, drop, ap, ◌∙◌, arith}
use Rattle.std.proofs.lemmas.Grind.{common_steps}
use Rattle.c_print.specs.Text.Pieces.{text_of}
use Rattle.c_print.specs.Written.{function_with}
use Rattle.c_print.proofs.Programs.{one-more}
use Rattle.c_print.proofs.functions.add_more_functions.Goals as goal

pub loop-function-preserved : goal.loop-function-preserved
loop-function-preserved c =
    let globals = c.args.names.now.globals in
    let functions = c.args.names.now.functions in
    let names = c.loop-function.names in
    let x = c.function-item.result in
    let i = c.loop-function.function-index in
    let is : drop i c.args.functions.now ≡ x ∷ drop (i + 1) c.args.functions.now = grind (arith, common_steps) in
    let first : c.add.new.text.items ≡ c.loop-function.text.items ++ codes "\n" = c.in_ok-add.ensures in
    let told : c.add_function.new.text.items ≡ c.add.new.text.items ++ text_of (function_with names.globals names.functions x) = c.in_ok-add_function.ensures.text in
    let last : c.add_function.new.text.items ≡ c.add.new.text.items ++ text_of (function_with globals functions x) =
    told ∙ ap (λ gs. c.add.new.text.items ++ text_of (function_with gs names.functions x)) c.loop-function.invariant.same_globals
    ∙ ap (λ fs. c.add.new.text.items ++ text_of (function_with globals fs x)) c.loop-function.invariant.same_functions in
    record {
      written = one-more globals functions x (drop (i + 1) c.args.functions.now) (drop i c.args.functions.now) c.loop-function.text.items
          c.add.new.text.items c.add_function.new.text.items _ is first last c.loop-function.invariant.written;
      same_globals = c.add_function.ensures.globals ∙ c.loop-function.invariant.same_globals;
      same_functions = c.add_function.ensures.functions ∙ c.loop-function.invariant.same_functions;
    }
