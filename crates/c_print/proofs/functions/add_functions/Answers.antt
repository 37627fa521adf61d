use Rattle.std.proofs.Common.{◌≡◌, ◌++◌, ◌-◌, codes, length, map, take, drop, ap, sym, ◌∙◌}
use Rattle.c_prog.specs.Order.{joined}
use Rattle.c_prog.specs.declared.function.Function.{Function}
use Rattle.c_print.specs.Text.Pieces.{text_of}
use Rattle.c_print.specs.Written.{function_with}
use Rattle.c_print.proofs.Betweens.{list-written}
use Rattle.c_print.proofs.Programs.{text-apart}
use Rattle.c_print.proofs.functions.add_functions.Goals as goal

pub returns-in_ok-add_more_functions-in-len1-up : goal.returns-in_ok-add_more_functions-in-len1-up
returns-in_ok-add_more_functions-in-len1-up c =
    let globals = c.args.names.now.globals in
    let functions = c.args.names.now.functions in
    let f = λ (x : Function). text_of (function_with globals functions x) in
    let xs = c.args.functions.now in
    let rest = take (length xs - 1) (drop 1 xs) in
    let names = c.add_function.new.names in
    let first : c.add_function.new.text.items ≡ c.args.text.now.items ++ f c.first-item.result = c.in_ok-add_function-in-len1-up.ensures.text in
    let told : c.add_more_functions.new.text.items ≡ c.add_function.new.text.items ++ joined (map (λ e. codes "\n" ++ text_of (function_with names.globals names.functions e)) rest) = c.in_ok-add_more_functions-in-len1-up.ensures in
    let more : c.add_more_functions.new.text.items ≡ c.add_function.new.text.items ++ joined (map (λ e. codes "\n" ++ f e) rest) =
    told ∙ ap (λ gs. c.add_function.new.text.items ++ joined (map (λ e. codes "\n" ++ text_of (function_with gs names.functions e)) rest)) c.add_function.ensures.globals
    ∙ ap (λ fs. c.add_function.new.text.items ++ joined (map (λ e. codes "\n" ++ text_of (function_with globals fs e)) rest)) c.add_function.ensures.functions in
    list-written (codes "\n") f xs c.first-item.result c.args.text.now.items c.add_function.new.text.items c.add_more_functions.new.text.items
    c.in-len1-up.len_at_least c.first-item.is first more
    ∙ ap (λ t. c.args.text.now.items ++ t) (sym (text-apart (function_with globals functions) xs))
