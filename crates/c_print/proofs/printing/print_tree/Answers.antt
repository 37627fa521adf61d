use Rattle.std.proofs.Common.{rules, ◌≡◌, [], ◌++◌, map, ap, sym, ◌∙◌}
use Rattle.c_prog.specs.Order.{joined}
use Rattle.c_prog.specs.Patched.{tree_patched}
use Rattle.c_print.specs.Text.Canonical.{canonical, global_line, prototype_lines}
use Rattle.c_print.specs.Text.Pieces.{spaced, apart, text_of}
use Rattle.c_print.specs.Written.{header_text, function_with}
use Rattle.c_print.proofs.Programs.{program-written}
use Rattle.c_print.proofs.printing.print_tree.Goals as goal

pub returns : goal.returns
returns c patched =
    let tree = c.args.tree.now in
    let names = c.in_ok-names.names in
    let header : c.add_header.new.text.items ≡ c.new-text.result.items ++ header_text c.args.patched tree.starts = search rules in
    let globals : c.add_globals.new.text.items ≡ c.add_header.new.text.items ++ text_of (spaced (map global_line tree.globals)) = search rules in
    let prototypes : c.add_all_prototypes.new.text.items ≡ c.add_globals.new.text.items ++ text_of (spaced (joined (map prototype_lines tree.functions))) = search rules in
    let functions : c.add_functions.new.text.items ≡ c.add_all_prototypes.new.text.items ++ text_of (apart (map (function_with names.globals names.functions) tree.functions)) = search rules in
    let of_globals : names.globals ≡ map (λ g. g.name) tree.globals = search rules in
    let of_functions : names.functions ≡ map (λ f. f.name) tree.functions = search rules in
    program-written tree c.add_header.new.text.items c.add_globals.new.text.items c.add_all_prototypes.new.text.items c.add_functions.new.text.items
    (header ∙ ap (λ t. t ++ header_text c.args.patched tree.starts) c.new-text.ensures.items ∙ ap (λ b. [] ++ header_text b tree.starts) patched)
    globals prototypes
    (functions
    ∙ ap (λ gs. c.add_all_prototypes.new.text.items ++ text_of (apart (map (function_with gs names.functions) tree.functions))) of_globals
    ∙ ap (λ fs. c.add_all_prototypes.new.text.items ++ text_of (apart (map (function_with (map (λ g. g.name) tree.globals) fs) tree.functions))) of_functions)
