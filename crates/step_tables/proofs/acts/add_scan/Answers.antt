use Rattle.std.proofs.Common.{rules, [], ◌++◌}
use Rattle.cfix_base.specs.declared.access.Access.TheVariants.{Write}
use Rattle.c_prog.specs.Accesses.{index_accesses, touched}
use Rattle.step_state.specs.declared.item.Item.TheVariants.{Act}
use Rattle.step_state.specs.declared.item.Action.TheVariants.{Take}
use Rattle.step_state.specs.Parts.{one, both, has_index, target_index, write_var}
use Rattle.step_tables.proofs.Adding.{adds_both, adds_one}
use Rattle.step_tables.proofs.acts.add_scan.Goals as goal

pub returns : goal.returns
returns c =
    adds_both (target_index c.args.target.now.index) (both (one (Act Take)) (write_var c.args.target.now.var (has_index c.args.target.now.index)))
    (index_accesses c.args.target.now.index) ([] ++ touched Write c.args.target.now.var) c.args.items.now c.args.sheet.now
    c.add_index.new.items c.add_index.new.sheet c.add_use.new.items c.add_use.new.sheet (search rules)
    (adds_both (one (Act Take)) (write_var c.args.target.now.var (has_index c.args.target.now.index)) [] (touched Write c.args.target.now.var)
    c.add_index.new.items c.add_index.new.sheet c.push.new.self c.add_index.new.sheet c.add_use.new.items c.add_use.new.sheet
    (adds_one (Act Take) c.add_index.new.items c.add_index.new.sheet c.push.new.self (search rules)) (search rules))
