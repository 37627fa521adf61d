use Rattle.std.proofs.Common.{rules, ◌≡◌, ◌++◌, codes}
use Rattle.c_print.specs.Text.Names.{name_at}
use Rattle.c_print.proofs.LinesWritten.{names-written}
use Rattle.c_print.proofs.acts.add_wait.Goals as goal

pub returns : goal.returns
returns c =
    let globals = c.args.names.now.globals in
    let cond = name_at globals c.args.cond.number in
    let mutex = name_at globals c.args.mutex.number in
    let first : c.add.new.text.items ≡ c.args.text.now.items ++ codes "pthread_cond_wait(&" = c.in_ok-add.ensures in
    let second : c.add_name.new.text.items ≡ c.add.new.text.items ++ cond = search rules in
    let third : c.add_global.new.text.items ≡ c.add_name.new.text.items ++ (codes ", &" ++ mutex ++ codes ")") = c.in_ok-add_global.ensures in
    names-written c.args.text.now.items (codes "pthread_cond_wait(&") cond (codes ", &") mutex (codes ")") c.add.new.text.items c.add_name.new.text.items
    c.add_global.new.text.items first second third
