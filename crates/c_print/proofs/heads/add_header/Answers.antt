use Rattle.std.proofs.Common.{◌≡◌, ◌++◌, codes}
use Rattle.c_print.specs.Text.Pieces.{text_of}
use Rattle.c_print.specs.Written.{own_with}
use Rattle.c_print.proofs.Programs.{header-written}
use Rattle.c_print.proofs.heads.add_header.Goals as goal

pub returns : goal.returns
returns c =
    let starts = c.args.starts.now in
    let first : c.add.new.text.items ≡ c.args.text.now.items ++ codes "#include <pthread.h>\n#include <stdio.h>\n" = c.in_ok-add.ensures in
    let second : c.add_own_lines.new.text.items ≡ c.add.new.text.items ++ text_of (own_with c.args.patched starts) = c.in_ok-add_own_lines.ensures in
    let last : c.add-2.new.text.items ≡ c.add_own_lines.new.text.items ++ codes "\n" = c.in_ok-add-2.ensures in
    header-written c.args.text.now.items c.add.new.text.items c.add_own_lines.new.text.items c.add-2.new.text.items c.args.patched starts first second last
