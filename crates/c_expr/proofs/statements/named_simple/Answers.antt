use Rattle.std.proofs.Common.{◌≡◌, false, drop, sym, ap, ◌∙◌}
use Rattle.c_reading.specs.Reader.{Got, begins}
use Rattle.c_reading.specs.ReadSimple.{is_paren}
use Rattle.c_raw.specs.Tokens.{ident_view}
use Rattle.c_raw.specs.Simples.{index_view}
use Rattle.c_raw.specs.declared.token.Ident.{Ident}
use Rattle.c_raw.specs.declared.simple.Place.{Place}
use Rattle.std.specs.Prelude.{Option}
use Rattle.c_expr.proofs.ValueSteps.{simple-of}
use Rattle.c_expr.proofs.statements.named_simple.Goals as goal

pub returns : goal.returns
returns c =
    let ts = c.args.cursor.now.tokens in
    let here = drop c.args.at ts in
    let behind = drop c.in_ok-name.at ts in
    let after = drop c.in_ok-indexed.at ts in
    let no_paren : begins is_paren behind ≡ false = cc in
    let t = c.in_ok-target.target in
    let name = c.in_ok-name.ensures ∙ ap (λ (x : Ident). Got (ident_view x) behind) (sym c.in_ok-target.ensures.name) in
    let index = c.in_ok-indexed.ensures.read ∙ ap (λ (x : Option Place). Got (index_view x) after) (sym c.in_ok-target.ensures.index) in
    rw (simple-of 200 c.args.depth here (ident_view t.name) behind name no_paren (index_view t.index) after index) c.simple_of.ensures
