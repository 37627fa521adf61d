use Rattle.std.proofs.Common.{◌≡◌, ◌-◌, suc, length, refl, sym, ap, ◌∙◌, arith, reverse}
use Rattle.std.specs.Prelude.{slice_get}
use Rattle.std.proofs.lemmas.List.{length-reverse}
use Rattle.std.proofs.lemmas.Option.{slice_get_read}
use Rattle.step_state.specs.StackLends.{with_second}
use Rattle.step_state.proofs.Tops.{set_second, get_second}
use Rattle.step_state.proofs.stack.Stack.second_mut.Goals as goal

pub returns : goal.returns
returns g c =
    let xs = c.self.inside.items.items in
    let l : length (reverse xs) ≡ length c.args.self.now = ap length c.self.view_is in
    let e : suc (suc (c.len-second.result - 2)) ≡ length xs = omega (arith, l, length-reverse xs, c.self.inside.items.ok.0, c.len-second.ensures) in
    ((refl, λ w. set_second xs (c.len-second.result - 2) w e ∙ ap (λ s. with_second s w) c.self.view_is), record { lends = tt; value = ap (λ s. slice_get s 1) (sym c.self.view_is) ∙ get_second xs _ e ∙ slice_get_read xs (length xs) _ _ refl (omega (arith, e)) c.index_mut.ensures.value })
