use Rattle.std.proofs.Common.{ap, ◌∙◌, arith}
use Rattle.field.specs.Meaning.{coded}
use Rattle.divstep.specs.Steps.{lists, swapped, reduced, step, not_zero}
use Rattle.window.specs.Windows.{held_in}
use Rattle.window.proofs.Stepped.{reduced_is}
use Rattle.window.proofs.window.Window.step.Goals as goal

pub returns : goal.returns
unfolding coded step
returns g c =
    let A = g.F.Field.arithmetic in
    let r = c.reduce.ensures in
    reduced_is A (held_in c.swap_if.result) _ _ _ _ _ _ _ (omega arith) (omega arith) (omega arith) r.counted r.f_stays r.g_reduced r.u_shifted r.v_shifted r.q_reduced r.r_reduced
    ∙ ap (reduced (lists (coded A)) not_zero) (c.swap_if.ensures ∙ ap (λ b. swapped b (held_in c.args.self)) c.swaps.ensures)
