use Rattle.std.proofs.Common.{get_or, nat_abs, ap, ◌∙◌, arith}
use Rattle.field.specs.Convolution.{tabulate}
use Rattle.field.specs.Meaning.{coded}
use Rattle.divstep.specs.Batches.{applied, jump}
use Rattle.divstep.specs.Steps.{lists, begins, steps, state_of, not_zero}
use Rattle.window.proofs.Deltas.{back}
use Rattle.steps.specs.Held.{state_in}
use Rattle.steps.proofs.run.Lists.jump.Goals as goal

pub returns-clause-state : goal.returns-clause-state
unfolding jump coded
returns-clause-state g c =
    let O = coded g.F.Field.arithmetic in
    let s = state_in c.args.self.now in
    let start = back s.δ (omega (arith, c.requires.small)) in
    let end = back c.first_steps-w.result.delta (omega (arith, c.first_steps-w.ensures.small, ap nat_abs start, c.requires.small, c.requires.short)) in
    (λ i. state_of (end i) (c.apply.ensures.first i) (c.apply.ensures.second i) (c.apply-2.ensures.first i) (c.apply-3.ensures.first i) (c.apply-2.ensures.second i) (c.apply-3.ensures.second i))
    ∙ ap (λ b. applied O c.args.m b s) (c.first_steps-w.ensures.state ∙ (λ i. steps (lists O) not_zero c.args.m (begins O 16 (start i) (tabulate 16 (λ k. get_or s.f k 0)) (tabulate 16 (λ k. get_or s.g k 0)))))
