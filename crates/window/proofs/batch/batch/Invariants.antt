use Rattle.std.proofs.Common.{◌≡◌, ◌+◌, ◌≤◌, nat_abs}
use Rattle.field.specs.Meaning.{coded}
use Rattle.divstep.specs.Steps.{lists, steps, not_zero}
use Rattle.window.specs.Windows.{held_in}
use Rattle.window.proofs.batch.batch.Given as goal

abbrev pub invariant-loop : goal.invariant-loop
invariant-loop g l =
    (held_in l.w ≡ steps (lists (coded g.F.Field.arithmetic)) not_zero l.counter (held_in l.initial.w))
    × (nat_abs l.w.delta ≤ nat_abs l.initial.w.delta + l.counter)
