use Rattle.std.proofs.Common.{refl, arith}
use Rattle.field.specs.Meaning.{coded}
use Rattle.divstep.specs.Steps.{lists, steps, not_zero}
use Rattle.window.specs.Windows.{held_in}
use Rattle.window.proofs.Deltas.{one_more, one_more_grows}
use Rattle.window.proofs.batch.batch.Goals as goal

pub loop-init : goal.loop-init
unfolding steps
loop-init g c = (refl, omega arith)

pub loop-preserved : goal.loop-preserved
loop-preserved g c =
    let P = lists (coded g.F.Field.arithmetic) in (
      one_more P not_zero c.loop.counter (held_in c.new-w.result) (held_in c.loop.w) (held_in c.step-w.result) c.loop.invariant.0 c.step-w.ensures,
      omega (arith, one_more_grows P not_zero (held_in c.loop.w) (held_in c.step-w.result) c.step-w.ensures, c.loop.invariant.1),
    )
