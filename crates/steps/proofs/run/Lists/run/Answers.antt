use Rattle.std.proofs.Common.{rules, refl, arith}
use Rattle.field.specs.Meaning.{coded}
use Rattle.divstep.specs.Batches.{jumps}
use Rattle.divstep.specs.Steps.{not_zero}
use Rattle.steps.proofs.Jumps.{one_more_jump}
use Rattle.steps.proofs.run.Lists.run.Goals as goal

pub loop-init : goal.loop-init
unfolding jumps
loop-init g c = record { state = refl; small = omega arith; same = search rules }

pub loop-preserved : goal.loop-preserved
loop-preserved g c = record {
  state = one_more_jump (coded g.F.Field.arithmetic) not_zero c.loop.counter _ _ _ c.loop.invariant.state c.jump.ensures.state;
  small = omega (arith, c.jump.ensures.small, c.loop.invariant.small);
  same = search rules;
}
