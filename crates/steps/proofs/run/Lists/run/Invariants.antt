use Rattle.std.proofs.Common.{◌≡◌, ◌+◌, ◌*◌, ◌≤◌, nat_abs}
use Rattle.field.specs.Meaning.{coded}
use Rattle.divstep.specs.Batches.{jumps}
use Rattle.divstep.specs.Steps.{not_zero}
use Rattle.steps.specs.Held.{state_in, SameSlices}
use Rattle.steps.proofs.run.Lists.run.Given as goal

abbrev pub invariant-loop : goal.invariant-loop
invariant-loop g l = record {
  state : state_in l.self ≡ jumps (coded g.F.Field.arithmetic) not_zero l.counter (state_in l.fn.self);
  small : nat_abs l.self.delta ≤ nat_abs l.fn.self.delta + 16 * l.counter;
  same : SameSlices l.self l.fn.self;
}
