use Rattle.field.proofs.Codes.{coded_ring}
use Rattle.divstep.specs.Steps.{not_zero}
use Rattle.divstep.proofs.Batched.{batched_is}
use Rattle.divstep.proofs.theorems.batches_are_steps.Goals as goal

pub returns : goal.returns
returns g c n δ f h pair = batched_is (coded_ring g.met.F.Field.lawful) not_zero n δ f h pair
