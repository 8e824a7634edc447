use Rattle.std.proofs.Common.{arith}
use Rattle.field.proofs.Tables.{tabulate_is}
use Rattle.steps.proofs.inversion.read_off.Goals as goal

pub returns : goal.returns
returns g c = tabulate_is _ _ c.loop-k.out 0 c.loop-k.auto.out (λ k h. c.loop-k.invariant k (omega arith))
