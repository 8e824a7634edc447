use Rattle.std.proofs.Common.{arith}
use Rattle.field.specs.Meaning.{coded}
use Rattle.field.proofs.Tables.{tabulate_is}
use Rattle.field.proofs.Field.sum.Goals as goal

pub returns-after-loop-i : goal.returns-after-loop-i
unfolding coded
returns-after-loop-i g c = tabulate_is _ _ c.loop-i.out 0 c.loop-i.auto.out (λ k h. c.loop-i.invariant k (omega arith))

pub returns-after-loop-k : goal.returns-after-loop-k
unfolding coded
returns-after-loop-k g c = tabulate_is _ _ c.loop-k.out 0 c.loop-k.auto.out (λ k h. c.loop-k.invariant k (omega arith))
