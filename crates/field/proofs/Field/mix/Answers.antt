use Rattle.std.proofs.Common.{arith}
use Rattle.field.specs.Meaning.{coded}
use Rattle.field.proofs.Tables.{tabulate_is}
use Rattle.field.proofs.Field.mix.Goals as goal

pub returns : goal.returns
unfolding coded
returns g c = tabulate_is _ _ c.loop-k.a 0 c.loop-k.auto.a (λ k h. c.loop-k.invariant.0 k (omega arith))
