use Rattle.std.proofs.Common.{arith}
use Rattle.field.proofs.Codes.{all_codes_is}
use Rattle.field.proofs.all_codes.Goals as goal

pub returns : goal.returns
returns g c =
    all_codes_is g.F.Field.arithmetic.size c.args.a.now c.loop-x.all
    (λ e k h. c.loop-x.invariant.0 e k (omega arith))
    (λ f. c.loop-x.invariant.1 (λ k h. f k (omega arith)))
