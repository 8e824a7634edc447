use Rattle.std.proofs.Common.{◌≡◌, ◌-◌}
use Rattle.field.specs.Meaning.{coded}
use Rattle.field.specs.Convolution.{at, sum_below}
use Rattle.field.proofs.Field.coefficient.Given as goal

abbrev pub invariant-loop-i : goal.invariant-loop-i
invariant-loop-i g l =
    let O = coded g.Self.Field.arithmetic in
    l.sum ≡ sum_below O l.i (λ i. O.times (at O l.a i) (at O l.b (l.k - i)))
