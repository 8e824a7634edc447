use Rattle.std.proofs.Common.{◌-◌, sym, refl, ap, ◌∙◌, arith}
use Rattle.std.proofs.lemmas.List.{get_or-take, length-take-le}
use Rattle.field.specs.Meaning.{coded}
use Rattle.field.specs.Convolution.{at, sum_below}
use Rattle.field.proofs.Codes.{coded_ring}
use Rattle.field.proofs.Sums.{sum_more, coefficient_sum}
use Rattle.field.proofs.Field.coefficient.Goals as goal

pub loop-i-init : goal.loop-i-init
unfolding sum_below coded
loop-i-init g c = refl

pub loop-i-preserved : goal.loop-i-preserved
unfolding coded
loop-i-preserved g c =
    let O = coded g.Self.Field.arithmetic in
    sum_more O c.loop-i.i (λ i. O.times (at O c.args.a.now i) (at O c.args.b.now (c.args.k - i))) c.loop-i.sum c.add-sum.result c.loop-i.invariant
    (c.add-sum.ensures ∙ ap (O.plus c.loop-i.sum) (c.mul.ensures ∙ ap (λ x. O.times x c.at.result) (get_or-take c.terms.result c.args.a.now c.loop-i.i 0 (omega (arith, length-take-le c.terms.result c.args.a.now c.terms.ensures.within))) ∙ ap (O.times _) c.at.ensures))

pub returns : goal.returns
returns g c =
    let taken = length-take-le c.terms.result c.args.a.now c.terms.ensures.within in
    c.loop-i.invariant
    ∙ sym (coefficient_sum (coded_ring g.met.Self.Field.lawful) c.args.a.now c.args.b.now c.args.k c.loop-i.i
    (omega (arith, taken, c.terms.ensures.reached)) (λ h. omega (arith, taken, c.terms.ensures.whole (omega (arith, taken)))))
