use Rattle.std.proofs.Common.{◌∙◌}
use Rattle.field.specs.Meaning.{coded}
use Rattle.ring.specs.Polynomials.{sum}
use Rattle.divstep.proofs.Products.{row_is}
use Rattle.steps.proofs.apply.row_times.Goals as goal

pub returns : goal.returns
unfolding sum
returns g c =
    c.sum.ensures
    ∙ row_is (coded g.F.Field.arithmetic) c.args.skip _ _ _ c.args.a.now c.args.b.now c.args.x.now c.args.y.now c.product.new.out c.product-2.new.out c.requires.long c.requires.left c.requires.right
    c.product.ensures c.product-2.ensures
