use Rattle.std.proofs.Common.{ℕ, ◌+◌, length, ap, ◌∙◌, arith}
use Rattle.field.specs.Meaning.{coded}
use Rattle.field.specs.Convolution.{convolution}
use Rattle.field.proofs.Codes.{coded_ring}
use Rattle.ring.specs.Polynomials.{fold}
use Rattle.ring.proofs.Polynomials.{fold_convolution}
use Rattle.ring.proofs.multiplication.convolve.Goals as goal

pub returns : goal.returns
returns g c =
    let O = coded g.F.Field.arithmetic in
    let p : ℕ = length c.args.out.now in
    c.fold.ensures
    ∙ ap (fold O p) (c.product.ensures ∙ ap (λ n. convolution O n c.args.a.now c.args.b.now) c.requires.room)
    ∙ fold_convolution (coded_ring g.met.F.Field.lawful) p c.requires.least c.args.a.now c.args.b.now (p + p) c.requires.left c.requires.right (omega arith)
