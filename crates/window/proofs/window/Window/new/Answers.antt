use Rattle.std.proofs.Common.{◌≡◌, ap, arith, w32, to_z, of_z}
use borrow.Author.Differences.{ints}
use Rattle.field.specs.Convolution.{tabulate}
use Rattle.field.specs.Meaning.{coded}
use Rattle.divstep.specs.Steps.{begins}
use Rattle.window.proofs.window.Window.new.Goals as goal

pub returns-clause-begun : goal.returns-clause-begun
unfolding coded tabulate
returns-clause-begun g c =
    let same : to_z w32 (of_z w32 c.args.delta) ≡ c.args.delta = omega (arith, ints) in
    ap (λ d. begins (coded g.F.Field.arithmetic) 16 d c.args.f c.args.g) same
