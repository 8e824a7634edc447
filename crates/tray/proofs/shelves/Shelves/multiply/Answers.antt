use Rattle.std.proofs.Common.{◌≡◌, sym, subst, rules}
use Rattle.traylaw.specs.Calculus.{Calculus, calculus, times, Polynomial}
use Rattle.traylaw.proofs.Lawful.{lawful}
use Rattle.tray.proofs.shelves.Shelves.multiply.Goals as goal

pub returns-clause-polynomial : goal.returns-clause-polynomial
returns-clause-polynomial g c =
    let p = c.args.self.now.p in
    let K : Calculus = calculus g.F.Field.arithmetic g.F.Field.recip p in
    let is : c.product.new.out ≡ times K c.args.a.now c.args.b.now = search rules in
    subst (Polynomial K) (sym is)
    ((lawful g.F.Field.arithmetic g.met.F.Field.lawful g.F.Field.recip g.met.F.Field.inverts p c.args.self.now.degree_least).times_is c.args.a.now c.args.b.now)
