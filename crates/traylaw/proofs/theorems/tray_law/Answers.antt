use Rattle.traylaw.specs.Calculus.{calculus}
use Rattle.traylaw.proofs.Lawful.{lawful}
use Rattle.traylaw.proofs.Law.{law}
use Rattle.traylaw.proofs.theorems.tray_law.Goals as goal

pub returns : goal.returns
returns g c p least =
    law (calculus g.F.Field.arithmetic g.F.Field.recip p) (lawful g.F.Field.arithmetic g.met.F.Field.lawful g.F.Field.recip g.met.F.Field.inverts p least)
