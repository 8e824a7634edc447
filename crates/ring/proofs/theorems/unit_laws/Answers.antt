use Rattle.ring.proofs.Laws.{unit_laws}
use Rattle.ring.proofs.theorems.unit_laws.Goals as goal

pub returns : goal.returns
returns g c p least = unit_laws g.F.Field.arithmetic g.met.F.Field.lawful p least
