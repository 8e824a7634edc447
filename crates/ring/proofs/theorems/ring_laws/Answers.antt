use Rattle.ring.proofs.Laws.{ring_laws}
use Rattle.ring.proofs.theorems.ring_laws.Goals as goal

pub returns : goal.returns
returns g c p least = ring_laws g.F.Field.arithmetic g.met.F.Field.lawful p least
