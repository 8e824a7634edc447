use Rattle.divstep.proofs.ReadOff.{inverse_read_off}
use Rattle.divstep.proofs.theorems.inverse_is_read_off.Goals as goal

pub returns : goal.returns
returns g c p least a given = inverse_read_off g.F.Field.arithmetic g.met.F.Field.lawful g.F.Field.recip g.met.F.Field.inverts p least a given
