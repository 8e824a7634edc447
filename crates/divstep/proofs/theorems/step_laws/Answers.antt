use Rattle.field.proofs.Codes.{coded_ring}
use Rattle.divstep.specs.Steps.{not_zero}
use Rattle.divstep.proofs.Laws.{step_laws}
use Rattle.divstep.proofs.theorems.step_laws.Goals as goal

pub returns : goal.returns
returns g c = step_laws (coded_ring g.met.F.Field.lawful) not_zero
