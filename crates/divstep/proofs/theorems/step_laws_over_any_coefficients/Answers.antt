use Rattle.divstep.proofs.Laws.{step_laws}
use Rattle.divstep.proofs.theorems.step_laws_over_any_coefficients.Goals as goal

pub returns : goal.returns
returns c O laws nonzero = step_laws laws nonzero
