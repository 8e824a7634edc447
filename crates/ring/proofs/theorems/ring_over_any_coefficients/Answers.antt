use Rattle.ring.proofs.Polynomials.{ring}
use Rattle.ring.proofs.theorems.ring_over_any_coefficients.Goals as goal

pub returns : goal.returns
returns c O laws p least = ring laws p least
