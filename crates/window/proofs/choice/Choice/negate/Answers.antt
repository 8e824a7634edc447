use Rattle.std.proofs.Common.{inl, inr, arith}
use borrow.Author.Differences.{ints}
use Rattle.window.proofs.Masks.{a_bit}
use Rattle.window.proofs.choice.Choice.negate.Goals as goal

pub returns : goal.returns
returns c = elim (a_bit c.self.inside.0 c.self.invariant) [
  | inl e ↦ rw (← c.self.view_is) (rw e (omega (arith, ints)))
  | inr e ↦ rw (← c.self.view_is) (rw e (omega (arith, ints)))
]
