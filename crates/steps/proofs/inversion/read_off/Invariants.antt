use Rattle.std.proofs.Common.{◌≡◌, ℕ, ◌-◌, ◌<◌, get_or}
use Rattle.field.specs.Meaning.{coded}
use Rattle.steps.proofs.inversion.read_off.Given as goal

abbrev pub invariant-loop-k : goal.invariant-loop-k
invariant-loop-k g l = (j : ℕ) → j < l.k → get_or l.out j 0 ≡ (coded g.F.Field.arithmetic).times (get_or l.v (l.p - j) 0) l.c
