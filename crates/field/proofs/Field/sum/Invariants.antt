use Rattle.std.proofs.Common.{◌≡◌, ℕ, ◌<◌, get_or}
use Rattle.field.specs.Meaning.{coded}
use Rattle.field.proofs.Field.sum.Given as goal

abbrev pub invariant-loop-k : goal.invariant-loop-k
invariant-loop-k g l = (j : ℕ) → j < l.k → get_or l.out j 0 ≡ (coded g.Self.Field.arithmetic).plus (get_or l.a j 0) (get_or l.b j 0)

abbrev pub invariant-loop-i : goal.invariant-loop-i
invariant-loop-i g l = (j : ℕ) → j < l.i → get_or l.out j 0 ≡ (coded g.Self.Field.arithmetic).plus (get_or l.a j 0) (get_or l.b j 0)
