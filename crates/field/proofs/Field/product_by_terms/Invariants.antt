use Rattle.std.proofs.Common.{◌≡◌, ℕ, ◌<◌, get_or}
use Rattle.field.specs.Meaning.{coded}
use Rattle.field.specs.Convolution.{coefficient}
use Rattle.field.proofs.Field.product_by_terms.Given as goal

abbrev pub invariant-loop-k : goal.invariant-loop-k
invariant-loop-k g l = (j : ℕ) → j < l.k → get_or l.out j 0 ≡ coefficient (coded g.Self.Field.arithmetic) l.a l.b j
