use Rattle.std.proofs.Common.{◌≡◌, ℕ, suc, ◌+◌, ◌<◌, get_or}
use Rattle.field.specs.Meaning.{coded}
use Rattle.field.specs.Convolution.{at}
use Rattle.ring.specs.Polynomials.{fold_at}
use Rattle.ring.proofs.multiplication.fold.Given as goal

-- folded below k, and `carried` is the coefficient before p + k, if there is one
abbrev pub invariant-loop-k : goal.invariant-loop-k
invariant-loop-k g l =
    let O = coded g.F.Field.arithmetic in
    record {
      folded : (j : ℕ) → j < l.k → get_or l.out j 0 ≡ fold_at O l.p (at O l.plain) j;
      first : l.k ≡ 0 → l.carried ≡ 0;
      later : (i : ℕ) → l.k ≡ suc i → l.carried ≡ get_or l.plain (l.p + i) 0;
    }
