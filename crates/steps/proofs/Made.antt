-- Arrays that a closure makes.
-- Main result: `made_same`.
use Rattle.std.proofs.Common.{◌≡◌, ℕ, zero, suc, ◌+◌, ◌<◌, List, get_or, refl, ◌∙◌, subst, add-zero, arith}
use Rattle.std.specs.Array.{IsFromFnResult, IsFromFnResultFrom}
use Rattle.std.specs.Fn.{Called, Mut}
use Rattle.field.specs.Convolution.{tabulate}
use Rattle.field.proofs.Tables.{tabulate_is}

-- calls that leave the closure as it is, and give f k at k
module _ {F : Type 0} (G : Mut F (ℕ × Unit {0}) ℕ) (f : ℕ → ℕ) (p : F) (one : (k x : ℕ) (q : F) → Called G p (k, tt) x q → (x ≡ f k) × (q ≡ p)) where
  made_from : (n i : ℕ) (xs : List ℕ) (q : F) → q ≡ p → IsFromFnResultFrom G q xs i n → (k : ℕ) → k < n → get_or xs (i + k) 0 ≡ f (i + k)
  made_from zero i xs q e m k h = absurd (omega arith)
  made_from (suc n) i xs q e m k h =
      let kept = one i m.1 m.0 (subst (λ (z : F). Called G z (i, tt) m.1 m.0) e m.3) in
      elim k as (λ j. j < suc n → get_or xs (i + j) 0 ≡ f (i + j)) [
        | zero ↦ λ l. rw add-zero (m.2.1 0 ∙ kept.0)
        | suc j ↦ λ l. let next : (i + 1) + j ≡ i + suc j = omega arith in subst (λ z. get_or xs z 0 ≡ f z) next (made_from n (i + 1) xs m.0 kept.1 m.4 j (omega arith))
      ] h

  pub made_same : (n : ℕ) (xs : List ℕ) → IsFromFnResult G p xs n → xs ≡ tabulate n f
  made_same n xs m = tabulate_is n f xs 0 m.long (λ k h. let start : 0 + k ≡ k = omega arith in subst (λ z. get_or xs z 0 ≡ f z) start (made_from n 0 xs p refl m.each k h))
