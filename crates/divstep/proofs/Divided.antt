-- What a run of batches from the matrix 1 comes to, whole and without u and q.
-- Main results: `run_is`, `run_bare_is`, `divided_by_batches`.
use Rattle.std.proofs.Common.{◌≡◌, ℕ, ◌+◌, ◌-◌, ◌≤◌, Bool, true, List, [], ◌∷◌, ◌++◌, reverse, length, ℤ, pos, sym, ap, ◌∙◌, arith, length-append}
use lib.ListN.{length-replicate}
use Rattle.std.proofs.lemmas.List.{length-reverse}
use Rattle.field.specs.Rings.{Operations, CommutativeRing}
use Rattle.field.specs.Meaning.{Arithmetic, ArithmeticLaws, coded, all_codes}
use Rattle.field.specs.Convolution.{tabulate}
use Rattle.field.proofs.Codes.{coded_ring, all_codes_at, minus_is_code}
use Rattle.ring.specs.Polynomials.{unit_at}
use Rattle.divstep.specs.Steps.{after, begins, state_of, not_zero}
use Rattle.divstep.specs.Batches.{batched}
use Rattle.divstep.specs.Laws.{Pair}
use Rattle.divstep.specs.ReadOff.{reversed_modulus, divided}
use Rattle.divstep.proofs.Batches.{codes_pair}
use Rattle.divstep.proofs.Beginnings.{modulus_codes, reversed_codes}
use Rattle.divstep.proofs.Batched.{bare, batched_is, batched_bare}

pub tested_pair : {A : Arithmetic} (laws : ArithmeticLaws A) (f g : List ℕ) → length f ≡ length g → all_codes A.size f ≡ true → all_codes A.size g ≡ true → Pair (coded A) f g
tested_pair {A} laws f g long cf cg = codes_pair laws f g long (all_codes_at A.size f cf) (all_codes_at A.size g cg)

module _ {C : Type 0} {O : Operations C} (R : CommutativeRing O) (nonzero : C → Bool) (n : ℕ) (δ : ℤ) (f g : List C) (pair : Pair O f g) where
  pub run_is : (e : ℤ) (u v q r : List C) → e ≡ δ →
      u ≡ tabulate (n + 1) (unit_at O) → v ≡ tabulate (n + 1) (λ _. O.zero) → q ≡ tabulate (n + 1) (λ _. O.zero) → r ≡ tabulate (n + 1) (unit_at O) →
      batched O nonzero n (state_of e f g u v q r) ≡ after O nonzero n δ f g
  run_is e u v q r δ_is u_is v_is q_is r_is =
      ap (batched O nonzero n) (λ i. state_of (δ_is i) f g (u_is i) (v_is i) (q_is i) (r_is i)) ∙ batched_is R nonzero n δ f g pair

  pub run_bare_is : (e : ℤ) (u v q r : List C) → e ≡ δ → u ≡ [] → v ≡ tabulate (n + 1) (λ _. O.zero) → q ≡ [] → r ≡ tabulate (n + 1) (unit_at O) →
      batched O nonzero n (state_of e f g u v q r) ≡ bare (after O nonzero n δ f g)
  run_bare_is e u v q r δ_is u_is v_is q_is r_is =
      ap (batched O nonzero n) (λ i. state_of (δ_is i) f g (u_is i) (v_is i) (q_is i) (r_is i))
      ∙ batched_bare O nonzero n (begins O n δ f g)
      ∙ ap bare (batched_is R nonzero n δ f g pair)

-- the steps of an inversion, by batches
pub divided_by_batches : (A : Arithmetic) (laws : ArithmeticLaws A) (p : ℕ) (a : List ℕ) → 2 ≤ p → length a ≡ p → all_codes A.size a ≡ true →
    (n : ℕ) (e : ℤ) (f g u v q r : List ℕ) → n ≡ p + p - 1 → e ≡ pos 1 → f ≡ reversed_modulus A p → g ≡ reverse a ++ 0 ∷ [] →
    u ≡ [] → v ≡ tabulate (p + p) (λ k. (coded A).zero) → q ≡ [] → r ≡ tabulate (p + p) (unit_at (coded A)) →
    batched (coded A) not_zero n (state_of e f g u v q r) ≡ bare (divided A p a)
unfolding divided
divided_by_batches A laws p a big long codes n e f g u v q r n_is δ_is f_is g_is u_is v_is q_is r_is =
    let whole : p + p ≡ n + 1 = omega arith in
    let m : ℕ = (coded A).minus 0 1 in
    let least : 2 ≤ A.size = laws.size_least in
    let pair : Pair (coded A) f g = codes_pair laws f g (ap length f_is ∙ modulus_length ∙ sym (ap length g_is ∙ reverse_length))
    (modulus_codes A.size m (p - 2) f (omega arith) (minus_is_code laws 0 1) f_is) (reversed_codes A.size a g (omega arith) (all_codes_at A.size a codes) g_is) in
    run_bare_is (coded_ring laws) not_zero n (pos 1) f g pair e u v q r δ_is u_is (v_is ∙ ap (λ k. tabulate k (λ i. (coded A).zero)) whole) q_is (r_is ∙ ap (λ k. tabulate k (unit_at (coded A))) whole)
    ∙ (λ i. bare (after (coded A) not_zero (n_is i) (pos 1) (f_is i) (g_is i)))
  where
    modulus_length : length (reversed_modulus A p) ≡ p + 1
    modulus_length = simp (length-append, length-replicate) (omega arith)

    reverse_length : length (reverse a ++ 0 ∷ []) ≡ p + 1
    reverse_length = length-append (reverse a) (0 ∷ []) ∙ ap (λ k. k + 1) (length-reverse a ∙ long)
