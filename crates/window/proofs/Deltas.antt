-- One step more, and δ over it.
-- Main results: `back`, `one_more`, `one_more_grows`.
use Rattle.std.proofs.Common.{◌≡◌, ℕ, ◌+◌, ◌≤◌, Bool, true, false, ℤ, pos, ◌+ℤ◌, nat_abs, sym, ap, ◌∙◌, subst, add-one, arith, w32, to_z, of_z}
use borrow.Author.Differences.{ints}
use Rattle.divstep.specs.Steps.{State, Held, swapped, swaps, step, steps}

-- a number that fits comes back from its bits
pub back : (d : ℤ) → nat_abs d ≤ 200000 → to_z w32 (of_z w32 d) ≡ d
back d h = omega (arith, ints)

swapped_grows : {A : Type 0} (b : Bool) (s : State A) → nat_abs ((swapped b s).δ +ℤ pos 1) ≤ nat_abs s.δ + 1
swapped_grows true s = omega (arith, ints)
swapped_grows false s = omega (arith, ints)

module _ {C A : Type 0} (P : Held C A) (nonzero : C → Bool) where
  pub one_more : (n : ℕ) (s t t' : State A) → t ≡ steps P nonzero n s → t' ≡ step P nonzero t → t' ≡ steps P nonzero (n + 1) s
  unfolding steps
  one_more n s t t' e f = f ∙ ap (step P nonzero) e ∙ ap (λ m. steps P nonzero m s) (sym (add-one n))

  -- the absolute value of δ grows by at most one
  step_grows : (s : State A) → nat_abs (step P nonzero s).δ ≤ nat_abs s.δ + 1
  unfolding step
  step_grows s = swapped_grows (swaps P nonzero s) s

  pub one_more_grows : (s t : State A) → t ≡ step P nonzero s → nat_abs t.δ ≤ nat_abs s.δ + 1
  one_more_grows s t e = subst (λ x. nat_abs x.δ ≤ nat_abs s.δ + 1) (sym e) (step_grows s)
