-- Inverses in any commutative ring, where b is an inverse of a if a·b = 1.
-- Main results: `inverse_unique`; `zero_divisor`, that what has an inverse takes only zero to zero;
-- `inverse_left`, `inverse_right` and `inverse_times`, that a product has an inverse if and only if both factors do.
use Rattle.std.proofs.Common.{◌≡◌, sym, ap, ◌∙◌, ap₂}
use Rattle.field.specs.Rings.{Operations, CommutativeRing, Normal}
use Rattle.field.proofs.Sums.{times_zero}

module _ {C : Type 0} {O : Operations C} (R : CommutativeRing O) where
  pub times_left : (a b c : C) → O.times a (O.times b c) ≡ O.times b (O.times a c)
  times_left a b c = simp (← R.times_assoc, R.times_comm a b)

  pub times_four : (a b c d : C) → O.times (O.times a b) (O.times c d) ≡ O.times (O.times a c) (O.times b d)
  times_four a b c d = simp (R.times_assoc, times_left)

  pub one_times_normal : (a : C) → Normal O a → O.times O.one a ≡ a
  one_times_normal a n = R.one_times a ∙ n

  -- what a takes c to, the inverse b of a brings back
  pub inverse_back : (a b c : C) → Normal O c → O.times a b ≡ O.one → O.times b (O.times a c) ≡ c
  inverse_back a b c n h = sym (R.times_assoc b a c) ∙ ap (λ t. O.times t c) (R.times_comm b a ∙ h) ∙ one_times_normal c n

  pub inverse_unique : (a b c : C) → Normal O b → Normal O c → O.times a b ≡ O.one → O.times a c ≡ O.one → b ≡ c
  inverse_unique a b c nb nc hb hc = sym (inverse_back a c b nb hc) ∙ ap (O.times c) hb ∙ R.times_comm c O.one ∙ one_times_normal c nc

  pub zero_divisor : (a b z : C) → Normal O z → O.times a z ≡ O.zero → O.times a b ≡ O.one → z ≡ O.zero
  zero_divisor a b z n hz hb = sym (inverse_back a b z n hb) ∙ ap (O.times b) hz ∙ times_zero R b

  -- c is an inverse of a·b
  pub inverse_left : (a b c : C) → O.times (O.times a b) c ≡ O.one → O.times a (O.times b c) ≡ O.one
  inverse_left a b c h = sym (R.times_assoc a b c) ∙ h

  pub inverse_right : (a b c : C) → O.times (O.times a b) c ≡ O.one → O.times b (O.times a c) ≡ O.one
  inverse_right a b c h = times_left b a c ∙ inverse_left a b c h

  -- c is an inverse of a, and d of b
  pub inverse_times : (a b c d : C) → O.times a c ≡ O.one → O.times b d ≡ O.one → O.times (O.times a b) (O.times c d) ≡ O.one
  inverse_times a b c d h k = times_four a b c d ∙ ap₂ O.times h k ∙ one_times_normal O.one R.one_normal
