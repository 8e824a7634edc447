-- Division steps from δ = 1, f of degree p or less and g of a smaller degree, over coefficients without zero divisors.
-- Main definitions: `Domain`; `Degrees`, the bounds that δ gives; `Alive`: the constants of f and r are not zero, and that of v is.
-- Main results: `run_degrees`, `run_alive`.
use Rattle.std.proofs.Common.{◌≡◌, ℕ, zero, suc, ◌+◌, ◌-◌, ◌*◌, ◌≤◌, Bool, true, false, cond, ◌≢◌, ◌⊎◌, ℤ, pos, ◌+ℤ◌, ◌-ℤ◌, neg_ℤ, ◌≤ℤ◌, ◌<ℤ◌, sym, refl, ap, ◌∙◌, ap₂, inl, inr, arith}
use lib.Signed.{lt_z}
use borrow.Author.Differences.{ints}
use Rattle.field.specs.Rings.{Operations, CommutativeRing, Normal}
use Rattle.field.proofs.Sums.{times_zero}
use Rattle.ring.specs.Polynomials.{unit_at}
use Rattle.divstep.specs.Steps.{State, swapped, swaps, reduced, step, steps, shifted_at}
use Rattle.divstep.proofs.Series.{series, mix_zeros}
use Rattle.divstep.proofs.Runs.{run, Within, Normals, NormalState, run_normal}

-- a test for zero, where no product of others is zero
pub record Domain {C : Type 0} (O : Operations C) (nonzero : C → Bool) : Type 0 where
  pub distinct : O.one ≢ O.zero
  pub is_zero_lem : (a : C) → nonzero a ≡ false → a ≡ O.zero
  pub is_other : (a : C) → nonzero a ≡ true → a ≢ O.zero
  pub products : (a b : C) → Normal O a → Normal O b → a ≢ O.zero → b ≢ O.zero → O.times a b ≢ O.zero

both : (x y : Bool) → cond x y false ≡ true → (x ≡ true) × (y ≡ true)
both true y h = (refl, h)
both false y h = absurd cc

either : (x y : Bool) → cond x y false ≡ false → (x ≡ false) ⊎ (y ≡ false)
either true y h = inr h
either false y h = inl refl

above : (d : ℤ) → lt_z (pos 0) d ≡ true → neg_ℤ d ≤ℤ pos 0
above d h = grind (arith, ints)

below : (d : ℤ) → lt_z (pos 0) d ≡ false → d ≤ℤ pos 0
below d h = grind (arith, ints)

module _ {C : Type 0} (O : Operations C) where
  -- twice the degree is at most b
  abbrev pub Half : ℤ → (ℕ → C) → Type 0
  Half b a = (k : ℕ) → b <ℤ pos (2 * k) → a k ≡ O.zero

  pub record Degrees (p n : ℕ) (s : State (ℕ → C)) : Type 0 where
    pub of_f : Half (pos (2 * p) +ℤ s.δ -ℤ pos (n + 1)) s.f
    pub of_g : Half (pos (2 * p) -ℤ s.δ -ℤ pos (n + 1)) s.g
    pub of_v : Half (pos (n + 1) +ℤ s.δ) s.v
    pub of_r : Half (pos (n + 1) -ℤ s.δ) s.r

  degrees_swapped : (p n : ℕ) (b : Bool) (s : State (ℕ → C)) → Degrees p n s → Degrees p n (swapped b s)
  degrees_swapped p n true s d = record {
    of_f = λ k l. d.of_g k (omega (arith, ints));
    of_g = λ k l. d.of_f k (omega (arith, ints));
    of_v = λ k l. d.of_r k (omega (arith, ints));
    of_r = λ k l. d.of_v k (omega (arith, ints));
  }
  degrees_swapped p n false s d = d

  half_up : (b c : ℤ) (a : ℕ → C) → (b +ℤ pos 2) ≤ℤ c → Half b a → Half c (shifted_at O a)
  half_up b c a h d zero l = refl
  half_up b c a h d (suc k) l = d k (omega (arith, ints))

  half_unit : Half (pos 0) (unit_at O)
  half_unit zero l = absurd (omega (arith, ints))
  half_unit (suc k) l = refl

  -- the constants of f and r are not zero
  pub record Alive (s : State (ℕ → C)) : Type 0 where
    pub of_f : s.f 0 ≢ O.zero
    pub of_v : s.v 0 ≡ O.zero
    pub of_r : s.r 0 ≢ O.zero

module _ {C : Type 0} {O : Operations C} (R : CommutativeRing O) (nonzero : C → Bool) where
  half_mix : (c d : C) (x y b : ℤ) (a a' : ℕ → C) → x ≤ℤ b → (d ≡ O.zero) ⊎ (y ≤ℤ b) → Half O x a → Half O y a' → Half O b ((series O).mix c a d a')
  half_mix c d x y b a a' h low ha ha' k l =
      ap₂ O.minus (ap (O.times c) (ha k (omega (arith, ints)))) (elim low [
        | inl e ↦ ap (λ t. O.times t (a' k)) e ∙ R.zero_times _ ∙ sym (times_zero R d)
        | inr e ↦ ap (O.times d) (ha' k (omega (arith, ints)))
      ]) ∙ mix_zeros R c d

  degrees_reduced : (p n : ℕ) (s : State (ℕ → C)) → (s.g 0 ≡ O.zero) ⊎ (s.δ ≤ℤ pos 0) → Degrees O p n s → Degrees O p (suc n) (reduced (series O) nonzero s)
  degrees_reduced p n s low d =
      record {
        of_f = λ k l. d.of_f k (omega (arith, ints));
        of_g = λ k l.
            half_mix (s.f 0) (s.g 0) _ _ (pos (2 * p) -ℤ s.δ -ℤ pos (n + 1)) s.g s.f (omega (arith, ints)) (elim low [ inl e ↦ inl e | inr e ↦ inr (omega (arith, ints)) ]) d.of_g d.of_f (suc k)
            (omega (arith, ints));
        of_v = half_up O _ _ s.v (omega (arith, ints)) d.of_v;
        of_r = half_mix (s.f 0) (s.g 0) _ _ _ s.r s.v (omega (arith, ints)) (elim low [ inl e ↦ inl e | inr e ↦ inr (omega (arith, ints)) ]) d.of_r d.of_v;
      }

  -- what a difference that is zero says
  minus_none : (a b : C) → Normal O a → Normal O b → O.minus a b ≡ O.zero → b ≡ a
  minus_none a b na nb e = sym nb ∙ ap (λ t. O.plus t b) (sym e) ∙ R.minus_plus a b ∙ na

  module _ (D : Domain O nonzero) where
    -- after the swap, if any, δ is at most 0 or g begins with zero
    calm : (s : State (ℕ → C)) (b : Bool) → swaps (series O) nonzero s ≡ b → ((swapped b s).g 0 ≡ O.zero) ⊎ ((swapped b s).δ ≤ℤ pos 0)
    calm s true e = inr (above s.δ (both _ (nonzero (s.g 0)) e).0)
    calm s false e = elim (either (lt_z (pos 0) s.δ) (nonzero (s.g 0)) e) [ inl h ↦ inr (below s.δ h) | inr h ↦ inl (D.is_zero_lem _ h) ]

    alive_reduced : (s : State (ℕ → C)) (b : Bool) → swaps (series O) nonzero s ≡ b → NormalState O s → Alive O s → Alive O (reduced (series O) nonzero (swapped b s))
    alive_reduced s true e n l =
        record {
          of_f = D.is_other _ (both (lt_z (pos 0) s.δ) _ e).1;
          of_v = refl;
          of_r = λ z. D.products _ _ (n.of_f 0) (n.of_r 0) l.of_f l.of_r (minus_none _ _ (R.times_normal _ _) (R.times_normal _ _) z ∙ ap (O.times _) l.of_v ∙ times_zero R _);
        }
    alive_reduced s false e n l =
        record {
          of_f = l.of_f;
          of_v = refl;
          of_r = λ z. D.products _ _ (n.of_f 0) (n.of_r 0) l.of_f l.of_r (sym (minus_none _ _ (R.times_normal _ _) (R.times_normal _ _) z) ∙ ap (O.times _) l.of_v ∙ times_zero R _);
        }

    module _ (p : ℕ) (big : 2 ≤ p) (f g : ℕ → C) where
      pub run_degrees : Within O p f → Within O (p - 1) g → (n : ℕ) → Degrees O p n (run O nonzero n (pos 1) f g)
      unfolding steps step
      run_degrees hf hg zero = record {
        of_f = λ k l. hf k (omega (arith, ints));
        of_g = λ k l. hg k (omega (arith, ints));
        of_v = λ k l. refl;
        of_r = λ k l. half_unit O k (omega (arith, ints));
      }
      run_degrees hf hg (suc n) =
          let s = run O nonzero n (pos 1) f g in
          degrees_reduced p n _ (calm s _ refl) (degrees_swapped O p n (swaps (series O) nonzero s) s (run_degrees hf hg n))

      pub run_alive : f 0 ≡ O.one → Normals O f → Normals O g → (n : ℕ) → Alive O (run O nonzero n (pos 1) f g)
      unfolding steps step
      run_alive one nf ng zero = record { of_f = λ z. D.distinct (sym one ∙ z); of_v = refl; of_r = D.distinct }
      run_alive one nf ng (suc n) = alive_reduced _ _ refl (run_normal R nonzero n (pos 1) f g nf ng) (run_alive one nf ng n)
