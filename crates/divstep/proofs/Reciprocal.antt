-- Division steps at the polynomials modulo x^p - x - 1, with 1/x in the place of x.
-- Main definitions: `modulus`, the polynomial 1 - x^(p-1) - x^p; `over`, the product with 1/x.
-- Main results: `kept`, that `Kept` holds of a run from `modulus` and the reverse of a;
-- `found` and `lost`, what its end says of products with a.
use Rattle.std.proofs.Common.{◌≡◌, ℕ, zero, suc, ◌+◌, ◌-◌, ◌≤◌, Bool, List, [], ◌∷◌, ◌++◌, reverse, length, replicate, pos, sym, refl, ap, ◌∙◌, ap₂, arith, length-append}
use lib.ListN.{length-replicate}
use Rattle.std.proofs.lemmas.List.{get_or_past, get_or-reverse, length-reverse, reverse-reverse}
use Rattle.field.specs.Rings.{Operations, CommutativeRing, Normal}
use Rattle.field.specs.Convolution.{tabulate, at}
use Rattle.field.proofs.Sums.{zero_normal}
use Rattle.field.proofs.Tables.{length_tabulate, get_d_tabulate, tabulate_is, tabulate_ext}
use Rattle.ring.specs.Polynomials.{horner, power, zeros, unit, sum, scaled, times_x, space, through, product, value, polynomials}
use Rattle.ring.proofs.Horner.{Linear, SpaceLaws, keeps_none, keeps_normal, horner_linear, horner_x, horner_swap, horner_normal, horner_one, horner_shift, horner_longer, power_linear, power_x}
use Rattle.ring.proofs.Polynomials.{space_laws, linear, length_normal, value_short, through_value, product_through, power_p, ring}
use Rattle.divstep.specs.Steps.{State, swaps, step, steps}
use Rattle.divstep.proofs.Series.{series}
use Rattle.divstep.proofs.Runs.{run, Within, low_swapped, run_low, within_swapped, run_within}
use Rattle.divstep.proofs.Evaluation.{evaluated, Kept, kept_swapped, kept_reduced, evaluated_zeros, evaluated_rest, evaluated_constant, evaluated_down, power_back, constant_reversed, nothing_reversed}

module _ {C : Type 0} (O : Operations C) (p : ℕ) where
  -- 1 - x^(p-1) - x^p, which is x^p - x - 1 reversed
  unfoldable pub modulus : List C
  modulus = O.one ∷ (replicate (p - 2) O.zero ++ (O.minus O.zero O.one ∷ O.minus O.zero O.one ∷ []))

  pub length_modulus : 2 ≤ p → length modulus ≡ p + 1
  unfolding modulus
  length_modulus big = simp (length-append, length-replicate) (omega arith)

  reverse_tabulate : (w : ℕ → C) → reverse (tabulate p w) ≡ tabulate p (λ k. w (p - 1 - k))
  reverse_tabulate w =
      let n = length_tabulate p w in
      tabulate_is p _ _ O.zero (length-reverse (tabulate p w) ∙ n)
      (λ k h. get_or-reverse (tabulate p w) k O.zero (omega arith) ∙ ap (λ m. at O (tabulate p w) (m - 1 - k)) n ∙ get_d_tabulate p w O.zero (p - 1 - k) (omega arith))

module _ {C : Type 0} {O : Operations C} (R : CommutativeRing O) (p : ℕ) (big : 2 ≤ p) where
  -- short names
  L : SpaceLaws R (space O p)
  L = space_laws R p

  X : List C → List C
  X = times_x O p

  x_linear : Linear (space O p) X
  unfolding X
  x_linear = linear R p big

  e : List C
  e = unit O p

  minus_one : C
  minus_one = O.minus O.zero O.one

  unit_is_normal : Normal (polynomials O p) e
  unfolding e
  unit_is_normal = (ring R p big).one_normal

  opposite : (v : List C) → Normal (polynomials O p) v → sum O p v (scaled O p minus_one v) ≡ zeros O p
  unfolding minus_one
  opposite v n =
      ap₂ (sum O p) (sym n ∙ sym (L.scale_one v)) refl ∙ L.add_comm _ _ ∙ sym (L.scale_plus _ O.one v)
      ∙ ap (λ c. scaled O p c v) (R.minus_plus _ _ ∙ zero_normal R) ∙ L.scale_zero v

  -- 1/x = x^(p-1) - 1
  y : List C
  y = sum O p (power X (p - 1) e) (scaled O p minus_one e)

  x_times_y : X y ≡ e
  unfolding X e y power
  x_times_y =
      let top : suc (p - 1) ≡ p = omega arith in
      x_linear.adds _ _ ∙ ap₂ (sum O p) (ap (λ n. power X n e) top ∙ power_p R p big) (x_linear.scales _ _)
      ∙ L.add_assoc _ _ _ ∙ ap (sum O p e) (opposite (X e) (keeps_normal L x_linear e unit_is_normal)) ∙ L.add_comm _ _ ∙ unit_is_normal

  pub over : List C → List C
  over = through O p y

  pub over_linear : Linear (space O p) over
  unfolding over
  over_linear = horner_linear L (linear R p big) y

  commute : (v : List C) → over (X v) ≡ X (over v)
  unfolding over X
  commute v = horner_x L (linear R p big) y v

  value_normal : (v : List C) → Normal (polynomials O p) v → value O p v ≡ v
  value_normal v n = let h = length_normal O p v n in value_short R p big v (omega arith) ∙ n

  back : (v : List C) → Normal (polynomials O p) v → X (over v) ≡ v
  unfolding over X y e
  back v n =
      ap (λ w. X (through O p y w)) (sym (value_normal v n)) ∙ ap X (horner_swap L (linear R p big) y v (unit O p) ∙ ap (through O p v) (value_normal y ((ring R p big).plus_normal _ _)))
      ∙ sym (horner_x L (linear R p big) v y) ∙ ap (through O p v) x_times_y ∙ value_normal v n

  -- (1/x)^(p-1) + (1/x)^p = 1
  round : power over (suc (p - 2)) (sum O p e (over e)) ≡ e
  unfolding power X e
  round =
      let top : suc (suc (p - 2)) ≡ p = omega arith in
      let ye : sum O p e (over e) ≡ over (sum O p e (X e)) = L.add_comm _ _ ∙ ap (sum O p _) (sym (commute e ∙ back e unit_is_normal)) ∙ sym (over_linear.adds e (X e)) in
      ap (power over (suc (p - 2))) ye ∙ power_x L over_linear (suc (p - 2)) _ ∙ ap₂ (power over) top (sym (power_p R p big))
      ∙ power_back L over_linear x_linear (λ v. sym (commute v)) (λ v n. commute v ∙ back v n) p e unit_is_normal

  -- so 1 - x^(p-1) - x^p is zero at 1/x
  vanishes : horner (space O p) over (modulus O p) e ≡ zeros O p
  unfolding modulus horner power minus_one
  vanishes =
      let l = power_linear L over_linear (suc (p - 2)) in
      ap₂ (sum O p) (L.scale_one e ∙ unit_is_normal)
      (ap over (horner_shift L over_linear (p - 2) (minus_one ∷ minus_one ∷ []) e ∙ ap (power over (p - 2)) (ap (sum O p _) (ap over (horner_one L over_linear minus_one e) ∙ over_linear.scales minus_one e) ∙ sym (L.scale_add minus_one e (over e))))
      ∙ l.scales minus_one _ ∙ ap (scaled O p minus_one) round)
      ∙ opposite e unit_is_normal

  module _ (a : List C) (long : length a ≡ p) where
    -- the reverse of a at 1/x
    γ : List C
    γ = horner (space O p) over (reverse a) e

    reverse_long : length (reverse a) ≡ p
    reverse_long = length-reverse a ∙ long

    -- after n steps
    pub KeptAt : ℕ → State (ℕ → C) → Type 0
    KeptAt = Kept (space O p) over (suc (p + p - 1)) e γ

    module _ (nonzero : C → Bool) where
      within : (n : ℕ) → Within O p (run O nonzero n (pos 1) (at O (modulus O p)) (at O (reverse a))).f × Within O p (run O nonzero n (pos 1) (at O (modulus O p)) (at O (reverse a))).g
      within n =
          run_within R nonzero p n (pos 1) _ _ (λ k l. get_or_past (modulus O p) k O.zero (omega (arith, length_modulus O p big))) (λ k l. get_or_past (reverse a) k O.zero (omega (arith, reverse_long)))

      pub kept : (n : ℕ) → n ≤ p + p - 1 → KeptAt n (run O nonzero n (pos 1) (at O (modulus O p)) (at O (reverse a)))
      unfolding KeptAt steps step power γ
      kept zero h =
          record {
            of_f = horner_longer L over_linear _ (modulus O p) e (omega (arith, length_modulus O p big)) ∙ vanishes ∙ sym (evaluated_zeros L over_linear _ _ γ (λ k. refl));
            of_g =
                horner_longer L over_linear _ (reverse a) e (omega (arith, reverse_long))
                ∙ sym (evaluated_constant L over_linear _ _ γ (λ k. refl) ∙ L.scale_one γ ∙ horner_normal L over_linear (reverse a) e);
          }
      kept (suc n) h =
          let s = run O nonzero n (pos 1) (at O (modulus O p)) (at O (reverse a)) in
          let b = swaps (series O) nonzero s in
          let w = within_swapped O p b s (within n) in
          let l = low_swapped O n b s (run_low R nonzero n (pos 1) _ _) in
          kept_reduced L over_linear nonzero (p + p - 1) e γ n _ (kept_swapped (space O p) over _ e γ n b s (kept n (omega arith)))
          (λ k i. w.0 k (omega arith)) (λ k i. w.1 k (omega arith)) (λ k i. l.of_v k (omega arith))

    reversed_product : (w : ℕ → C) → product O p (tabulate p (λ k. w (p - 1 - k))) a ≡ horner (space O p) X (reverse (tabulate p w)) (horner (space O p) X (reverse (reverse a)) e)
    unfolding X e
    reversed_product w =
        let r = reverse (tabulate p w) in
        ap (λ l. product O p l a) (sym (reverse_tabulate O p w)) ∙ product_through O p r a (length-reverse (tabulate p w) ∙ length_tabulate p w)
        ∙ through_value R p big r a (omega arith) ∙ ap (λ l. through O p r (value O p l)) (sym (reverse-reverse a))

    top : p ≡ suc (p - 1)
    top = omega arith

    -- where f ends as a constant
    pub found : (s : State (ℕ → C)) → KeptAt (p + p - 1) s → ((k : ℕ) → s.f (suc k) ≡ O.zero) → s.v 0 ≡ O.zero → Within O p s.v →
        product O p (tabulate p (λ k. s.v (p - k))) a ≡ scaled O p (s.f 0) (unit O p)
    unfolding KeptAt γ e
    found s k constant first low =
        let steps_made : suc (p - 1 + (p - 1)) ≡ p + p - 1 = omega arith in
        let w : ℕ → C = λ i. s.v (suc i) in
        ap (λ l. product O p l a) (tabulate_ext p _ _ (λ i l. ap s.v (omega arith))) ∙ reversed_product w
        ∙ constant_reversed L x_linear over_linear commute back (p - 1) e _ (reverse a) (tabulate p w) (s.f 0) (reverse_long ∙ top) (length_tabulate p w ∙ top) (evaluated_constant L over_linear _ s.f e constant)
        (ap (λ n. power over n (evaluated (space O p) over (suc (p + p - 1)) s.f e)) steps_made ∙ k.of_f ∙ evaluated_down L over_linear _ s.v _ first
        ∙ ap over (evaluated_rest L over_linear p _ w _ (omega arith) (λ i l. low (suc i) (omega arith))))

    -- where g ends as zero
    pub lost : (s : State (ℕ → C)) → KeptAt (p + p - 1) s → ((k : ℕ) → s.g k ≡ O.zero) → Within O (p - 1) s.r →
        product O p (tabulate p (λ k. s.r (p - 1 - k))) a ≡ zeros O p
    unfolding KeptAt γ
    lost s k nothing low =
        reversed_product s.r
        ∙ nothing_reversed L x_linear over_linear commute back (p - 1) e (reverse a) (tabulate p s.r) (reverse_long ∙ top) (length_tabulate p s.r ∙ top)
        (sym (evaluated_rest L over_linear p _ s.r _ (omega arith) (λ k l. low k (omega arith))) ∙ sym k.of_g
        ∙ ap (power over (p + p - 1)) (evaluated_zeros L over_linear _ _ e nothing) ∙ keeps_none L (power_linear L over_linear (p + p - 1)))
