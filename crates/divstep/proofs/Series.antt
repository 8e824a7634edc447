-- Series: polynomials without a length, as the functions that give coefficient k. Steps on lists are steps on series as long as nothing is cut off.
-- Main definitions: `series`, `row` (the row (a, b) of a matrix times the column (x, y)).
-- Main results: `mix_sum`, that c·a - d·b is a sum; `row_mix` and `row_up`, that rows go along with what a step does; `row_is`, that `row_at` is the row of lists.
use Rattle.std.proofs.Common.{◌≡◌, ℕ, zero, suc, ◌-◌, List, sym, refl, ap, ◌∙◌, ap₂, arith}
use mathlib.Core.Path.{fun_ext}
use Rattle.field.specs.Rings.{Operations, CommutativeRing, Normal}
use Rattle.field.specs.Convolution.{at, sum_below, coefficient}
use Rattle.field.proofs.Sums.{zero_normal, times_zero, sum_normal, sum_zeros, sum_first}
use Rattle.ring.specs.Polynomials.{unit_at}
use Rattle.ring.proofs.Polynomials.{plus_left, plus_zero, plus_times}
use Rattle.divstep.specs.Steps.{Held, shifted_at}
use Rattle.divstep.specs.Batches.{row_at}

module _ {C : Type 0} (O : Operations C) where
  abbrev pub series : Held C (ℕ → C)
  series = record {
    first = λ a. a 0;
    mix = λ c a d b k. O.minus (O.times c (a k)) (O.times d (b k));
    down = λ a k. a (suc k);
    up = shifted_at O;
  }

  -- coefficient k of the product of two series
  unfoldable pub convolved : (ℕ → C) → (ℕ → C) → ℕ → C
  convolved a b k = sum_below O (suc k) (λ i. O.times (a i) (b (k - i)))

  -- coefficient k of a·x + b·y
  unfoldable pub row : (ℕ → C) → (ℕ → C) → (ℕ → C) → (ℕ → C) → ℕ → C
  row a b x y k = O.plus (convolved a x k) (convolved b y k)

  pub row_is : (a b x y : List C) (k : ℕ) → row_at O a b x y k ≡ row (at O a) (at O b) (at O x) (at O y) k
  unfolding row convolved coefficient
  row_is a b x y k = refl

  -- -a
  unfoldable pub negative : C → C
  negative a = O.times (O.minus O.zero O.one) a

  pub mix_same : {c c' d d' a a' b b' : C} → c ≡ c' → a ≡ a' → d ≡ d' → b ≡ b' → O.minus (O.times c a) (O.times d b) ≡ O.minus (O.times c' a') (O.times d' b')
  mix_same ec ea ed eb = ap₂ O.minus (ap₂ O.times ec ea) (ap₂ O.times ed eb)

module _ {C : Type 0} {O : Operations C} (R : CommutativeRing O) where
  plus_four : (a b c d : C) → O.plus (O.plus a b) (O.plus c d) ≡ O.plus (O.plus a c) (O.plus b d)
  plus_four a b c d = simp (R.plus_assoc, plus_left R)

  -- differences as sums
  plus_negative : (a : C) → O.plus (O.plus O.zero a) (negative O a) ≡ O.zero
  unfolding negative
  plus_negative a =
      ap₂ O.plus (sym (R.one_times a)) refl ∙ R.plus_comm _ _ ∙ sym (plus_times R _ _ a) ∙ ap (λ c. O.times c a) (R.minus_plus _ _ ∙ zero_normal R)
      ∙ R.zero_times a

  normal_plus : (a b : C) → O.plus (O.plus O.zero a) b ≡ O.plus a b
  normal_plus a b = R.plus_assoc _ _ _ ∙ R.plus_normal a b

  minus_is : (a b : C) → O.minus a b ≡ O.plus a (negative O b)
  minus_is a b =
      sym (R.minus_normal a b) ∙ sym (plus_zero R _) ∙ ap (O.plus _) (sym (plus_negative b) ∙ normal_plus b (negative O b)) ∙ sym (R.plus_assoc _ _ _)
      ∙ ap₂ O.plus (R.minus_plus a b) refl ∙ normal_plus a (negative O b)

  pub mix_sum : (c a d b : C) → O.minus (O.times c a) (O.times d b) ≡ O.plus (O.times c a) (O.times (negative O d) b)
  unfolding negative
  mix_sum c a d b = minus_is _ _ ∙ ap (O.plus _) (sym (R.times_assoc _ _ _))

  pub mix_zeros : (c d : C) → O.minus (O.times c O.zero) (O.times d O.zero) ≡ O.zero
  mix_zeros c d = mix_sum c _ d _ ∙ ap₂ O.plus (times_zero R _) (times_zero R _) ∙ zero_normal R

  pub mix_self : (a b : C) → O.minus (O.times a b) (O.times b a) ≡ O.zero
  mix_self a b = ap (O.minus _) (R.times_comm b a) ∙ minus_is _ _ ∙ ap₂ O.plus (sym (R.times_normal a b)) refl ∙ plus_negative _

  -- sums and multiples, term by term
  sum_plus : (n : ℕ) (s t : ℕ → C) → sum_below O n (λ i. O.plus (s i) (t i)) ≡ O.plus (sum_below O n s) (sum_below O n t)
  unfolding sum_below
  sum_plus zero s t = sym (zero_normal R)
  sum_plus (suc n) s t = ap₂ O.plus (sum_plus n s t) refl ∙ plus_four _ _ _ _

  sum_times : (n : ℕ) (c : C) (t : ℕ → C) → sum_below O n (λ i. O.times c (t i)) ≡ O.times c (sum_below O n t)
  unfolding sum_below
  sum_times zero c t = sym (times_zero R c)
  sum_times (suc n) c t = ap₂ O.plus (sum_times n c t) refl ∙ sym (R.times_plus c _ _)

  -- the product, as its first factor changes
  convolved_mix : (c d : C) (a b x : ℕ → C) (k : ℕ) → convolved O ((series O).mix c a d b) x k ≡ O.plus (O.times c (convolved O a x k)) (O.times (negative O d) (convolved O b x k))
  unfolding convolved
  convolved_mix c d a b x k =
      ap (sum_below O (suc k)) (fun_ext (λ i. ap (λ t. O.times t (x (k - i))) (mix_sum c (a i) d (b i)) ∙ plus_times R _ _ _ ∙ ap₂ O.plus (R.times_assoc _ _ _) (R.times_assoc _ _ _)))
      ∙ sum_plus (suc k) _ _ ∙ ap₂ O.plus (sum_times (suc k) c _) (sum_times (suc k) _ _)

  convolved_up : (a x : ℕ → C) (k : ℕ) → convolved O (shifted_at O a) x k ≡ shifted_at O (convolved O a x) k
  unfolding convolved sum_below
  convolved_up a x zero = ap (O.plus _) (R.zero_times _) ∙ zero_normal R
  convolved_up a x (suc k) =
      let next : (i : ℕ) → suc k - suc i ≡ k - i = λ i. omega arith in
      sum_first R (suc k) _ ∙ ap₂ O.plus (R.zero_times _) (ap (sum_below O (suc k)) (fun_ext (λ i. ap (λ j. O.times (a i) (x j)) (next i)))) ∙ sum_normal R (suc k) _

  convolved_none : (x : ℕ → C) (k : ℕ) → convolved O (λ i. O.zero) x k ≡ O.zero
  unfolding convolved
  convolved_none x k = sum_zeros R (suc k) _ (λ i. R.zero_times _)

  convolved_unit : (x : ℕ → C) (k : ℕ) → convolved O (unit_at O) x k ≡ O.plus O.zero (x k)
  unfolding convolved
  convolved_unit x k =
      let here : k - 0 ≡ k = omega arith in
      sum_first R k _ ∙ ap₂ O.plus (R.one_times _ ∙ ap (λ j. O.plus O.zero (x j)) here) (sum_zeros R k _ (λ i. R.zero_times _)) ∙ plus_zero R _ ∙ R.plus_normal _ _

  -- rows go along with what a step does
  module _ (x y : ℕ → C) where
    pub row_mix : (c d : C) (a b a' b' : ℕ → C) (k : ℕ) → O.minus (O.times c (row O a b x y k)) (O.times d (row O a' b' x y k)) ≡ row O ((series O).mix c a d a') ((series O).mix c b d b') x y k
    unfolding row
    row_mix c d a b a' b' k =
        mix_sum c _ d _ ∙ ap₂ O.plus (R.times_plus c _ _) (R.times_plus _ _ _) ∙ plus_four _ _ _ _
        ∙ sym (ap₂ O.plus (convolved_mix c d a a' x k) (convolved_mix c d b b' y k))

    pub row_up : (a b : ℕ → C) (k : ℕ) → row O (shifted_at O a) (shifted_at O b) x y k ≡ shifted_at O (row O a b x y) k
    unfolding row
    row_up a b zero = ap₂ O.plus (convolved_up a x 0) (convolved_up b y 0) ∙ zero_normal R
    row_up a b (suc k) = ap₂ O.plus (convolved_up a x (suc k)) (convolved_up b y (suc k))

    pub row_first : (k : ℕ) → Normal O (x k) → row O (unit_at O) (λ i. O.zero) x y k ≡ x k
    unfolding row
    row_first k n = ap₂ O.plus (convolved_unit x k) (convolved_none y k) ∙ plus_zero R _ ∙ R.plus_normal _ _ ∙ n

    pub row_second : (k : ℕ) → Normal O (y k) → row O (λ i. O.zero) (unit_at O) x y k ≡ y k
    unfolding row
    row_second k n = ap₂ O.plus (convolved_none x k) (convolved_unit y k) ∙ R.plus_normal _ _ ∙ n
