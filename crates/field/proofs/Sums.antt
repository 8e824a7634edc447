-- Sums over an index, and the coefficients of a product.
-- Main results: `sum_first` and `sum_rest`, `coefficient_none`, `coefficient_first` and `coefficient_more`, `at_convolution`.
use Rattle.std.proofs.Common.{◌≡◌, ℕ, zero, suc, ◌+◌, ◌-◌, ◌<◌, ◌≤◌, List, [], ◌∷◌, length, sym, refl, ap, ◌∙◌, ap₂, inl, inr, add-one, arith}
use mathlib.Core.Path.{fun_ext}
use Rattle.std.proofs.lemmas.List.{get_or_past}
use Rattle.std.proofs.lemmas.Bool.{cases_lt}
use Rattle.field.specs.Rings.{Operations, CommutativeRing, Normal}
use Rattle.field.specs.Convolution.{at, sum_below, coefficient, convolution}
use Rattle.field.proofs.Tables.{length_tabulate, get_d_tabulate}

-- one term more, as a loop adds it
pub sum_more : {C : Type 0} (O : Operations C) (n : ℕ) (t : ℕ → C) (x y : C) → x ≡ sum_below O n t → y ≡ O.plus x (t n) → y ≡ sum_below O (n + 1) t
unfolding sum_below
sum_more O n t x y e f = f ∙ ap₂ O.plus e refl ∙ ap (λ m. sum_below O m t) (sym (add-one n))

module _ {C : Type 0} {O : Operations C} (R : CommutativeRing O) where
  pub zero_normal : Normal O O.zero
  zero_normal = simp R.zero_times at (R.times_normal O.zero O.zero)

  pub times_zero : (a : C) → O.times a O.zero ≡ O.zero
  times_zero a = R.times_comm a O.zero ∙ R.zero_times a

  pub sum_normal : (n : ℕ) (t : ℕ → C) → Normal O (sum_below O n t)
  unfolding sum_below
  sum_normal zero t = zero_normal
  sum_normal (suc n) t = R.plus_normal _ _

  -- terms that are zero add nothing
  pub sum_zeros : (n : ℕ) (t : ℕ → C) → ((i : ℕ) → t i ≡ O.zero) → sum_below O n t ≡ O.zero
  unfolding sum_below
  sum_zeros zero t z = refl
  sum_zeros (suc n) t z = ap₂ O.plus (sum_zeros n t z) (z n) ∙ zero_normal

  pub sum_rest : (n m : ℕ) (t : ℕ → C) → n ≤ m → ((i : ℕ) → n ≤ i → t i ≡ O.zero) → sum_below O m t ≡ sum_below O n t
  unfolding sum_below
  sum_rest zero zero t h z = refl
  sum_rest (suc n) zero t h z = absurd (omega arith)
  sum_rest n (suc m) t h z = elim (cases_lt m n) [
    | inl l ↦ let e : suc m ≡ n = omega arith in ap (λ k. sum_below O k t) e
    | inr l ↦ ap₂ O.plus (sum_rest n m t l z) (z m l) ∙ R.plus_comm _ _ ∙ sum_normal n t
  ]

  -- the first term by itself
  pub sum_first : (n : ℕ) (t : ℕ → C) → sum_below O (suc n) t ≡ O.plus (t 0) (sum_below O n (λ i. t (suc i)))
  unfolding sum_below
  sum_first zero t = R.plus_comm _ _
  sum_first (suc n) t = ap₂ O.plus (sum_first n t) refl ∙ R.plus_assoc _ _ _

  -- the coefficients of a product with one coefficient more
  pub coefficient_none : (b : List C) (k : ℕ) → coefficient O [] b k ≡ O.zero
  unfolding coefficient
  coefficient_none b k = sum_zeros (suc k) _ (λ i. R.zero_times _)

  pub coefficient_first : (x : C) (a b : List C) → coefficient O (x ∷ a) b 0 ≡ O.times x (at O b 0)
  unfolding coefficient sum_below
  coefficient_first x a b = R.times_normal _ _

  pub coefficient_more : (x : C) (a b : List C) (k : ℕ) → coefficient O (x ∷ a) b (suc k) ≡ O.plus (O.times x (at O b (suc k))) (coefficient O a b k)
  unfolding coefficient
  coefficient_more x a b k =
      let here : suc k - 0 ≡ suc k = omega arith in
      let next : (i : ℕ) → suc k - suc i ≡ k - i = λ i. omega arith in
      sum_first (suc k) _ ∙ ap₂ O.plus (ap (λ j. O.times x (at O b j)) here) (ap (sum_below O (suc k)) (fun_ext (λ i. ap (λ j. O.times (at O a i) (at O b j)) (next i))))

  -- the first n terms are all of them, where k or a ends there
  pub coefficient_sum : (a b : List C) (k n : ℕ) → n ≤ k + 1 → (n < k + 1 → n ≡ length a) → coefficient O a b k ≡ sum_below O n (λ i. O.times (at O a i) (at O b (k - i)))
  unfolding coefficient
  coefficient_sum a b k n h e = elim (cases_lt n (suc k)) [
    | inl l ↦ let whole : n ≡ length a = e (omega arith) in
        sum_rest n (suc k) _ (omega arith) (λ i m. ap₂ O.times (get_or_past a i O.zero (omega arith)) refl ∙ R.zero_times _)
    | inr l ↦ let all : suc k ≡ n = omega arith in ap (λ m. sum_below O m (λ i. O.times (at O a i) (at O b (k - i)))) all
  ]

  -- past the end of a product
  pub coefficient_past : (a b : List C) (k : ℕ) → length a + length b ≤ k + 1 → coefficient O a b k ≡ O.zero
  unfolding coefficient
  coefficient_past a b k h = sum_zeros (suc k) _ (λ i. elim (cases_lt i (length a)) [
    | inl l ↦ ap (O.times _) (get_or_past b (k - i) O.zero (omega arith)) ∙ times_zero _
    | inr l ↦ ap₂ O.times (get_or_past a i O.zero l) refl ∙ R.zero_times _
  ])

  -- a list long enough for the whole product holds each of its coefficients
  pub at_convolution : (a b : List C) (n : ℕ) → length a + length b ≤ n + 1 → (k : ℕ) → at O (convolution O n a b) k ≡ coefficient O a b k
  at_convolution a b n h k = elim (cases_lt k n) [
    | inl l ↦ get_d_tabulate n (coefficient O a b) O.zero k l
    | inr l ↦ get_or_past (convolution O n a b) k O.zero (omega (arith, length_tabulate n (coefficient O a b))) ∙ sym (coefficient_past a b k (omega arith))
  ]
