-- The polynomials modulo x^p - x - 1 over any commutative ring, for p from 2 on.
-- Main results: `ring`, that they are a commutative ring, on all lists;
-- `fold_value`, that `fold` gives what a list of p to 2p - 1 coefficients is modulo x^p - x - 1;
-- `fold_convolution`, that the product is the fold of the textbook product;
-- `normal_from` and `normal_at`, that p coefficients are normal if and only if each of them is.
use Rattle.std.proofs.Common.{◌≡◌, ℕ, zero, suc, ◌+◌, ◌-◌, ◌<◌, ◌≤◌, ◌≢◌, List, [], ◌∷◌, ◌++◌, length, take, drop, sym, refl, ap, ◌∙◌, ap₂, add-zero, arith, length-drop, take-append-drop}
use mathlib.Core.Path.{fun_ext}
use Rattle.std.proofs.lemmas.List.{get_or_past, get_or-take, get_or-drop, length-take-le}
use Rattle.field.specs.Rings.{Operations, CommutativeRing, Normal}
use Rattle.field.specs.Convolution.{tabulate, at, convolution}
use Rattle.field.proofs.Tables.{length_tabulate, get_d_tabulate, tabulate_is, tabulate_ext}
use Rattle.field.proofs.Sums.{zero_normal, times_zero, at_convolution}
use Rattle.ring.specs.Polynomials.{horner, power, unit_at, times_x_at, fold_at, truncated, zeros, unit, sum, difference, scaled, times_x, fold, space, through, product, value, polynomials}
use Rattle.ring.proofs.Horner.{Linear, SpaceLaws, none_twice, keeps_none, add_left, horner_linear, horner_x, horner_swap, horner_normal, horner_of_normal, horner_zero, horner_append, horner_power, horner_coefficients}

module _ {C : Type 0} {O : Operations C} (R : CommutativeRing O) where
  pub plus_left : (a b c : C) → O.plus a (O.plus b c) ≡ O.plus b (O.plus a c)
  plus_left a b c = simp (← R.plus_assoc, R.plus_comm a b)

  pub plus_zero : (a : C) → O.plus a O.zero ≡ O.plus O.zero a
  plus_zero a = R.plus_comm a O.zero

  pub plus_times : (c d a : C) → O.times (O.plus c d) a ≡ O.plus (O.times c a) (O.times d a)
  plus_times c d a = R.times_comm _ a ∙ R.times_plus a c d ∙ ap₂ O.plus (R.times_comm a c) (R.times_comm a d)

-- the operations on lists that are made from a function
module _ {C : Type 0} (O : Operations C) (p : ℕ) where
  pub sum_tabulate : (f g : ℕ → C) → sum O p (tabulate p f) (tabulate p g) ≡ tabulate p (λ k. O.plus (f k) (g k))
  unfolding sum
  sum_tabulate f g = tabulate_ext p _ _ (λ k h. ap₂ O.plus (get_d_tabulate p f _ k h) (get_d_tabulate p g _ k h))

  pub sum_left : (f : ℕ → C) (b : List C) → sum O p (tabulate p f) b ≡ tabulate p (λ k. O.plus (f k) (at O b k))
  unfolding sum
  sum_left f b = tabulate_ext p _ _ (λ k h. ap₂ O.plus (get_d_tabulate p f _ k h) refl)

  pub sum_right : (a : List C) (f : ℕ → C) → sum O p a (tabulate p f) ≡ tabulate p (λ k. O.plus (at O a k) (f k))
  unfolding sum
  sum_right a f = tabulate_ext p _ _ (λ k h. ap (O.plus _) (get_d_tabulate p f _ k h))

  pub scaled_tabulate : (c : C) (f : ℕ → C) → scaled O p c (tabulate p f) ≡ tabulate p (λ k. O.times c (f k))
  unfolding scaled
  scaled_tabulate c f = tabulate_ext p _ _ (λ k h. ap (O.times c) (get_d_tabulate p f _ k h))

  -- the normal form of a list
  pub normal_form : (a : List C) → sum O p (zeros O p) a ≡ tabulate p (λ k. O.plus O.zero (at O a k))
  unfolding zeros
  normal_form a = sum_left _ a

  pub normal_tabulate : (f : ℕ → C) → ((k : ℕ) → Normal O (f k)) → Normal (polynomials O p) (tabulate p f)
  unfolding zeros
  normal_tabulate f e = sum_tabulate _ f ∙ ap (tabulate p) (fun_ext e)

  -- a list of p coefficients is in normal form if and only if each of them is
  pub normal_from : (a : List C) → length a ≡ p → ((k : ℕ) → k < p → Normal O (at O a k)) → Normal (polynomials O p) a
  normal_from a h e = normal_form a ∙ sym (tabulate_is p _ a O.zero h (λ k l. sym (e k l)))

  pub normal_at : (a : List C) → Normal (polynomials O p) a → (k : ℕ) → k < p → Normal O (at O a k)
  normal_at a e k h = sym (get_d_tabulate p (λ i. O.plus O.zero (at O a i)) O.zero k h) ∙ ap (λ l. at O l k) (sym (normal_form a) ∙ e)

  pub length_normal : (a : List C) → Normal (polynomials O p) a → length a ≡ p
  length_normal a e = ap length (sym e ∙ normal_form a) ∙ length_tabulate p _

  -- just the first p coefficients
  pub length_truncated : (a : List C) → length (truncated O p a) ≡ p
  unfolding truncated
  length_truncated a = length_tabulate p _

  pub truncated_is : (a : List C) → length a ≡ p → truncated O p a ≡ a
  unfolding truncated
  truncated_is a h = sym (tabulate_is p _ a O.zero h (λ k l. refl))

  pub normal_truncated : (a : List C) → sum O p (zeros O p) (truncated O p a) ≡ sum O p (zeros O p) a
  unfolding truncated zeros
  normal_truncated a = sum_tabulate _ _ ∙ sym (normal_form a)

  -- lengths
  pub length_zeros : length (zeros O p) ≡ p
  unfolding zeros
  length_zeros = length_tabulate p _

  pub length_unit : length (unit O p) ≡ p
  unfolding unit
  length_unit = length_tabulate p _

  pub length_sum : (a b : List C) → length (sum O p a b) ≡ p
  unfolding sum
  length_sum a b = length_tabulate p _

  pub length_difference : (a b : List C) → length (difference O p a b) ≡ p
  unfolding difference
  length_difference a b = length_tabulate p _

  pub length_through : (a b : List C) → length (through O p a b) ≡ p
  unfolding horner
  length_through [] b = length_zeros
  length_through (c ∷ a) b = length_sum _ _

  pub length_product : (a b : List C) → length (product O p a b) ≡ p
  unfolding product
  length_product a b = length_through (truncated O p a) b

  pub product_through : (a b : List C) → length a ≡ p → product O p a b ≡ through O p a b
  unfolding product
  product_through a b h = ap (λ l. through O p l b) (truncated_is a h)

module _ {C : Type 0} {O : Operations C} (R : CommutativeRing O) (p : ℕ) where
  -- one place of a fold, where `carried` is the coefficient before p + k, if there is one, else zero
  pub fold_at_carried : (f : ℕ → C) (k : ℕ) (carried : C) → (k ≡ 0 → carried ≡ O.zero) → ((i : ℕ) → k ≡ suc i → carried ≡ f (p + i)) → O.plus (f k) (O.plus (f (p + k)) carried) ≡ fold_at O p f k
  fold_at_carried f zero carried first later =
      ap (λ x. O.plus (f 0) (O.plus (f (p + 0)) x)) (first refl)
      ∙ sym (R.plus_assoc (f 0) (f (p + 0)) O.zero)
      ∙ R.plus_comm _ O.zero
      ∙ R.plus_normal (f 0) (f (p + 0))
      ∙ ap (λ n. O.plus (f 0) (f n)) (add-zero p)
  fold_at_carried f (suc k) carried first later = ap (λ x. O.plus (f (suc k)) (O.plus (f (p + suc k)) x)) (later k refl)

  pub unit_normal : (k : ℕ) → Normal O (unit_at O k)
  unit_normal zero = R.one_normal
  unit_normal (suc k) = zero_normal R

  pub space_laws : SpaceLaws R (space O p)
  unfolding sum scaled zeros
  space_laws = record {
    add_comm = λ a b. ap (tabulate p) (fun_ext λ k. R.plus_comm _ _);
    add_assoc = λ a b c. sum_left O p _ c ∙ ap (tabulate p) (fun_ext λ k. R.plus_assoc _ _ _) ∙ sym (sum_right O p a _);
    scale_add = λ c a b. scaled_tabulate O p c _ ∙ ap (tabulate p) (fun_ext λ k. R.times_plus c _ _) ∙ sym (sum_tabulate O p _ _);
    scale_plus = λ c d a. ap (tabulate p) (fun_ext λ k. plus_times R c d _) ∙ sym (sum_tabulate O p _ _);
    scale_times = λ c d a. ap (tabulate p) (fun_ext λ k. R.times_assoc c d _) ∙ sym (scaled_tabulate O p c _);
    scale_zero = λ a. ap (tabulate p) (fun_ext λ k. R.zero_times _);
    scale_one = λ a. ap (tabulate p) (fun_ext λ k. R.one_times _) ∙ sym (normal_form O p a);
    scale_normal = λ c a. normal_tabulate O p _ (λ k. R.times_normal c _);
  }

module _ {C : Type 0} {O : Operations C} (R : CommutativeRing O) (p : ℕ) (big : 2 ≤ p) where
  -- only what stands below p counts
  times_x_at_cong : (f g : ℕ → C) → ((k : ℕ) → k < p → f k ≡ g k) → (k : ℕ) → k < p → times_x_at O p f k ≡ times_x_at O p g k
  times_x_at_cong f g e zero h = e (p - 1) (omega arith)
  times_x_at_cong f g e (suc zero) h = ap₂ O.plus (e 0 (omega arith)) (e (p - 1) (omega arith))
  times_x_at_cong f g e (suc (suc k)) h = e (suc k) (omega arith)

  pub times_x_tabulate : (f : ℕ → C) → times_x O p (tabulate p f) ≡ tabulate p (times_x_at O p f)
  unfolding times_x
  times_x_tabulate f = tabulate_ext p _ _ (times_x_at_cong _ f (get_d_tabulate p f _))

  pub linear : Linear (space O p) (times_x O p)
  unfolding sum scaled times_x
  linear = record {
    adds = λ a b. times_x_tabulate _ ∙ ap (tabulate p) (fun_ext (adds a b)) ∙ sym (sum_tabulate O p _ _);
    scales = λ c a. times_x_tabulate _ ∙ ap (tabulate p) (fun_ext (scales c a)) ∙ sym (scaled_tabulate O p c _);
  }
    where
      adds : (a b : List C) (k : ℕ) → times_x_at O p (λ i. O.plus (at O a i) (at O b i)) k ≡ O.plus (times_x_at O p (at O a) k) (times_x_at O p (at O b) k)
      adds a b zero = refl
      adds a b (suc zero) = simp (R.plus_assoc, plus_left R (at O b 0))
      adds a b (suc (suc k)) = refl

      scales : (c : C) (a : List C) (k : ℕ) → times_x_at O p (λ i. O.times c (at O a i)) k ≡ O.times c (times_x_at O p (at O a) k)
      scales c a zero = refl
      scales c a (suc zero) = sym (R.times_plus c _ _)
      scales c a (suc (suc k)) = refl

  -- a polynomial of degree below p is its own value, in normal form
  pub value_short : (b : List C) → length b ≤ p → value O p b ≡ sum O p (zeros O p) b
  unfolding horner unit zeros
  value_short [] h = sym (normal_form O p [] ∙ ap (tabulate p) (fun_ext λ k. zero_normal R))
  value_short (c ∷ cs) h =
      ap₂ (sum O p) (scaled_tabulate O p c (unit_at O)) (ap (times_x O p) (value_short cs (omega arith) ∙ normal_form O p cs) ∙ times_x_tabulate _)
      ∙ sum_tabulate O p _ _ ∙ ap (tabulate p) (fun_ext go) ∙ sym (normal_form O p (c ∷ cs))
    where
      last : O.plus O.zero (at O cs (p - 1)) ≡ O.zero
      last = ap (O.plus _) (get_or_past cs (p - 1) O.zero (omega arith)) ∙ zero_normal R

      go : (k : ℕ) → O.plus (O.times c (unit_at O k)) (times_x_at O p (λ i. O.plus O.zero (at O cs i)) k) ≡ O.plus O.zero (at O (c ∷ cs) k)
      go zero = ap₂ O.plus (R.times_comm c _ ∙ R.one_times c) last ∙ plus_zero R _ ∙ R.plus_normal _ c
      go (suc zero) = ap₂ O.plus (times_zero R c) (ap (O.plus _) last ∙ plus_zero R _ ∙ R.plus_normal _ _) ∙ R.plus_normal _ _
      go (suc (suc k)) = ap₂ O.plus (times_zero R c) refl ∙ R.plus_normal _ _

  -- so products commute
  pub through_value : (a b : List C) → length b ≤ p → through O p a b ≡ through O p a (value O p b)
  through_value a b h = sym (ap (through O p a) (value_short b h) ∙ horner_of_normal (space_laws R p) linear a b)

  pub through_comm : (a b : List C) → length a ≤ p → length b ≤ p → through O p a b ≡ through O p b a
  through_comm a b ha hb = through_value a b hb ∙ horner_swap (space_laws R p) linear a b (unit O p) ∙ sym (through_value b a ha)

  pub through_truncated : (a b : List C) → through O p a (truncated O p b) ≡ through O p a b
  through_truncated a b =
      let L = space_laws R p in
      sym (horner_of_normal L linear a (truncated O p b)) ∙ ap (through O p a) (normal_truncated O p b) ∙ horner_of_normal L linear a b

  pub product_comm : (a b : List C) → product O p a b ≡ product O p b a
  unfolding product
  product_comm a b =
      sym (through_truncated _ b) ∙ through_comm _ _ (omega (arith, length_truncated O p a)) (omega (arith, length_truncated O p b)) ∙ through_truncated _ a

  pub product_assoc : (a b c : List C) → product O p (product O p a b) c ≡ product O p a (product O p b c)
  unfolding product
  product_assoc a b c =
      product_comm (product O p a b) c ∙ horner_swap (space_laws R p) linear (truncated O p c) (truncated O p a) b ∙ ap (product O p a) (product_comm c b)

  pub product_unit : (a : List C) → product O p a (unit O p) ≡ sum O p (zeros O p) a
  unfolding product
  product_unit a = value_short _ (omega (arith, length_truncated O p a)) ∙ normal_truncated O p a

  pub product_linear : (a : List C) → Linear (space O p) (product O p a)
  unfolding product
  product_linear a = horner_linear (space_laws R p) linear (truncated O p a)

  pub through_normal : (a b : List C) → Normal (polynomials O p) (through O p a b)
  through_normal a b = horner_normal (space_laws R p) linear a b

  pub product_normal : (a b : List C) → Normal (polynomials O p) (product O p a b)
  unfolding product
  product_normal a b = through_normal _ b

  pub ring : CommutativeRing (polynomials O p)
  unfolding sum difference unit
  ring = record {
    plus_comm = L.add_comm;
    plus_assoc = L.add_assoc;
    times_comm = product_comm;
    times_assoc = product_assoc;
    times_plus = λ a. (product_linear a).adds;
    zero_times = λ a. product_comm _ a ∙ keeps_none L (product_linear a);
    one_times = λ a. product_comm _ a ∙ product_unit a;
    minus_plus = λ a b. sum_left O p _ b ∙ ap (tabulate p) (fun_ext λ k. R.minus_plus _ _) ∙ sym (normal_form O p a);
    one_normal = normal_tabulate O p (unit_at O) (unit_normal R p);
    plus_normal = λ a b. normal_tabulate O p _ (λ k. R.plus_normal _ _);
    minus_normal = λ a b. normal_tabulate O p _ (λ k. R.minus_normal _ _);
    times_normal = product_normal;
  }
    where
      L : SpaceLaws R (space O p)
      L = space_laws R p

  -- the textbook product
  pub value_convolution : (a b : List C) (n : ℕ) → length b ≤ p → length a + length b ≤ suc n → value O p (convolution O n a b) ≡ through O p a b
  value_convolution a b n h k = horner_coefficients (space_laws R p) linear a b n (unit O p) k ∙ sym (through_value a b h)

  -- the coefficients of x^n
  monomial : ℕ → ℕ → C
  monomial zero k = unit_at O k
  monomial (suc n) zero = O.zero
  monomial (suc n) (suc k) = monomial n k

  monomial_same : (n : ℕ) → monomial n n ≡ O.one
  unfolding monomial
  monomial_same zero = refl
  monomial_same (suc n) = monomial_same n

  monomial_other : (n k : ℕ) → n ≢ k → monomial n k ≡ O.zero
  unfolding monomial
  monomial_other zero zero h = absurd (h refl)
  monomial_other (suc n) zero h = refl
  monomial_other zero (suc k) h = refl
  monomial_other (suc n) (suc k) h = monomial_other n k (omega arith)

  monomial_normal : (n : ℕ) → O.plus (monomial n 0) O.zero ≡ monomial n 0
  unfolding monomial
  monomial_normal zero = plus_zero R _ ∙ R.one_normal
  monomial_normal (suc n) = zero_normal R

  power_unit : (n : ℕ) → n < p → power (times_x O p) n (unit O p) ≡ tabulate p (monomial n)
  unfolding power monomial unit
  power_unit zero h = refl
  power_unit (suc n) h = ap (times_x O p) (power_unit n (omega arith)) ∙ times_x_tabulate (monomial n) ∙ ap (tabulate p) (fun_ext go)
    where
      last : monomial n (p - 1) ≡ O.zero
      last = monomial_other n (p - 1) (omega arith)

      go : (k : ℕ) → times_x_at O p (monomial n) k ≡ monomial (suc n) k
      go zero = last
      go (suc zero) = ap (O.plus (monomial n 0)) last ∙ monomial_normal n
      go (suc (suc k)) = refl

  -- x^p = 1 + x
  pub power_p : power (times_x O p) p (unit O p) ≡ sum O p (unit O p) (times_x O p (unit O p))
  unfolding power unit monomial
  power_p =
      ap (λ n. power (times_x O p) n (unit O p)) top ∙ ap (times_x O p) (power_unit (p - 1) (omega arith)) ∙ times_x_tabulate (monomial (p - 1))
      ∙ tabulate_ext p _ _ go ∙ sym (sum_tabulate O p _ _) ∙ ap (sum O p _) (sym (times_x_tabulate _))
    where
      top : p ≡ suc (p - 1)
      top = omega arith

      last : O.plus O.one (unit_at O (p - 1)) ≡ O.one
      last = ap (O.plus O.one) (monomial_other 0 (p - 1) (omega arith)) ∙ plus_zero R _ ∙ R.one_normal

      go : (k : ℕ) → k < p → times_x_at O p (monomial (p - 1)) k ≡ O.plus (unit_at O k) (times_x_at O p (unit_at O) k)
      go zero h = monomial_same (p - 1) ∙ sym last
      go (suc zero) h = ap₂ O.plus (monomial_other (p - 1) 0 (omega arith)) (monomial_same (p - 1) ∙ sym last)
      go (suc (suc k)) h = monomial_other (p - 1) (suc k) (omega arith) ∙ sym (zero_normal R)

  fold_append : (lo hi : List C) → length lo ≡ p → length hi < p → value O p (lo ++ hi) ≡ sum O p (zeros O p) (sum O p lo (sum O p hi (O.zero ∷ hi)))
  fold_append lo hi hl hh =
      let L = space_laws R p in
      horner_append L linear lo hi (unit O p)
      ∙ ap₂ (sum O p) (value_short lo (omega arith))
      (ap (λ n. power (times_x O p) n (value O p hi)) hl ∙ horner_power L linear p hi (unit O p) ∙ ap (through O p hi) power_p ∙ (horner_linear L linear hi).adds _ _
      ∙ ap₂ (sum O p) (value_short hi (omega arith)) (horner_x L linear hi (unit O p) ∙ sym (horner_zero L linear hi (unit O p)) ∙ value_short (O.zero ∷ hi) hh))
      ∙ simp (L.add_assoc, add_left L, none_twice L)

  pub fold_value : (c : List C) → p ≤ length c → length c < p + p → value O p c ≡ fold O p c
  unfolding fold zeros sum
  fold_value c h k =
      ap (value O p) (sym (take-append-drop p c))
      ∙ fold_append (take p c) (drop p c) (length-take-le p c h) (rw length-drop (omega arith))
      ∙ ap (sum O p (zeros O p)) (sum_right O p _ _) ∙ sum_tabulate O p _ _ ∙ tabulate_ext p _ _ go
    where
      go : (k : ℕ) → k < p → O.plus O.zero (O.plus (at O (take p c) k) (O.plus (at O (drop p c) k) (at O (O.zero ∷ drop p c) k))) ≡ fold_at O p (at O c) k
      go zero h = rw (get_or-take, get_or-drop, add-zero, R.plus_normal, ← R.plus_assoc, plus_zero R, R.plus_normal)
      go (suc k) h = rw (get_or-take, get_or-drop, get_or-drop, R.plus_normal)

  -- a longer list of the product's coefficients ends in zeros, which the fold does not see
  pub fold_convolution : (a b : List C) (n : ℕ) → length a ≡ p → length b ≡ p → p + p ≤ n + 1 → fold O p (convolution O n a b) ≡ product O p a b
  unfolding fold
  fold_convolution a b n ha hb hn =
      let m : ℕ = p + p - 1 in
      let long : length (convolution O m a b) ≡ m = length_tabulate _ _ in
      let same : at O (convolution O n a b) ≡ at O (convolution O m a b) =
      fun_ext (λ k. at_convolution R a b n (omega arith) k ∙ sym (at_convolution R a b m (omega arith) k)) in
      ap (λ f. tabulate p (fold_at O p f)) same
      ∙ sym (fold_value _ (omega arith) (omega arith)) ∙ value_convolution a b m (omega arith) (omega arith) ∙ sym (product_through O p a b ha)
