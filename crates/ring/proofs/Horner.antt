-- Polynomials in a linear operator X, by Horner's rule, over any commutative ring.
-- Main results: `horner_commute` and `horner_swap`, that they commute with what X commutes with, and with each other;
-- `horner_coefficients`, that the coefficients of a product make the one polynomial after the other;
-- `horner_append`, `horner_shift` and `horner_power` on lists one behind the other and on powers of X.
use Rattle.std.proofs.Common.{◌≡◌, ℕ, zero, suc, ◌+◌, ◌≤◌, List, [], ◌∷◌, ◌++◌, length, replicate, sym, refl, ap, ◌∙◌, ap₂, suc-add, zero-add, arith}
use mathlib.Core.Path.{fun_ext}
use Rattle.field.specs.Rings.{Operations, CommutativeRing}
use Rattle.field.specs.Convolution.{tabulate, at, coefficient}
use Rattle.field.proofs.Tables.{tabulate_more, tabulate_none}
use Rattle.field.proofs.Sums.{coefficient_none, coefficient_first, coefficient_more}
use Rattle.ring.specs.Polynomials.{Space, horner, power}

-- T commutes with sums and with coefficients
pub record Linear {C V : Type 0} (S : Space C V) (T : V → V) : Type 0 where
  pub adds : (u v : V) → T (S.add u v) ≡ S.add (T u) (T v)
  pub scales : (c : C) (v : V) → T (S.scale c v) ≡ S.scale c (T v)

-- the laws of a space over the ring R, where `add none v` is the normal form of v
pub record SpaceLaws {C V : Type 0} {O : Operations C} (R : CommutativeRing O) (S : Space C V) : Type 0 where
  pub add_comm : (u v : V) → S.add u v ≡ S.add v u
  pub add_assoc : (u v w : V) → S.add (S.add u v) w ≡ S.add u (S.add v w)
  pub scale_add : (c : C) (u v : V) → S.scale c (S.add u v) ≡ S.add (S.scale c u) (S.scale c v)
  pub scale_plus : (c d : C) (v : V) → S.scale (O.plus c d) v ≡ S.add (S.scale c v) (S.scale d v)
  pub scale_times : (c d : C) (v : V) → S.scale (O.times c d) v ≡ S.scale c (S.scale d v)
  pub scale_zero : (v : V) → S.scale O.zero v ≡ S.none
  pub scale_one : (v : V) → S.scale O.one v ≡ S.add S.none v
  pub scale_normal : (c : C) (v : V) → S.add S.none (S.scale c v) ≡ S.scale c v

module _ {C V : Type 0} {O : Operations C} {R : CommutativeRing O} {S : Space C V} (L : SpaceLaws R S) where
  pub add_left : (u v w : V) → S.add u (S.add v w) ≡ S.add v (S.add u w)
  add_left u v w = simp (← L.add_assoc, L.add_comm u v)

  pub add_swap : (u v w : V) → S.add (S.add u v) w ≡ S.add (S.add u w) v
  add_swap u v w = simp (L.add_assoc, L.add_comm v w)

  pub add_four : (a b c d : V) → S.add (S.add a b) (S.add c d) ≡ S.add (S.add a c) (S.add b d)
  add_four a b c d = simp (L.add_assoc, add_left)

  pub scale_swap : (c d : C) (v : V) → S.scale c (S.scale d v) ≡ S.scale d (S.scale c v)
  scale_swap c d v = simp (← L.scale_times, R.times_comm c d)

  pub scale_none : (c : C) → S.scale c S.none ≡ S.none
  scale_none c = ap (S.scale c) (sym (L.scale_zero S.none)) ∙ scale_swap c O.zero S.none ∙ L.scale_zero _

  pub none_none : S.add S.none S.none ≡ S.none
  none_none = simp L.scale_zero at (L.scale_normal O.zero S.none)

  pub none_twice : (v : V) → S.add S.none (S.add S.none v) ≡ S.add S.none v
  none_twice v = simp (← L.add_assoc, none_none)

  pub keeps_none : {T : V → V} → Linear S T → T S.none ≡ S.none
  keeps_none {T} t = ap T (sym (L.scale_zero S.none)) ∙ t.scales O.zero S.none ∙ L.scale_zero (T S.none)

  pub keeps_normal : {T : V → V} → Linear S T → (v : V) → S.add S.none v ≡ v → S.add S.none (T v) ≡ T v
  keeps_normal {T} t v w = ap₂ S.add (sym (keeps_none t)) refl ∙ sym (t.adds S.none v) ∙ ap T w

  module _ {X : V → V} (lin : Linear S X) where
    -- a linear operator that commutes with X commutes with a polynomial in X
    pub horner_commute : {T : V → V} → Linear S T → ((v : V) → T (X v) ≡ X (T v)) → (cs : List C) (v : V) → T (horner S X cs v) ≡ horner S X cs (T v)
    unfolding horner
    horner_commute t tx [] v = keeps_none t
    horner_commute t tx (c ∷ cs) v = simp (t.adds, t.scales, tx, horner_commute t tx cs v)

    horner_adds : (cs : List C) (u v : V) → horner S X cs (S.add u v) ≡ S.add (horner S X cs u) (horner S X cs v)
    unfolding horner
    horner_adds [] u v = sym none_none
    horner_adds (c ∷ cs) u v = ap₂ S.add (L.scale_add c u v) (ap X (horner_adds cs u v) ∙ lin.adds _ _) ∙ add_four _ _ _ _

    pub horner_linear : (cs : List C) → Linear S (horner S X cs)
    horner_linear cs = record {
      adds = horner_adds cs;
      scales = λ c v. sym (horner_commute (record { adds = L.scale_add c; scales = scale_swap c }) (λ u. sym (lin.scales c u)) cs v);
    }

    pub horner_x : (cs : List C) (v : V) → horner S X cs (X v) ≡ X (horner S X cs v)
    horner_x cs v = sym (horner_commute lin (λ u. refl) cs v)

    pub horner_swap : (a b : List C) (v : V) → horner S X a (horner S X b v) ≡ horner S X b (horner S X a v)
    horner_swap a b v = horner_commute (horner_linear a) (horner_x a) b v

    -- what comes out is in normal form, and only the normal form of what goes in counts
    pub horner_normal : (cs : List C) (v : V) → S.add S.none (horner S X cs v) ≡ horner S X cs v
    unfolding horner
    horner_normal [] v = none_none
    horner_normal (c ∷ cs) v = simp (← L.add_assoc, L.scale_normal)

    pub horner_of_normal : (cs : List C) (v : V) → horner S X cs (S.add S.none v) ≡ horner S X cs v
    horner_of_normal cs v = simp (horner_adds cs, keeps_none (horner_linear cs), horner_normal)

    -- zero in front
    pub horner_zero : (cs : List C) (v : V) → horner S X (O.zero ∷ cs) v ≡ X (horner S X cs v)
    unfolding horner
    horner_zero cs v = ap₂ S.add (L.scale_zero v) (sym (horner_x cs v)) ∙ horner_normal cs (X v) ∙ horner_x cs v

    pub horner_shift : (n : ℕ) (cs : List C) (v : V) → horner S X (replicate n O.zero ++ cs) v ≡ power X n (horner S X cs v)
    unfolding power
    horner_shift zero cs v = refl
    horner_shift (suc n) cs v = horner_zero (replicate n O.zero ++ cs) v ∙ ap X (horner_shift n cs v)

    pub horner_zeros : (n : ℕ) (v : V) → horner S X (replicate n O.zero) v ≡ S.none
    unfolding horner
    horner_zeros zero v = refl
    horner_zeros (suc n) v = simp (horner_zeros n v, L.scale_zero, keeps_none lin, none_none)

    -- one list behind the other
    pub horner_append : (a b : List C) (v : V) → horner S X (a ++ b) v ≡ S.add (horner S X a v) (power X (length a) (horner S X b v))
    unfolding horner power
    horner_append [] b v = sym (horner_normal b v)
    horner_append (x ∷ a) b v = simp (horner_append a b v, lin.adds, L.add_assoc)

    -- powers of X
    pub power_linear : (n : ℕ) → Linear S (power X n)
    unfolding power
    power_linear zero = record { adds = λ u v. refl; scales = λ c v. refl }
    power_linear (suc n) =
        let l = power_linear n in
        record { adds = λ u v. ap X (l.adds u v) ∙ lin.adds _ _; scales = λ c v. ap X (l.scales c v) ∙ lin.scales c _ }

    pub power_power : (m n : ℕ) (v : V) → power X m (power X n v) ≡ power X (m + n) v
    unfolding power
    power_power zero n v = rw zero-add
    power_power (suc m) n v = rw suc-add (ap X (power_power m n v))

    pub power_commute : (T : V → V) → ((v : V) → T (X v) ≡ X (T v)) → (n : ℕ) (v : V) → T (power X n v) ≡ power X n (T v)
    unfolding power
    power_commute T tx zero v = refl
    power_commute T tx (suc n) v = tx _ ∙ ap X (power_commute T tx n v)

    pub power_x : (n : ℕ) (v : V) → power X n (X v) ≡ X (power X n v)
    power_x n v = sym (power_commute X (λ u. refl) n v)

    pub horner_power : (n : ℕ) (cs : List C) (v : V) → power X n (horner S X cs v) ≡ horner S X cs (power X n v)
    horner_power n = horner_commute (power_linear n) (power_x n)

    -- one coefficient, and one more at the end
    pub horner_one : (x : C) (v : V) → horner S X (x ∷ []) v ≡ S.scale x v
    unfolding horner
    horner_one x v = ap (S.add _) (keeps_none lin) ∙ L.add_comm _ _ ∙ L.scale_normal x v

    pub horner_push : (a : List C) (x : C) (v : V) → horner S X (a ++ x ∷ []) v ≡ S.add (horner S X a v) (S.scale x (power X (length a) v))
    horner_push a x v = horner_append a (x ∷ []) v ∙ ap (S.add _) (ap (power X (length a)) (horner_one x v) ∙ (power_linear (length a)).scales x v)

    -- the coefficients f 0, f 1, ..: the first by itself, sums, multiples, and zeros behind a list
    pub horner_tabulate : (n : ℕ) (f : ℕ → C) (v : V) → horner S X (tabulate (suc n) f) v ≡ S.add (S.scale (f 0) v) (X (horner S X (tabulate n (λ k. f (suc k))) v))
    unfolding horner
    horner_tabulate n f v = ap (λ l. horner S X l v) (tabulate_more n f)

    pub horner_plus : (n : ℕ) (f g : ℕ → C) (v : V) → horner S X (tabulate n (λ k. O.plus (f k) (g k))) v ≡ S.add (horner S X (tabulate n f) v) (horner S X (tabulate n g) v)
    unfolding horner tabulate
    horner_plus zero f g v = sym none_none
    horner_plus (suc n) f g v =
        horner_tabulate n _ v
        ∙ ap₂ S.add (L.scale_plus (f 0) (g 0) v) (ap X (horner_plus n _ _ v) ∙ lin.adds _ _)
        ∙ add_four _ _ _ _ ∙ sym (ap₂ S.add (horner_tabulate n f v) (horner_tabulate n g v))

    pub horner_times : (n : ℕ) (c : C) (f : ℕ → C) (v : V) → horner S X (tabulate n (λ k. O.times c (f k))) v ≡ S.scale c (horner S X (tabulate n f) v)
    unfolding horner tabulate
    horner_times zero c f v = sym (scale_none c)
    horner_times (suc n) c f v =
        horner_tabulate n _ v
        ∙ ap₂ S.add (L.scale_times c (f 0) v) (ap X (horner_times n c _ v) ∙ lin.scales c _)
        ∙ sym (ap (S.scale c) (horner_tabulate n f v) ∙ L.scale_add c _ _)

    pub horner_longer : (n : ℕ) (b : List C) (v : V) → length b ≤ n → horner S X (tabulate n (at O b)) v ≡ horner S X b v
    unfolding horner tabulate
    horner_longer zero [] v h = refl
    horner_longer zero (x ∷ b) v h = absurd (omega arith)
    horner_longer (suc n) [] v h = horner_tabulate n _ v ∙ ap₂ S.add (L.scale_zero v) (ap X (horner_longer n [] v (omega arith)) ∙ keeps_none lin) ∙ none_none
    horner_longer (suc n) (x ∷ b) v h = horner_tabulate n _ v ∙ ap (S.add _) (ap X (horner_longer n b v (omega arith)))

    -- a product of lists, all of whose coefficients are among the first n
    pub horner_coefficients : (a b : List C) (n : ℕ) (v : V) → length a + length b ≤ suc n → horner S X (tabulate n (coefficient O a b)) v ≡ horner S X a (horner S X b v)
    unfolding horner
    horner_coefficients [] b n v h = ap (λ f. horner S X (tabulate n f) v) (fun_ext (coefficient_none R b)) ∙ horner_longer n [] v (omega arith)
    horner_coefficients (x ∷ a) b zero v h =
        let none : horner S X b v ≡ S.none = sym (horner_longer 0 b v (omega arith)) ∙ ap (λ l. horner S X l v) (tabulate_none _) in
        ap (λ l. horner S X l v) (tabulate_none _) ∙ sym (ap (horner S X (x ∷ a)) none ∙ keeps_none (horner_linear (x ∷ a)))
    horner_coefficients (x ∷ a) b (suc n) v h =
        horner_tabulate n _ v
        ∙ ap₂ S.add (ap (λ c. S.scale c v) (coefficient_first R x a b)) (ap X later ∙ lin.adds _ _)
        ∙ sym (L.add_assoc _ _ _)
        ∙ ap₂ S.add (sym (horner_tabulate n _ v) ∙ first) (ap X (horner_coefficients a b n v (omega arith)))
      where
        -- x·b, and the coefficients after the first
        first : horner S X (tabulate (suc n) (λ k. O.times x (at O b k))) v ≡ S.scale x (horner S X b v)
        first = horner_times (suc n) x (at O b) v ∙ ap (S.scale x) (horner_longer (suc n) b v (omega arith))

        later : horner S X (tabulate n (λ k. coefficient O (x ∷ a) b (suc k))) v
            ≡ S.add (horner S X (tabulate n (λ k. O.times x (at O b (suc k)))) v) (horner S X (tabulate n (coefficient O a b)) v)
        later = ap (λ f. horner S X (tabulate n f) v) (fun_ext (coefficient_more R x a b)) ∙ horner_plus n _ _ v
