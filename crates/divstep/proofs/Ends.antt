-- The end of 2p - 1 division steps from δ = 1, 1 - x^(p-1) - x^p and the reverse of a, over coefficients without zero divisors.
-- Main definitions: `last`; `Found` and `Divisor`.
-- Main results: `ends_found`, that v reversed is a multiple of the inverse of a where δ ends at 0;
-- `ends_divisor`, that a divides zero where it does not.
use Rattle.std.proofs.Common.{◌≡◌, ℕ, zero, suc, ◌+◌, ◌-◌, ◌≤◌, Bool, ◌≢◌, List, [], ◌∷◌, ◌++◌, reverse, length, replicate, ℤ, pos, negsuc, sym, refl, ap, ◌∙◌, subst, arith}
use borrow.Author.Differences.{ints}
use Rattle.std.proofs.lemmas.List.{get_or_past, get_or-reverse, length-reverse}
use Rattle.field.specs.Rings.{Operations, CommutativeRing, Normal}
use Rattle.field.specs.Convolution.{tabulate, at}
use Rattle.field.proofs.Sums.{zero_normal}
use Rattle.field.proofs.Tables.{get_d_tabulate}
use Rattle.ring.specs.Polynomials.{zeros, unit, scaled, product, polynomials}
use Rattle.ring.proofs.Polynomials.{normal_tabulate, product_comm}
use Rattle.divstep.specs.Steps.{State}
use Rattle.divstep.proofs.Runs.{run, Normals, NormalState, run_normal}
use Rattle.divstep.proofs.Lists.{normals_from}
use Rattle.divstep.proofs.Reciprocal.{modulus, length_modulus, kept, found, lost}
use Rattle.divstep.proofs.Degrees.{Domain, Degrees, Alive, run_degrees, run_alive}

-- lists in normal form
module _ {C : Type 0} {O : Operations C} (R : CommutativeRing O) where
  normals_cons : (x : C) (a : List C) → Normal O x → Normals O (at O a) → Normals O (at O (x ∷ a))
  normals_cons x a hx ha zero = hx
  normals_cons x a hx ha (suc k) = ha k

  normals_zeros : (n : ℕ) (a : List C) → Normals O (at O a) → Normals O (at O (replicate n O.zero ++ a))
  normals_zeros zero a h = h
  normals_zeros (suc n) a h = normals_cons O.zero (replicate n O.zero ++ a) (zero_normal R) (normals_zeros n a h)

  normals_modulus : (p : ℕ) → Normals O (at O (modulus O p))
  unfolding modulus
  normals_modulus p =
      let m = O.minus O.zero O.one in
      let n = R.minus_normal O.zero O.one in
      normals_cons O.one _ R.one_normal (normals_zeros (p - 2) (m ∷ m ∷ []) (normals_cons m (m ∷ []) n (normals_cons m [] n (λ k. zero_normal R))))

  normals_reverse : (a : List C) → Normals O (at O a) → Normals O (at O (reverse a))
  normals_reverse a h =
      let n = length-reverse a in
      normals_from R (reverse a) (λ k l. subst (Normal O) (sym (get_or-reverse a k O.zero (omega arith))) (h _))

module _ {C : Type 0} (O : Operations C) (p : ℕ) (a : List C) where
  -- where 2p - 1 steps end
  unfoldable pub last : (C → Bool) → State (ℕ → C)
  last nonzero = run O nonzero (p + p - 1) (pos 1) (at O (modulus O p)) (at O (reverse a))

  -- f is a constant c that is not zero, and v reversed times a is c
  pub record Found (s : State (ℕ → C)) : Type 0 where
    pub constant : (k : ℕ) → s.f (suc k) ≡ O.zero
    pub other : s.f 0 ≢ O.zero
    pub normal : Normal O (s.f 0)
    pub inverts : product O p (tabulate p (λ k. s.v (p - k))) a ≡ scaled O p (s.f 0) (unit O p)

  -- a product of a and what is not zero is zero
  pub record Divisor : Type 0 where
    pub factor : List C
    pub other : factor ≢ zeros O p
    pub normal : Normal (polynomials O p) factor
    pub divides : product O p a factor ≡ zeros O p

module _ {C : Type 0} {O : Operations C} (R : CommutativeRing O) (nonzero : C → Bool) (D : Domain O nonzero) (p : ℕ) (big : 2 ≤ p) (a : List C) (long : length a ≡ p) (given : Normals O (at O a)) where
  normal_last : NormalState O (last O p a nonzero)
  unfolding last
  normal_last = run_normal R nonzero (p + p - 1) (pos 1) _ _ (normals_modulus R p) (normals_reverse R a given)

  degrees : Degrees O p (p + p - 1) (last O p a nonzero)
  unfolding last
  degrees =
      run_degrees R nonzero D p big _ _ (λ k l. get_or_past (modulus O p) k O.zero (omega (arith, length_modulus O p big))) (λ k l. get_or_past (reverse a) k O.zero (omega (arith, length-reverse a))) (p + p - 1)

  alive : Alive O (last O p a nonzero)
  unfolding last modulus
  alive = run_alive R nonzero D p big _ _ refl (normals_modulus R p) (normals_reverse R a given) (p + p - 1)

  pub ends_found : (last O p a nonzero).δ ≡ pos 0 → Found O p a (last O p a nonzero)
  unfolding last
  ends_found e =
      let constant : (k : ℕ) → (last O p a nonzero).f (suc k) ≡ O.zero = λ k. degrees.of_f (suc k) (omega (arith, ints)) in
      record {
        constant = constant;
        other = alive.of_f;
        normal = normal_last.of_f 0;
        inverts = found R p big a long _ (kept R p big a long nonzero (p + p - 1) (omega arith)) constant alive.of_v (λ k l. degrees.of_v k (omega (arith, ints)));
      }

  pub ends_divisor : (d : ℤ) → (last O p a nonzero).δ ≡ d → d ≢ pos 0 → Divisor O p a
  unfolding last zeros
  ends_divisor (pos zero) e h = absurd (h refl)
  ends_divisor (negsuc m) e h = absurd (alive.of_f (degrees.of_f 0 (omega (arith, ints))))
  ends_divisor (pos (suc m)) e h =
      record {
        factor = tabulate p (λ k. (last O p a nonzero).r (p - 1 - k));
        other = λ z. alive.of_r (ap (last O p a nonzero).r top ∙ sym (get_d_tabulate p (λ k. (last O p a nonzero).r (p - 1 - k)) O.zero (p - 1) (omega arith))
            ∙ ap (λ l. at O l (p - 1)) z ∙ get_d_tabulate p (λ k. O.zero) O.zero (p - 1) (omega arith));
        normal = normal_tabulate O p _ (λ k. normal_last.of_r _);
        divides =
            product_comm R p big a _
            ∙ lost R p big a long _ (kept R p big a long nonzero (p + p - 1) (omega arith)) (λ k. degrees.of_g k (omega (arith, ints))) (λ k l. degrees.of_r k (omega (arith, ints)));
      }
    where
      top : 0 ≡ p - 1 - (p - 1)
      top = omega arith
