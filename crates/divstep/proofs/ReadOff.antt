-- The inverse of a polynomial modulo x^p - x - 1 over a field's codes is read off 2p - 1 division steps.
-- Main results: `inverse_read_off`.
use Rattle.std.proofs.Common.{◌≡◌, ℕ, zero, suc, ◌+◌, ◌-◌, ◌<◌, ◌≤◌, true, false, cond, ◌≢◌, List, [], ◌∷◌, ◌++◌, reverse, length, ℤ, pos, negsuc, Some, None, Option, sym, refl, ap, ◌∙◌, subst, ap₂, arith, length-append}
use mathlib.Core.Path.{fun_ext}
use lib.IntN.{ℤ_discrete}
use borrow.Author.Differences.{ints}
use Rattle.std.proofs.lemmas.List.{length-reverse}
use Rattle.field.specs.Rings.{CommutativeRing, Normal}
use Rattle.field.specs.Meaning.{Arithmetic, Code, ArithmeticLaws, IsReciprocal, ReciprocalLaws, coded}
use Rattle.field.specs.Convolution.{tabulate, at}
use Rattle.field.proofs.Tables.{padded}
use Rattle.field.proofs.Codes.{coded_ring, coded_times, code_normal, normal_code}
use Rattle.ring.specs.Polynomials.{unit, scaled, product}
use Rattle.ring.specs.Laws.{Polynomial, Inverse, Invertible}
use Rattle.ring.proofs.Laws.{normal_polynomial, unit_laws}
use Rattle.ring.proofs.Polynomials.{normal_tabulate, scaled_tabulate, space_laws, product_comm, product_linear, ring}
use Rattle.ring.proofs.Units.{zero_divisor}
use Rattle.divstep.specs.Steps.{not_zero}
use Rattle.divstep.specs.ReadOff.{is_zero, reversed_modulus, divided, read_off, inverse_of, Answers, Inverts}
use Rattle.divstep.proofs.Runs.{run, Normals}
use Rattle.divstep.proofs.Lists.{look, looks, normals_from}
use Rattle.divstep.proofs.Reciprocal.{modulus, length_modulus}
use Rattle.divstep.proofs.Degrees.{Domain}
use Rattle.divstep.proofs.Ends.{last, Found, ends_found, ends_divisor}

not_zero_false : (a : ℕ) → not_zero a ≡ false → a ≡ 0
not_zero_false zero h = refl
not_zero_false (suc a) h = absurd cc

not_zero_true : (a : ℕ) → not_zero a ≡ true → a ≢ 0
not_zero_true zero h e = cc
not_zero_true (suc a) h e = omega arith

module _ (A : Arithmetic) (laws : ArithmeticLaws A) (recip : ℕ → Option ℕ) (reciprocals : ReciprocalLaws A recip) where
  R : CommutativeRing (coded A)
  R = coded_ring laws

  reciprocal_is : (a : ℕ) (o : Option ℕ) → Code A a → IsReciprocal A a o → (c : ℕ) × (o ≡ Some c) × ((coded A).times a c ≡ 1)
  reciprocal_is a None h i = absurd i
  reciprocal_is a (Some c) h i = (c, refl, coded_times laws a c h i.0 ∙ i.1)

  -- the reciprocal of a code that is not zero
  found_reciprocal : (a : ℕ) → Normal (coded A) a → a ≢ 0 → (c : ℕ) × (recip a ≡ Some c) × ((coded A).times a c ≡ 1)
  found_reciprocal a n h = let k = normal_code laws a n in reciprocal_is a (recip a) k (reciprocals.of_others a k h)

  domain : Domain (coded A) not_zero
  unfolding coded
  domain = record {
    distinct = λ e. omega arith;
    is_zero_lem = not_zero_false;
    is_other = not_zero_true;
    products = λ a b na nb ha hb z. hb (zero_divisor R a (found_reciprocal a na ha).0 b nb z (found_reciprocal a na ha).2);
  }

  module _ (p : ℕ) (big : 2 ≤ p) (a : List ℕ) (given : Polynomial A p a) where
    -- the steps on lists end where those on series do
    modulus_is : reversed_modulus A p ≡ modulus (coded A) p
    unfolding modulus coded
    modulus_is = refl

    look_end : look (coded A) (divided A p a) ≡ last (coded A) p a not_zero
    unfolding divided last coded
    look_end =
        let m = length_modulus (coded A) p big in
        looks R not_zero (p + p - 1) (p + p - 1) (pos 1) (reversed_modulus A p) (reverse a ++ 0 ∷ [])
        (ap length modulus_is ∙ m ∙ sym (length-append (reverse a) (0 ∷ []) ∙ ap (λ n. n + 1) (length-reverse a ∙ given.long))) (omega arith)
        ∙ ap₂ (λ f g. run (coded A) not_zero (p + p - 1) (pos 1) f g) (ap (at (coded A)) modulus_is) (fun_ext (padded (reverse a) 0))

    normals : Normals (coded A) (at (coded A) a)
    unfolding coded
    normals = normals_from R a (λ k l. code_normal laws _ (given.codes k (subst (λ n. k < n) given.long l)))

    found_end : (divided A p a).δ ≡ pos 0 → Found (coded A) p a (look (coded A) (divided A p a))
    found_end e = subst (Found (coded A) p a) (sym look_end) (ends_found R not_zero domain p big a given.long normals (sym (ap (λ s. s.δ) look_end) ∙ e))

    -- an inverse leaves δ no other end
    ends : Invertible A p a → (divided A p a).δ ≡ pos 0
    ends i = elim (ℤ_discrete (divided A p a).δ (pos 0)) [
      | yes h ↦ h
      | no h ↦ absurd (
          let z = ends_divisor R not_zero domain p big a given.long normals (divided A p a).δ (sym (ap (λ s. s.δ) look_end)) h in
          (unit_laws A laws p big).divisor a given z.factor (normal_polynomial A laws p _ z.normal) z.other z.divides i
          )
    ]

    -- what is read off, where c is the reciprocal of the constant of f
    module _ (c : ℕ) where
      read : List ℕ
      read = tabulate p (λ k. (coded A).times (at (coded A) (divided A p a).v (p - k)) c)

      read_polynomial : Polynomial A p read
      unfolding read
      read_polynomial = normal_polynomial A laws p _ (normal_tabulate (coded A) p _ (λ k. R.times_normal _ _))

      read_inverse : Found (coded A) p a (look (coded A) (divided A p a)) → (coded A).times (at (coded A) (divided A p a).f 0) c ≡ (coded A).one → Inverse A p a read
      unfolding read
      read_inverse o e =
          let S = space_laws R p in
          let v : ℕ → ℕ = λ k. at (coded A) (divided A p a).v (p - k) in
          ap (product (coded A) p a) (ap (tabulate p) (fun_ext (λ k. R.times_comm _ c)) ∙ sym (scaled_tabulate (coded A) p c v)) ∙ (product_linear R p big a).scales c _
          ∙ ap (scaled (coded A) p c) (product_comm R p big a _ ∙ o.inverts) ∙ sym (S.scale_times c _ _) ∙ ap (λ x. scaled (coded A) p x (unit (coded A) p)) (R.times_comm c _ ∙ e)
          ∙ S.scale_one _ ∙ (ring R p big).one_normal

    -- where δ is 0, the constant of f has a reciprocal
    record Read : Type 0 where
      pub c : ℕ
      pub is_reciprocal : recip (at (coded A) (divided A p a).f 0) ≡ Some c
      pub inverse : Inverse A p a (read c)

    reads : (divided A p a).δ ≡ pos 0 → Read
    unfolding coded
    reads e =
        let o = found_end e in
        let r = found_reciprocal _ o.normal o.other in
        record { c = r.0; is_reciprocal = r.1; inverse = read_inverse r.0 o r.2 }

    answered : (d : ℤ) → (divided A p a).δ ≡ d → Answers A p a (cond (is_zero d) (read_off A p (recip (at (coded A) (divided A p a).f 0)) (divided A p a).v) None)
    unfolding read
    answered (pos zero) e = let r = reads e in subst (λ o. Answers A p a (read_off A p o (divided A p a).v)) (sym r.is_reciprocal) (read_polynomial r.c, r.inverse)
    answered (pos (suc n)) e = λ i. let k : (divided A p a).δ ≡ pos 0 = ends i in omega (arith, ints)
    answered (negsuc n) e = λ i. let k : (divided A p a).δ ≡ pos 0 = ends i in omega (arith, ints)

    inverts : Inverts A p recip a
    unfolding inverse_of coded
    inverts = record {
      ends = ends;
      exists = λ e. record { inverse = read (reads e).c; polynomial = read_polynomial (reads e).c; inverts = (reads e).inverse };
      constant = λ e. (found_end e).constant;
      constant_code = λ e. normal_code laws _ (found_end e).normal;
      constant_other = λ e. (found_end e).other;
      answers = answered (divided A p a).δ refl;
    }

pub inverse_read_off : (A : Arithmetic) → ArithmeticLaws A → (recip : ℕ → Option ℕ) → ReciprocalLaws A recip → (p : ℕ) → 2 ≤ p → (a : List ℕ) → Polynomial A p a → Inverts A p recip a
inverse_read_off = inverts
