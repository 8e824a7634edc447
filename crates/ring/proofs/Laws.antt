-- The polynomials modulo x^p - x - 1 over a field's codes keep the laws of a commutative ring, and their inverses the laws of units.
-- Main results: `ring_laws`, `unit_laws`; `polynomial_normal` and `normal_polynomial`, that the polynomials are the normal lists.
use Rattle.std.proofs.Common.{ℕ, ◌≤◌, List, ◌∙◌}
use Rattle.field.specs.Rings.{CommutativeRing, Normal}
use Rattle.field.specs.Meaning.{Arithmetic, ArithmeticLaws, coded}
use Rattle.field.proofs.Codes.{coded_ring, code_normal, normal_code}
use Rattle.field.proofs.Sums.{zero_normal}
use Rattle.ring.specs.Polynomials.{product, polynomials}
use Rattle.ring.specs.Laws.{Polynomial, RingLaws, UnitLaws}
use Rattle.ring.proofs.Polynomials.{normal_from, normal_at, length_normal, ring}
use Rattle.ring.proofs.Units.{inverse_unique, zero_divisor, inverse_left, inverse_right, inverse_times}

module _ (A : Arithmetic) (laws : ArithmeticLaws A) (p : ℕ) where
  pub normal_polynomial : (a : List ℕ) → Normal (polynomials (coded A) p) a → Polynomial A p a
  unfolding coded
  normal_polynomial a e = record {
    long = length_normal (coded A) p a e;
    codes = λ k h. normal_code laws _ (normal_at (coded A) p a e k h);
  }

  pub polynomial_normal : (a : List ℕ) → Polynomial A p a → Normal (polynomials (coded A) p) a
  unfolding coded
  polynomial_normal a h = normal_from (coded A) p a h.long (λ k l. code_normal laws _ (h.codes k l))

module _ (A : Arithmetic) (laws : ArithmeticLaws A) (p : ℕ) (big : 2 ≤ p) where
  pub coded_polynomials : CommutativeRing (polynomials (coded A) p)
  coded_polynomials = ring (coded_ring laws) p big

  pub product_polynomial : (a b : List ℕ) → Polynomial A p (product (coded A) p a b)
  product_polynomial a b = normal_polynomial A laws p _ (coded_polynomials.times_normal a b)

  pub ring_laws : RingLaws A p
  ring_laws = record {
    zero_polynomial = normal_polynomial A laws p _ (zero_normal R);
    one_polynomial = normal_polynomial A laws p _ R.one_normal;
    sum_polynomial = λ a ha b hb. normal_polynomial A laws p _ (R.plus_normal a b);
    difference_polynomial = λ a ha b hb. normal_polynomial A laws p _ (R.minus_normal a b);
    product_polynomial = λ a ha b hb. product_polynomial a b;
    sum_comm = λ a ha b hb. R.plus_comm a b;
    sum_assoc = λ a ha b hb c hc. R.plus_assoc a b c;
    sum_zero = λ a ha. R.plus_comm a _ ∙ polynomial_normal A laws p a ha;
    difference_sum = λ a ha b hb. R.minus_plus a b ∙ polynomial_normal A laws p a ha;
    product_comm = λ a ha b hb. R.times_comm a b;
    product_assoc = λ a ha b hb c hc. R.times_assoc a b c;
    product_one = λ a ha. R.times_comm a _ ∙ R.one_times a ∙ polynomial_normal A laws p a ha;
    product_sum = λ a ha b hb c hc. R.times_plus a b c;
  }
    where
      R : CommutativeRing (polynomials (coded A) p)
      R = coded_polynomials

  pub unit_laws : UnitLaws A p
  unit_laws = record {
    unique = λ a ha b hb c hc. inverse_unique R a b c (polynomial_normal A laws p b hb) (polynomial_normal A laws p c hc);
    factors = λ a ha b hb i. (
      record { inverse = product (coded A) p b i.inverse; polynomial = product_polynomial b _; inverts = inverse_left R a b _ i.inverts },
      record { inverse = product (coded A) p a i.inverse; polynomial = product_polynomial a _; inverts = inverse_right R a b _ i.inverts },
    );
    both = λ a ha b hb i j. record {
      inverse = product (coded A) p i.inverse j.inverse;
      polynomial = product_polynomial _ _;
      inverts = inverse_times R a b _ _ i.inverts j.inverts;
    };
    divisor = λ a ha z hz other none i. other (zero_divisor R a i.inverse z (polynomial_normal A laws p z hz) none i.inverts);
  }
    where
      R : CommutativeRing (polynomials (coded A) p)
      R = coded_polynomials
