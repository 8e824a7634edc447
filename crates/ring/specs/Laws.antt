-- The laws of polynomials modulo x^p - x - 1 over a field's codes. None of them speaks of reciprocals of codes.
-- Main definitions: `Polynomial`, `Invertible`; `RingLaws`, `UnitLaws`.
use Rattle.std.specs.Prelude.{◌≡◌, ℕ, ◌<◌, ◌≢◌, List, length, slice_index}
use Rattle.field.specs.Meaning.{Arithmetic, Code, coded}
use Rattle.ring.specs.Polynomials.{zeros, unit, sum, difference, product}

module _ (A : Arithmetic) (p : ℕ) where
  -- a polynomial is p codes, the constant first
  pub record Polynomial (a : List ℕ) : Type 0 where
    pub long : length a ≡ p
    pub codes : (k : ℕ) → k < p → Code A (slice_index a k)

  -- b is an inverse of a
  abbrev pub Inverse : List ℕ → List ℕ → Type 0
  Inverse a b = product (coded A) p a b ≡ unit (coded A) p

  -- a has an inverse
  pub record Invertible (a : List ℕ) : Type 0 where
    pub inverse : List ℕ
    pub polynomial : Polynomial inverse
    pub inverts : Inverse a inverse

-- what holds of every polynomial, of every two and of every three
module _ (A : Arithmetic) (p : ℕ) where
  abbrev pub Each : (List ℕ → Type 0) → Type 0
  Each P = (a : List ℕ) → Polynomial A p a → P a

  abbrev pub Each2 : (List ℕ → List ℕ → Type 0) → Type 0
  Each2 P = Each (λ a. Each (P a))

  abbrev pub Each3 : (List ℕ → List ℕ → List ℕ → Type 0) → Type 0
  Each3 P = Each (λ a. Each2 (P a))

  -- sums, differences and products of polynomials are polynomials, and they keep the laws of a commutative ring
  pub record RingLaws : Type 0 where
    pub zero_polynomial : Polynomial A p (zeros (coded A) p)
    pub one_polynomial : Polynomial A p (unit (coded A) p)
    pub sum_polynomial : Each2 (λ a b. Polynomial A p (sum (coded A) p a b))
    pub difference_polynomial : Each2 (λ a b. Polynomial A p (difference (coded A) p a b))
    pub product_polynomial : Each2 (λ a b. Polynomial A p (product (coded A) p a b))
    pub sum_comm : Each2 (λ a b. sum (coded A) p a b ≡ sum (coded A) p b a)
    pub sum_assoc : Each3 (λ a b c. sum (coded A) p (sum (coded A) p a b) c ≡ sum (coded A) p a (sum (coded A) p b c))
    pub sum_zero : Each (λ a. sum (coded A) p a (zeros (coded A) p) ≡ a)
    pub difference_sum : Each2 (λ a b. sum (coded A) p (difference (coded A) p a b) b ≡ a)
    pub product_comm : Each2 (λ a b. product (coded A) p a b ≡ product (coded A) p b a)
    pub product_assoc : Each3 (λ a b c. product (coded A) p (product (coded A) p a b) c ≡ product (coded A) p a (product (coded A) p b c))
    pub product_one : Each (λ a. product (coded A) p a (unit (coded A) p) ≡ a)
    pub product_sum : Each3 (λ a b c. product (coded A) p a (sum (coded A) p b c) ≡ sum (coded A) p (product (coded A) p a b) (product (coded A) p a c))

  pub record UnitLaws : Type 0 where
    -- there is at most one inverse
    pub unique : Each3 (λ a b c. Inverse A p a b → Inverse A p a c → b ≡ c)
    -- a product has an inverse exactly when both factors have one
    pub factors : Each2 (λ a b. Invertible A p (product (coded A) p a b) → Invertible A p a × Invertible A p b)
    pub both : Each2 (λ a b. Invertible A p a → Invertible A p b → Invertible A p (product (coded A) p a b))
    -- a zero divisor has none
    pub divisor : Each2 (λ a z. z ≢ zeros (coded A) p → product (coded A) p a z ≡ zeros (coded A) p → Invertible A p a → ⊥)
