-- Polynomials modulo x^p - x - 1 over any ring of coefficients, as lists of p coefficients with the constant first.
-- Main definitions: `times_x` (x^p = x + 1), `sum`, `product`, `value` (what a list of any length is), `fold`, `polynomials`.
use Rattle.std.specs.Prelude.{ℕ, zero, suc, ◌+◌, ◌-◌, List, [], ◌∷◌}
use Rattle.field.specs.Rings.{Operations}
use Rattle.field.specs.Convolution.{tabulate, at}

-- what can be added up and multiplied by coefficients
pub record Space (C V : Type 0) : Type 0 where
  pub none : V
  pub add : V → V → V
  pub scale : C → V → V

-- what the list cs, as a polynomial in the operator X, makes of v, by Horner's rule: c_0·v + X (c_1·v + X (c_2·v + ..))
unfoldable pub horner : {C V : Type 0} → Space C V → (V → V) → List C → V → V
horner S X [] v = S.none
horner S X (c ∷ cs) v = S.add (S.scale c v) (X (horner S X cs v))

-- X applied n times
unfoldable pub power : {V : Type 0} → (V → V) → ℕ → V → V
power X zero v = v
power X (suc n) v = X (power X n v)

-- coefficient k, where f gives the coefficients
module _ {C : Type 0} (O : Operations C) where
  -- of the polynomial 1
  abbrev pub unit_at : ℕ → C
  unit_at zero = O.one
  unit_at (suc k) = O.zero

  -- of x·f, where x^p = x + 1: the last coefficient comes back at 0 and at 1
  abbrev pub times_x_at : ℕ → (ℕ → C) → ℕ → C
  times_x_at p f zero = f (p - 1)
  times_x_at p f (suc zero) = O.plus (f 0) (f (p - 1))
  times_x_at p f (suc (suc k)) = f (suc k)

  -- of what 2p - 1 coefficients are modulo x^p - x - 1: coefficient p + k comes back at k and at k + 1
  abbrev pub fold_at : ℕ → (ℕ → C) → ℕ → C
  fold_at p f zero = O.plus (f 0) (f p)
  fold_at p f (suc k) = O.plus (f (suc k)) (O.plus (f (p + suc k)) (f (p + k)))

module _ {C : Type 0} (O : Operations C) (p : ℕ) where
  -- the first p coefficients of a list, where a missing one is zero
  unfoldable pub truncated : List C → List C
  truncated a = tabulate p (at O a)

  unfoldable pub zeros : List C
  zeros = tabulate p (λ k. O.zero)

  unfoldable pub unit : List C
  unit = tabulate p (unit_at O)

  unfoldable pub sum : List C → List C → List C
  sum a b = tabulate p (λ k. O.plus (at O a k) (at O b k))

  unfoldable pub difference : List C → List C → List C
  difference a b = tabulate p (λ k. O.minus (at O a k) (at O b k))

  unfoldable pub scaled : C → List C → List C
  scaled c a = tabulate p (λ k. O.times c (at O a k))

  unfoldable pub times_x : List C → List C
  times_x a = tabulate p (times_x_at O p (at O a))

  unfoldable pub fold : List C → List C
  fold c = tabulate p (fold_at O p (at O c))

  abbrev pub space : Space C (List C)
  space = record { none = zeros; add = sum; scale = scaled }

  -- the list c of any length, as a polynomial in x, times b
  abbrev pub through : List C → List C → List C
  through = horner space times_x

  -- a·b = a_0·b + x·(a_1·b + x·(a_2·b + ..))
  unfoldable pub product : List C → List C → List C
  product a b = through (truncated a) b

  -- what a list of any length is modulo x^p - x - 1
  abbrev pub value : List C → List C
  value c = through c unit

  -- the polynomials as a ring, on all lists: a list is read as its first p coefficients
  abbrev pub polynomials : Operations (List C)
  polynomials = record { zero = zeros; one = unit; plus = sum; minus = difference; times = product }
