-- Products of lists of coefficients, the constant first, and the row operation of a division step.
-- Main definitions: `coefficient`, `added`, `convolution`, `mixed`.
use Rattle.std.specs.Prelude.{ℕ, zero, suc, ◌-◌, List, map, length, slice_index_or}
use Rattle.std.specs.List.{range_with_len}
use Rattle.field.specs.Rings.{Operations}

-- the list f 0, f 1, .., f (n - 1)
unfoldable pub tabulate : {C : Type 0} → ℕ → (ℕ → C) → List C
tabulate n f = map f (range_with_len 0 n)

module _ {C : Type 0} (O : Operations C) where
  -- coefficient k of a list, which past the end is zero
  abbrev pub at : List C → ℕ → C
  at a k = slice_index_or a k O.zero

  -- t 0 + t 1 + .. + t (n - 1)
  unfoldable pub sum_below : ℕ → (ℕ → C) → C
  sum_below zero t = O.zero
  sum_below (suc n) t = O.plus (sum_below n t) (t n)

  -- coefficient k of the product of a and b: the sum of a_i·b_(k - i) for i from 0 to k
  unfoldable pub coefficient : List C → List C → ℕ → C
  coefficient a b k = sum_below (suc k) (λ i. O.times (at a i) (at b (k - i)))

  -- the first n coefficients of the sum of a and b
  abbrev pub added : ℕ → List C → List C → List C
  added n a b = tabulate n (λ k. O.plus (at a k) (at b k))

  -- the first n coefficients of the product of a and b
  abbrev pub convolution : ℕ → List C → List C → List C
  convolution n a b = tabulate n (coefficient a b)

  -- c·a - d·b, as long as a
  abbrev pub mixed : C → List C → C → List C → List C
  mixed c a d b = tabulate (length a) (λ k. O.minus (O.times c (at a k)) (O.times d (at b k)))
