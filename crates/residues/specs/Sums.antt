-- Sums of products of rows and pairs, as the kernel of `wide` forms them, in the natural numbers.
-- Main definitions: `AllZero`, `AtMost`, `IsGroup`, `pair_sum`, `nat_coef`, `Spread`.
use Rattle.std.specs.Prelude.{◌≡◌, ℕ, zero, suc, ◌+◌, ◌-◌, ◌*◌, ◌%◌, ◌<◌, ◌≤◌, List, [], ◌∷◌, length, slice_index}
use Rattle.field.specs.Meaning.{code}

-- each number of a list is 0
abbrev pub AllZero : List ℕ → Type 0
AllZero xs = (k : ℕ) → slice_index xs k ≡ 0

-- each number of a list is at most m
abbrev pub AtMost : ℕ → List ℕ → Type 0
AtMost m xs = (k : ℕ) → slice_index xs k ≤ m

-- a group of rows, of which no sum leaves 32 bits
pub record IsGroup (rows : List ℕ) : Type 0 where
  pub few : length rows ≤ 192
  pub even : length rows % 2 ≡ 0
  pub small : AtMost 4590 rows

-- the rows two by two, the first two times the pair t of bs, the next two times the pair t - 2, and so on down
abbrev pub pair_sum : List ℕ → List ℕ → ℕ → ℕ
pair_sum [] bs t = 0
pair_sum (x ∷ []) bs t = 0
pair_sum (x ∷ y ∷ xs) bs t = (slice_index bs (2 * t) * x + slice_index bs (2 * t + 1) * y) + pair_sum xs bs (t - 2)

-- coefficient k of the product of the codes of two lists, not reduced
abbrev pub nat_coef : ℕ → List ℕ → List ℕ → ℕ → ℕ
nat_coef q [] ys k = 0
nat_coef q (x ∷ xs) ys zero = code q x * code q (slice_index ys 0)
nat_coef q (x ∷ xs) ys (suc k) = code q x * code q (slice_index ys (suc k)) + nat_coef q xs ys k

-- bs has each code of ys twice, first in the pair 190 on from its place, and second in the pair after that
pub record Spread (q : ℕ) (ys bs : List ℕ) : Type 0 where
  pub first : (j : ℕ) → slice_index bs (2 * (190 + j)) ≡ code q (slice_index ys j)
  pub second : (j : ℕ) → slice_index bs (2 * (191 + j) + 1) ≡ code q (slice_index ys j)
  pub low_first : (t : ℕ) → t < 190 → slice_index bs (2 * t) ≡ 0
  pub low_second : (t : ℕ) → t < 191 → slice_index bs (2 * t + 1) ≡ 0
