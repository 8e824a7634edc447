-- The sheet of a tray of degree p, cut into shelves of p numbers, three for each entry: entry i + 1 has shelf 3i for its numerator, shelf 3i + 1
-- for its denominator and shelf 3i + 2 for a product.
-- Main definitions: `most_entries`, `room`, `shelf`, `shelved`; `clear_sheet`, `put_sheet`, `zeroed`.
use Rattle.std.specs.Prelude.{ℕ, ◌+◌, ◌*◌, min, List, ◌++◌, length, take, drop, replicate}

-- how many entries a tray can be asked to hold
abbrev pub most_entries : ℕ
most_entries = 64

-- the sheet with these numbers at the place given
abbrev pub written : ℕ → List ℕ → List ℕ → List ℕ
written at these sheet = take at sheet ++ (these ++ drop (at + length these) sheet)

module _ (p : ℕ) where
  -- how many numbers of the sheet a tray uses
  abbrev pub room : ℕ → ℕ
  room capacity = 3 * p * capacity

  -- what is on shelf k, and the sheet with a polynomial put there
  unfoldable pub shelf : ℕ → List ℕ → List ℕ
  shelf k sheet = take p (drop (k * p) sheet)

  unfoldable pub shelved : ℕ → List ℕ → List ℕ → List ℕ
  shelved k = written (k * p)

  -- of entry i + 1
  abbrev pub numerator_at : ℕ → List ℕ → List ℕ
  numerator_at i = shelf (3 * i)

  abbrev pub denominator_at : ℕ → List ℕ → List ℕ
  denominator_at i = shelf (3 * i + 1)

  abbrev pub product_at : ℕ → List ℕ → List ℕ
  product_at i = shelf (3 * i + 2)

  -- zeros as far as the tray's part of the sheet reaches; what lies beyond stays
  abbrev pub clear_sheet : ℕ → List ℕ → List ℕ
  clear_sheet capacity sheet = replicate (min (room capacity) (length sheet)) 0 ++ drop (room capacity) sheet

  -- the shelves of entry i + 1 hold a numerator, a denominator and zeros
  abbrev pub put_sheet : ℕ → List ℕ → List ℕ → List ℕ → List ℕ
  put_sheet i sheet num den = written (3 * i * p) (num ++ (den ++ replicate p 0)) sheet

  -- the three shelves of entry i + 1 hold zeros
  abbrev pub zeroed : ℕ → List ℕ → List ℕ
  zeroed i sheet = written (3 * i * p) (replicate (3 * p) 0) sheet
