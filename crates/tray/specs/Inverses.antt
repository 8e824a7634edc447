-- What a close counts on: which denominators have inverses, which product shelves are blank, and how long a scratch is.
use Rattle.std.specs.Prelude.{◌≡◌, ℕ, ◌+◌, ◌*◌, ◌<◌, ◌≤◌, true, List, length, replicate, is_some}
use Rattle.traylaw.specs.Calculus.{Calculus}
use Rattle.traylaw.specs.Sheets.{denominator_at, product_at}

-- inverses of the first n denominators are found
abbrev pub Found : Calculus → List ℕ → ℕ → Type 0
Found K sheet n = (k : ℕ) → k < n → is_some (K.inverse (denominator_at K.degree k sheet)) ≡ true

-- the product shelves of the first n entries hold zeros
abbrev pub Blank : ℕ → List ℕ → ℕ → Type 0
Blank p sheet n = (k : ℕ) → k < n → product_at p k sheet ≡ replicate p 0

-- a scratch is long enough to invert a polynomial of p codes with
abbrev pub FitsInversion : ℕ → List ℕ → Type 0
FitsInversion p scratch = 32 * p + 256 ≤ length scratch
