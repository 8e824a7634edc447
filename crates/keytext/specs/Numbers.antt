-- Numbers in decimal.
use Rattle.std.specs.Prelude.{ℕ, Bool, false, cond, List, [], ◌∷◌, length, ◌==◌}
use Rattle.std.specs.Str.{all_ascii_digits}

-- is the text a number in decimal: digits, at least one, and no zero before others?
abbrev pub is_decimal : List ℕ → Bool
is_decimal [] = false
is_decimal (d ∷ ds) = cond (d == 48) (length ds == 0) (all_ascii_digits (d ∷ ds))
