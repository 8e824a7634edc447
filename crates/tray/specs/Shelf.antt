-- The number of a shelf on its sheet, counted from 0.
use Rattle.std.specs.Prelude.{ℕ, ◌+◌, ◌*◌}
use Rattle.tray.specs.declared.shelves.Shelf.{Shelf}
use Rattle.tray.specs.declared.shelves.Shelf.TheVariants.{Numerator, Denominator, Product}

abbrev pub number_of : Shelf → ℕ
number_of (Numerator i) = 3 * i
number_of (Denominator i) = 3 * i + 1
number_of (Product i) = 3 * i + 2
