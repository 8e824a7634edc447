-- Lists that the matrix of a batch is applied to.
use Rattle.std.specs.Prelude.{◌≡◌, ℕ, ◌+◌, ◌*◌, ◌≤◌, List, length}

-- x and y are the column that a matrix of 17 coefficients is multiplied by, and the scratch has room for the products
pub record IsColumn (x y scratch : List ℕ) : Type 0 where
  pub long : length x ≡ length y
  pub room : 3 * (length x + 16) ≤ length scratch
