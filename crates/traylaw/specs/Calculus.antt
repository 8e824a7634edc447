-- What a tray computes with: the polynomials of one degree over one field, and the search for inverses.
-- Main definitions: `Calculus`, `calculus` (that of a field and a degree), `Lawful` (what the layers below promise of it).
use Rattle.std.specs.Prelude.{◌≡◌, ℕ, true, List, length, Some, None, Option, ◌≢◌}
use Rattle.field.specs.Rings.{Operations, CommutativeRing, Normal}
use Rattle.field.specs.Meaning.{Arithmetic, coded, all_codes}
use Rattle.ring.specs.Polynomials.{polynomials}
use Rattle.divstep.specs.ReadOff.{inverse_of}

pub record Calculus : Type 0 where
  pub size : ℕ
  pub degree : ℕ
  pub ops : Operations (List ℕ)
  pub inverse : List ℕ → Option (List ℕ)

-- polynomials of p codes
abbrev pub calculus : Arithmetic → (ℕ → Option ℕ) → ℕ → Calculus
calculus A recip p = record { size = A.size; degree = p; ops = polynomials (coded A) p; inverse = inverse_of A p recip }

abbrev pub one : Calculus → List ℕ
one K = K.ops.one

abbrev pub times : Calculus → List ℕ → List ℕ → List ℕ
times K = K.ops.times

-- p codes
pub record Polynomial (K : Calculus) (a : List ℕ) : Type 0 where
  pub long : length a ≡ K.degree
  pub codes : all_codes K.size a ≡ true

-- the laws of a commutative ring hold, products are polynomials, polynomials are in normal form, and an inverse is found exactly where there is one
pub record Lawful (K : Calculus) : Type 0 where
  pub ring : CommutativeRing K.ops
  pub one_is : Polynomial K (one K)
  pub times_is : (a b : List ℕ) → Polynomial K (times K a b)
  pub normal : (a : List ℕ) → Polynomial K a → Normal K.ops a
  pub found : (a b : List ℕ) → Polynomial K a → K.inverse a ≡ Some b → Polynomial K b × (times K a b ≡ one K)
  pub missed : (a b : List ℕ) → Polynomial K a → K.inverse a ≡ None → Polynomial K b → times K a b ≢ one K
