-- The residues modulo q, and tables of their reciprocals.
-- Main definitions: `residues`, `reciprocal_mod`, `ReciprocalTable`.
use Rattle.std.specs.Prelude.{◌≡◌, ℕ, zero, suc, ◌+◌, ◌-◌, ◌*◌, ◌%◌, Bool, true, cond, ◌&&◌, T, List, [], ◌∷◌, length, Some, None, Option, ◌==◌, nat_lt}
use Rattle.field.specs.Meaning.{Arithmetic}

abbrev pub residues : ℕ → Arithmetic
residues q = record {
  size = q;
  plus = λ a b. (a + b) % q;
  minus = λ a b. (a + (q - b)) % q;
  times = λ a b. a * b % q;
}

-- the last number below n whose product with a leaves 1 modulo q
unfoldable pub last_below : ℕ → ℕ → ℕ → Option ℕ
last_below q a zero = None
last_below q a (suc b) = cond (a * b % q == 1) (Some b) (last_below q a b)

-- the residue whose product with a leaves 1, if there is one
abbrev pub reciprocal_mod : ℕ → ℕ → Option ℕ
reciprocal_mod q a = last_below q a q

-- the test f passes at each entry of the list and its place, counted from i
abbrev pub every : (ℕ → ℕ → Bool) → ℕ → List ℕ → Bool
every f i [] = true
every f i (x ∷ xs) = f i x && every f (suc i) xs

-- the rule of the entry x at the place k: place 0 holds 0, and every other entry is a residue whose product with its place leaves 1
abbrev pub right_entry : ℕ → ℕ → ℕ → Bool
right_entry q k x = nat_lt x q && cond (k == 0) (x == 0) (k * x % q == 1)

-- a table of q numbers in which every entry keeps the rule
pub record ReciprocalTable (q : ℕ) (xs : List ℕ) : Type 0 where
  pub whole : length xs ≡ q
  pub right : T (every (right_entry q) 0 xs)
