-- A batch of steps on whole lists: the matrix of m steps, from the first sixteen coefficients of f and g, is applied to the lists.
-- Main definitions: `jump`, `batched`.
use Rattle.std.specs.Prelude.{ℕ, zero, suc, ◌+◌, ◌/◌, ◌%◌, Bool, List, length}
use Rattle.field.specs.Rings.{Operations}
use Rattle.field.specs.Convolution.{tabulate, at, coefficient}
use Rattle.divstep.specs.Steps.{State, lists, begins, steps}

module _ {C : Type 0} (O : Operations C) where
  -- coefficient k of a·x + b·y, the row (a, b) times the column (x, y)
  abbrev pub row_at : List C → List C → List C → List C → ℕ → C
  row_at a b x y k = O.plus (coefficient O a x k) (coefficient O b y k)

  -- a·x + b·y without its first m coefficients, as long as x
  abbrev pub row_times : ℕ → List C → List C → List C → List C → List C
  row_times m a b x y = tabulate (length x) (λ k. row_at a b x y (k + m))

  -- the first sixteen coefficients, where a missing one is zero
  abbrev pub window : List C → List C
  window a = tabulate 16 (at O a)

  -- the matrix of b times the column (f, g), without the first m coefficients, and times the matrix of s
  abbrev pub applied : ℕ → State (List C) → State (List C) → State (List C)
  applied m b s =
      record {
        δ = b.δ;
        f = row_times m b.u b.v s.f s.g;
        g = row_times m b.q b.r s.f s.g;
        u = row_times 0 b.u b.v s.u s.q;
        v = row_times 0 b.u b.v s.v s.r;
        q = row_times 0 b.q b.r s.u s.q;
        r = row_times 0 b.q b.r s.v s.r;
      }

  unfoldable pub jump : (C → Bool) → ℕ → State (List C) → State (List C)
  jump nonzero m s = applied m (steps (lists O) nonzero m (begins O 16 s.δ (window s.f) (window s.g))) s

  -- k whole batches of sixteen steps
  unfoldable pub jumps : (C → Bool) → ℕ → State (List C) → State (List C)
  jumps nonzero zero s = s
  jumps nonzero (suc k) s = jump nonzero 16 (jumps nonzero k s)

  -- a shorter batch, if any steps are left
  abbrev pub ending : (C → Bool) → ℕ → State (List C) → State (List C)
  ending nonzero zero s = s
  ending nonzero (suc m) s = jump nonzero (suc m) s

  -- n steps by batches of sixteen; a shorter batch ends the run
  abbrev pub batched : (C → Bool) → ℕ → State (List C) → State (List C)
  batched nonzero n s = ending nonzero (n % 16) (jumps nonzero (n / 16) s)
