-- Division steps on polynomials.
-- Main definitions: `State`, `step` (one division step), `steps` (n of them), `after` (n steps from δ, f and g with the matrix 1).
use Rattle.std.specs.Prelude.{ℕ, zero, suc, ◌+◌, Bool, true, false, cond, List, length, ℤ, pos, ◌+ℤ◌, neg_ℤ, int_lt}
use Rattle.field.specs.Rings.{Operations}
use Rattle.field.specs.Convolution.{tabulate, at, mixed}
use Rattle.ring.specs.Polynomials.{unit_at}

-- the degree difference δ, the polynomials f and g, and the rows (u, v) and (q, r) of the transition matrix
pub record State (A : Type 0) : Type 0 where
  pub δ : ℤ
  pub f : A
  pub g : A
  pub u : A
  pub v : A
  pub q : A
  pub r : A

-- what a step does to polynomials, in whatever form A they are held
pub record Held (C A : Type 0) : Type 0 where
  -- the constant
  pub first : A → C
  -- mix c a d b is c·a - d·b
  pub mix : C → A → C → A → A
  -- a / x and x·a
  pub down : A → A
  pub up : A → A

-- δ changes its sign, f and g change places, and so do the rows
abbrev pub swapped : {A : Type 0} → Bool → State A → State A
swapped true s = record { δ = neg_ℤ s.δ; f = s.g; g = s.f; u = s.q; v = s.r; q = s.u; r = s.v }
swapped false s = s

module _ {C A : Type 0} (P : Held C A) (nonzero : C → Bool) where
  -- is δ > 0 and g(0) ≠ 0?
  abbrev pub swaps : State A → Bool
  swaps s = cond (int_lt (pos 0) s.δ) (nonzero (P.first s.g)) false

  -- with f0 and g0 the constants of f and g: δ grows by 1, g becomes (f0·g - g0·f)/x,
  -- (q, r) becomes f0·(q, r) - g0·(u, v), and (u, v) is multiplied by x
  abbrev pub reduced : State A → State A
  reduced s =
      record {
        δ = s.δ +ℤ pos 1;
        f = s.f;
        g = P.down (P.mix (P.first s.f) s.g (P.first s.g) s.f);
        u = P.up s.u;
        v = P.up s.v;
        q = P.mix (P.first s.f) s.q (P.first s.g) s.u;
        r = P.mix (P.first s.f) s.r (P.first s.g) s.v;
      }

  unfoldable pub step : State A → State A
  step s = reduced (swapped (swaps s) s)

  unfoldable pub steps : ℕ → State A → State A
  steps zero s = s
  steps (suc n) s = step (steps n s)

module _ {C : Type 0} (O : Operations C) where
  -- coefficient k of x·a
  abbrev pub shifted_at : (ℕ → C) → ℕ → C
  shifted_at a zero = O.zero
  shifted_at a (suc k) = a k

  -- Lists, the constant first, which a step leaves as long as they were: a / x has 0 at the last place, and x·a lacks the last coefficient
  abbrev pub lists : Held C (List C)
  lists = record {
    first = λ a. at O a 0;
    mix = mixed O;
    down = λ a. tabulate (length a) (λ k. at O a (suc k));
    up = λ a. tabulate (length a) (shifted_at (at O a));
  }

  -- the start: the matrix u = r = 1 and v = q = 0 in lists of n + 1 coefficients
  abbrev pub begins : ℕ → ℤ → List C → List C → State (List C)
  begins n δ f g = record {
    δ = δ;
    f = f;
    g = g;
    u = tabulate (n + 1) (unit_at O);
    v = tabulate (n + 1) (λ k. O.zero);
    q = tabulate (n + 1) (λ k. O.zero);
    r = tabulate (n + 1) (unit_at O);
  }

  -- what n steps come to
  abbrev pub after : (C → Bool) → ℕ → ℤ → List C → List C → State (List C)
  after nonzero n δ f g = steps lists nonzero n (begins n δ f g)

-- the parts of a state, one by one
abbrev pub state_of : {A : Type 0} → ℤ → A → A → A → A → A → A → State A
state_of δ f g u v q r = record { δ = δ; f = f; g = g; u = u; v = v; q = q; r = r }

-- is a code not zero?
abbrev pub not_zero : ℕ → Bool
not_zero zero = false
not_zero (suc a) = true
