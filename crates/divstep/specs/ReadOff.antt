-- The inverse of a polynomial modulo x^p - x - 1 over a field, read off division steps.
-- Main definitions: `inversion_steps`, `divided`, `inverse_of`; `Inverts`, that it is right.
use Rattle.std.specs.Prelude.{◌≡◌, ℕ, zero, suc, ◌+◌, ◌-◌, ◌*◌, Bool, true, false, cond, ◌≢◌, List, [], ◌∷◌, ◌++◌, reverse, replicate, ℤ, pos, negsuc, Some, None, Option}
use Rattle.field.specs.Meaning.{Arithmetic, Code, coded}
use Rattle.field.specs.Convolution.{tabulate, at}
use Rattle.ring.specs.Laws.{Polynomial, Inverse, Invertible}
use Rattle.divstep.specs.Steps.{State, after, not_zero}

abbrev pub is_zero : ℤ → Bool
is_zero (pos zero) = true
is_zero (pos (suc n)) = false
is_zero (negsuc n) = false

-- what an inversion makes in steps, whatever it is given
abbrev pub inversion_steps : ℕ → ℕ
inversion_steps p = 2 * p - 1

module _ (A : Arithmetic) (p : ℕ) where
  -- 1 - x^(p-1) - x^p, which is x^p - x - 1 reversed
  abbrev pub reversed_modulus : List ℕ
  reversed_modulus = 1 ∷ (replicate (p - 2) 0 ++ ((coded A).minus 0 1 ∷ (coded A).minus 0 1 ∷ []))

  -- 2p - 1 steps from δ = 1, f = 1 - x^(p-1) - x^p and g the reverse of a, in lists of p + 1 coefficients
  unfoldable pub divided : List ℕ → State (List ℕ)
  divided a = after (coded A) not_zero (p + p - 1) (pos 1) reversed_modulus (reverse a ++ 0 ∷ [])

  -- coefficient k is coefficient p - k of v, times the reciprocal of the constant that f has become
  abbrev pub read_off : Option ℕ → List ℕ → Option (List ℕ)
  read_off None v = None
  read_off (Some c) v = Some (tabulate p (λ k. (coded A).times (at (coded A) v (p - k)) c))

  -- what an inversion answers: the inverse where δ has become 0, else none
  unfoldable pub inverse_of : (ℕ → Option ℕ) → List ℕ → Option (List ℕ)
  inverse_of recip a = cond (is_zero (divided a).δ) (read_off (recip (at (coded A) (divided a).f 0)) (divided a).v) None

  -- b is the inverse of a
  abbrev pub IsInverse : List ℕ → List ℕ → Type 0
  IsInverse a b = Polynomial A p b × Inverse A p a b

  -- times no polynomial is a 1
  abbrev pub NoInverseOf : List ℕ → Type 0
  NoInverseOf a = Invertible A p a → ⊥

  -- the answer is the inverse of a, and absent exactly where a has none
  abbrev pub Answers : List ℕ → Option (List ℕ) → Type 0
  Answers a None = NoInverseOf a
  Answers a (Some b) = IsInverse a b

  pub record Inverts (recip : ℕ → Option ℕ) (a : List ℕ) : Type 0 where
    -- δ ends at 0 exactly when a has an inverse
    pub ends : Invertible A p a → (divided a).δ ≡ pos 0
    pub exists : (divided a).δ ≡ pos 0 → Invertible A p a
    -- f is then a constant, a code that is not zero
    pub constant : (divided a).δ ≡ pos 0 → (k : ℕ) → at (coded A) (divided a).f (suc k) ≡ 0
    pub constant_code : (divided a).δ ≡ pos 0 → Code A (at (coded A) (divided a).f 0)
    pub constant_other : (divided a).δ ≡ pos 0 → at (coded A) (divided a).f 0 ≢ 0
    pub answers : Answers a (inverse_of recip a)
