-- The questions of a steps call and of an inversion, in their order.
use Rattle.std.specs.Prelude.{◌≡◌, ℕ, ◌+◌, ◌*◌, ◌≤◌, true, ◌&&◌, List, [], ◌∷◌, ◌++◌, length, ℤ, is_some, Option, ◌==◌, nat_le, unsigned_abs}
use Rattle.refusal.specs.declared.Refusal.{Refusal}
use Rattle.refusal.specs.declared.Refusal.TheVariants.{Range, Scratch, Length, NotACode, NoInverse}
use Rattle.refusal.specs.Questions.{asked}
use Rattle.field.specs.Meaning.{all_codes}
use Rattle.ring.specs.Asked.{degree_asked}
use Rattle.divstep.specs.ReadOff.{inversion_steps}

-- s is the size of the field; u, v, q, r and scratch are lengths
abbrev pub steps_asked : ℕ → ℤ → ℕ → List ℕ → List ℕ → ℕ → ℕ → ℕ → ℕ → ℕ → List (Option Refusal)
steps_asked s δ n f g u v q r scratch =
    asked Range (nat_le n 2553 && (nat_le (unsigned_abs δ) 2553 && (nat_le 1 (length f) && nat_le (length f) 1278)))
    ∷ asked Scratch (nat_le (16 * (length f + n) + 256) scratch)
    ∷ asked Length (length g == length f && (u == n + 1 && (v == n + 1 && (q == n + 1 && r == n + 1))))
    ∷ asked (NotACode 0) (all_codes s f && all_codes s g)
    ∷ []

-- what a steps call may count on once every question is answered yes
pub record StepsAllowed (s : ℕ) (δ : ℤ) (n : ℕ) (f g : List ℕ) (u v q r scratch : ℕ) : Type 0 where
  pub few : n ≤ 2553
  pub small : unsigned_abs δ ≤ 2553
  pub short : length f ≤ 1278
  pub room : 16 * (length f + n) + 256 ≤ scratch
  pub long : length g ≡ length f
  pub long_u : u ≡ n + 1
  pub long_v : v ≡ n + 1
  pub long_q : q ≡ n + 1
  pub long_r : r ≡ n + 1
  pub codes_f : all_codes s f ≡ true
  pub codes_g : all_codes s g ≡ true

-- the questions of an inversion, all but whether there is an inverse; out and scratch are lengths
abbrev pub inversion_asked : ℕ → ℕ → List ℕ → ℕ → ℕ → List (Option Refusal)
inversion_asked s p a out scratch =
    degree_asked p
    ∷ asked Scratch (nat_le (32 * p + 256) scratch)
    ∷ asked Length (length a == p && out == p)
    ∷ asked (NotACode 0) (all_codes s a)
    ∷ []

-- and whether there is one, as the division steps answer
abbrev pub inverse_asked : ℕ → ℕ → List ℕ → ℕ → ℕ → Option (List ℕ) → List (Option Refusal)
inverse_asked s p a out scratch answer = inversion_asked s p a out scratch ++ asked (NoInverse 0 (inversion_steps p)) (is_some answer) ∷ []
