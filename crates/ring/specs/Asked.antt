-- The questions of a call on two polynomials and an output, in their order.
use Rattle.std.specs.Prelude.{ℕ, ◌&&◌, List, [], ◌∷◌, length, Option, ◌==◌, nat_le}
use Rattle.refusal.specs.declared.Refusal.{Refusal}
use Rattle.refusal.specs.declared.Refusal.TheVariants.{Degree, Length, NotACode}
use Rattle.refusal.specs.Questions.{asked}
use Rattle.field.specs.Meaning.{all_codes}

abbrev pub degree_asked : ℕ → Option Refusal
degree_asked p = asked Degree (nat_le 2 p && nat_le p 1277)

-- s is the size of the field, and out the length of the output
abbrev pub operands_asked : ℕ → ℕ → List ℕ → List ℕ → ℕ → List (Option Refusal)
operands_asked s p a b out =
    degree_asked p
    ∷ asked Length (length a == p && length b == p && out == p)
    ∷ asked (NotACode 0) (all_codes s a && all_codes s b)
    ∷ []
