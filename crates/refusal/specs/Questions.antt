-- The questions that a call asks, in their order: the first that is answered no refuses the call.
use Rattle.std.specs.Prelude.{Bool, true, false, List, [], ◌∷◌, Some, None, Option}
use Rattle.refusal.specs.declared.Refusal.{Refusal}

-- a question's answer, and the refusal that a no gives
abbrev pub asked : Refusal → Bool → Option Refusal
asked e true = None
asked e false = Some e

abbrev pub or_else : Option Refusal → Option Refusal → Option Refusal
or_else (Some e) later = Some e
or_else None later = later

-- the refusal of the first question that is answered no
abbrev pub first_no : List (Option Refusal) → Option Refusal
first_no [] = None
first_no (q ∷ qs) = or_else q (first_no qs)
