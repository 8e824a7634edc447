-- Cases worked by hand, as rows of one table.
-- Main definitions: `Row`, `Holds`, `table`.
use Rattle.std.specs.Prelude.{◌≡◌, ℕ, List, [], ◌∷◌, ℤ, pos, Some, None, Option}
use Rattle.field.specs.Meaning.{coded}
use Rattle.refusal.specs.declared.Refusal.TheVariants.{NoEntry, NoInverse}
use Rattle.residues.specs.Residues.{residues, reciprocal_mod}
use Rattle.divstep.specs.ReadOff.{inversion_steps, inverse_of}
use Rattle.divstep.specs.Steps.{State, after, state_of, not_zero}
use Rattle.traylaw.specs.Calculus.{calculus}
use Rattle.traylaw.specs.Runs.{Call.put, Call.take_back, Call.close, Call.draw, Event}
use Rattle.cases.specs.Trays.{any_sheet, accepted, refused, closed, drawn, burnt, Answers}

-- q is the modulus of the coefficients
pub data Row : Type 0 where
  -- the polynomial a of degree below p has this inverse, or none, after so many steps
  inversion : (q p : ℕ) (a : List ℕ) (answer : Option (List ℕ)) (steps : ℕ) → Row
  -- n steps from δ, f and g end so
  division : (q n : ℕ) (δ : ℤ) (f g : List ℕ) (end : State (List ℕ)) → Row
  -- a tray of degree p with this capacity, opened on this sheet, answers these calls so
  tray : (q p capacity : ℕ) (sheet : List ℕ) (events : List Event) → Row
  -- no steps leave every δ, f and g, with the matrix 1 in lists of one coefficient
  no_steps : (q : ℕ) → Row

abbrev pub Holds : Row → Type 0
Holds (inversion q p a answer steps) = (inverse_of (residues q) p (reciprocal_mod q) a ≡ answer) × (inversion_steps p ≡ steps)
Holds (division q n δ f g end) = after (coded (residues q)) not_zero n δ f g ≡ end
Holds (tray q p capacity sheet events) = Answers (calculus (residues q) (reciprocal_mod q) p) capacity sheet events
Holds (no_steps q) = (δ : ℤ) (f g : List ℕ) → after (coded (residues q)) not_zero 0 δ f g ≡ state_of δ f g (1 ∷ []) (0 ∷ []) (0 ∷ []) (1 ∷ [])

abbrev pub All : List Row → Type 0
All [] = Unit {0}
All (row ∷ rows) = Holds row × All rows

abbrev pub table : List Row
table =
    inversion 3 2 (0 ∷ 1 ∷ []) (Some (2 ∷ 1 ∷ [])) 3
    ∷ inversion 5 2 (2 ∷ 1 ∷ []) None 3
    ∷ inversion 5 2 (1 ∷ 1 ∷ []) (Some (2 ∷ 4 ∷ [])) 3
    ∷ inversion 5 2 (0 ∷ 0 ∷ []) None 3
    ∷ division 3 3 (pos 1) (1 ∷ 2 ∷ 2 ∷ []) (1 ∷ 0 ∷ 0 ∷ [])
    (state_of (pos 0) (2 ∷ 0 ∷ 0 ∷ []) (0 ∷ 0 ∷ 0 ∷ []) (0 ∷ 1 ∷ 0 ∷ 0 ∷ []) (0 ∷ 2 ∷ 1 ∷ 0 ∷ []) (2 ∷ 0 ∷ 0 ∷ 0 ∷ []) (1 ∷ 2 ∷ 2 ∷ 0 ∷ []))
    ∷ no_steps 5
    ∷ tray 5 2 2 any_sheet
    (accepted (put (1 ∷ 0 ∷ []) (1 ∷ 1 ∷ []))
    ∷ accepted (put (0 ∷ 1 ∷ []) (1 ∷ 2 ∷ []))
    ∷ closed 3
    ∷ drawn (2 ∷ 4 ∷ [])
    ∷ drawn (2 ∷ 4 ∷ [])
    ∷ refused (draw (0 ∷ 0 ∷ []) 320) NoEntry
    ∷ burnt 0
    ∷ [])
    ∷ tray 5 2 2 any_sheet
    (accepted (put (1 ∷ 0 ∷ []) (1 ∷ 1 ∷ []))
    ∷ accepted (put (1 ∷ 0 ∷ []) (2 ∷ 1 ∷ []))
    ∷ refused (close 320) (NoInverse 2 9)
    ∷ accepted take_back
    ∷ closed 3
    ∷ burnt 1
    ∷ [])
    ∷ []
