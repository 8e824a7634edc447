-- A run of the law over Z_5, so that the law speaks of something.
use Rattle.std.specs.Prelude.{List, [], ◌∷◌}
use Rattle.refusal.specs.declared.Refusal.TheVariants.{Full, NoInverse}
use Rattle.residues.specs.Residues.{residues, reciprocal_mod}
use Rattle.traylaw.specs.Calculus.{Calculus, calculus}
use Rattle.traylaw.specs.Runs.{Call.put, Call.take_back, Call.close, Event, Tray, Run}
use Rattle.cases.specs.Trays.{onto, accepted, refused, closed, drawn, burnt}

-- the polynomials modulo x^2 - x - 1 over Z_5
abbrev pub over_five : Calculus
over_five = calculus (residues 5) (reciprocal_mod 5) 2

-- Two puts, a third that finds the tray full, a close that finds that 2 + x has no inverse, a take back, a close, a draw of 1 over 1 + x, and the burn.
abbrev pub forward : List Event
forward =
    accepted (put (1 ∷ 0 ∷ []) (1 ∷ 1 ∷ []))
    ∷ accepted (put (1 ∷ 0 ∷ []) (2 ∷ 1 ∷ []))
    ∷ refused (put (0 ∷ 1 ∷ []) (1 ∷ 0 ∷ [])) Full
    ∷ refused (close 320) (NoInverse 2 9)
    ∷ accepted take_back
    ∷ closed 3
    ∷ drawn (2 ∷ 4 ∷ [])
    ∷ burnt 0
    ∷ []

-- these events, the last listed first, are a run on a tray for two entries
pub record RunOverFive : Type 0 where
  pub tray : Tray
  pub run : Run over_five 2 (onto forward []) tray
