-- What a tray answers to calls made one after another, each on the sheet as the call before left it.
-- Main definitions: `Answers`; `onto`, which lists the last first.
use Rattle.std.specs.Prelude.{◌≡◌, ℕ, List, [], ◌∷◌, length, Some, None}
use Rattle.refusal.specs.declared.Refusal.{Refusal}
use Rattle.traylaw.specs.Calculus.{Calculus}
use Rattle.traylaw.specs.Effects.{Phase, Phase.Open, after_open}
use Rattle.traylaw.specs.Runs.{Call, Call.put, Call.take_back, Call.close, Call.draw, Call.burn, Event, Allowed, effect}

-- a sheet of twelve numbers, with numbers on it that a tray has no use for
abbrev pub any_sheet : List ℕ
any_sheet = 9 ∷ 8 ∷ 7 ∷ 6 ∷ 5 ∷ 4 ∷ 3 ∷ 2 ∷ 1 ∷ 2 ∷ 3 ∷ 4 ∷ []

-- calls on that sheet with their answers; a draw is lent two zeros, and both a close and a draw a scratch of 320 numbers
abbrev pub accepted : Call → Event
accepted c = record { call = c; lent = 12; refusal = None; report = 0; out = [] }

abbrev output_of : Call → List ℕ
output_of (put num den) = []
output_of take_back = []
output_of (close scratch) = []
output_of (draw out scratch) = out
output_of burn = []

abbrev pub refused : Call → Refusal → Event
refused c r = record { call = c; lent = 12; refusal = Some r; report = 0; out = output_of c }

abbrev pub closed : ℕ → Event
closed steps = record { call = close 320; lent = 12; refusal = None; report = steps; out = [] }

abbrev pub drawn : List ℕ → Event
drawn quotient = record { call = draw (0 ∷ 0 ∷ []) 320; lent = 12; refusal = None; report = 0; out = quotient }

abbrev pub burnt : ℕ → Event
burnt left = record { call = burn; lent = 12; refusal = None; report = left; out = [] }

-- these calls, the first one first, are allowed and answered so
module _ (K : Calculus) (capacity : ℕ) where
  abbrev pub AnswersFrom : Phase → ℕ → List ℕ → List Event → Type 0
  AnswersFrom phase count sheet [] = Unit {0}
  AnswersFrom phase count sheet (e ∷ es) =
      (Allowed e.call phase)
      × (length sheet ≡ e.lent)
      × ((effect K capacity count sheet e.call).refusal ≡ e.refusal)
      × ((effect K capacity count sheet e.call).report ≡ e.report)
      × ((effect K capacity count sheet e.call).out ≡ e.out)
      × (length (effect K capacity count sheet e.call).sheet ≡ e.lent)
      × AnswersFrom (effect K capacity count sheet e.call).phase (effect K capacity count sheet e.call).count (effect K capacity count sheet e.call).sheet es

  abbrev pub Answers : List ℕ → List Event → Type 0
  Answers sheet es = ((after_open K.degree capacity sheet).refusal ≡ None) × AnswersFrom Open 0 (after_open K.degree capacity sheet).sheet es

-- the events in a list, the last first, put before those in another
abbrev pub onto : List Event → List Event → List Event
onto [] before = before
onto (e ∷ es) before = onto es (e ∷ before)
