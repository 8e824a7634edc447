-- Runs of calls on one tray, and what the tray holds. Both are listed with the last first: the events of a run, and the entries of a tray.
-- Main definitions: `Event`, a call with its answer; `told`, what a tray holds by its calls alone; `Step`, one call; `Run`, the calls since an open.
use Rattle.std.specs.Prelude.{◌≡◌, ℕ, List, [], ◌∷◌, ◌++◌, length, take, drop, Some, None, Option}
use Rattle.refusal.specs.declared.Refusal.{Refusal}
use Rattle.traylaw.specs.Calculus.{Calculus}
use Rattle.traylaw.specs.Sheets.{room}
use Rattle.traylaw.specs.Effects.{Phase, Phase.Open, Phase.Closed, Phase.Burnt, After, after_open, after_put, after_take_back, after_close, after_draw, after_burn}

-- a call, with what it is given besides the tray and the sheet: two polynomials, an output, the length of a scratch
pub data Call : Type 0 where
  put : (num den : List ℕ) → Call
  take_back : Call
  close : (scratch : ℕ) → Call
  draw : (out : List ℕ) (scratch : ℕ) → Call
  burn : Call

-- a call that was made, the length of the sheet that it was lent, and what it answered
pub record Event : Type 0 where
  pub call : Call
  pub lent : ℕ
  pub refusal : Option Refusal
  pub report : ℕ
  pub out : List ℕ

pub record Entry : Type 0 where
  pub num : List ℕ
  pub den : List ℕ

abbrev pub without_last : List Entry → List Entry
without_last [] = []
without_last (e ∷ es) = es

-- what a call makes of the entries, told by the call and by whether it was accepted: a refused call changes nothing
abbrev pub holding : Call → Option Refusal → List Entry → List Entry
holding c (Some r) es = es
holding (put num den) None es = record { num = num; den = den } ∷ es
holding take_back None es = without_last es
holding (close scratch) None es = es
holding (draw out scratch) None es = without_last es
holding burn None es = []

-- what a tray holds, told by its calls alone
abbrev pub told : List Event → List Entry
told [] = []
told (e ∷ before) = holding e.call e.refusal (told before)

-- a tray between two calls: its phase, its count, and the numbers of its sheet that it uses
pub record Tray : Type 0 where
  pub phase : Phase
  pub count : ℕ
  pub used : List ℕ

-- an open tray can be filled and closed, a closed one drawn from, and both can be burnt
abbrev pub Allowed : Call → Phase → Type 0
Allowed (put num den) ph = ph ≡ Open
Allowed take_back ph = ph ≡ Open
Allowed (close scratch) ph = ph ≡ Open
Allowed (draw out scratch) ph = ph ≡ Closed
Allowed burn ph = ph ≡ Burnt → ⊥

module _ (K : Calculus) (capacity : ℕ) where
  -- what a call does
  abbrev pub effect : ℕ → List ℕ → Call → After
  effect count sheet (put num den) = after_put K capacity count sheet num den
  effect count sheet take_back = after_take_back K.degree capacity count sheet
  effect count sheet (close scratch) = after_close K capacity count sheet scratch
  effect count sheet (draw out scratch) = after_draw K capacity count sheet out scratch
  effect count sheet burn = after_burn K.degree capacity count sheet

  -- The sheet that a call is lent shows what the tray uses, as far as it reaches: it may be too short, and what lies beyond the tray's part is anything.
  abbrev pub Shows : List ℕ → List ℕ → Type 0
  Shows used sheet = take (room K.degree capacity) sheet ≡ take (length sheet) used

  -- what a tray uses once a sheet that shows it was changed: the part that the sheet did not reach is as it was
  abbrev pub laid : List ℕ → List ℕ → List ℕ
  laid used sheet = take (room K.degree capacity) (sheet ++ drop (length sheet) used)

  -- one call: it is lent a sheet of any length that shows what the tray uses, and does and answers what its definition says
  pub record Step (was : Tray) (e : Event) (now : Tray) : Type 0 where
    pub sheet : List ℕ
    pub lent : e.lent ≡ length sheet
    pub shows : Shows was.used sheet
    pub allowed : Allowed e.call was.phase
    pub refusal : e.refusal ≡ (effect was.count sheet e.call).refusal
    pub report : e.report ≡ (effect was.count sheet e.call).report
    pub out : e.out ≡ (effect was.count sheet e.call).out
    pub phase : now.phase ≡ (effect was.count sheet e.call).phase
    pub count : now.count ≡ (effect was.count sheet e.call).count
    pub used : now.used ≡ laid was.used (effect was.count sheet e.call).sheet

  -- an open that was accepted
  pub record Opened (now : Tray) : Type 0 where
    pub sheet : List ℕ
    pub accepted : (after_open K.degree capacity sheet).refusal ≡ None
    pub phase : now.phase ≡ (after_open K.degree capacity sheet).phase
    pub count : now.count ≡ (after_open K.degree capacity sheet).count
    pub used : now.used ≡ take (room K.degree capacity) (after_open K.degree capacity sheet).sheet

  -- the events that lead from an open to this tray
  pub data Run : List Event → Tray → Type 0 where
    opened : {now : Tray} → Opened now → Run [] now
    then : {was now : Tray} {e : Event} {before : List Event} → Run before was → Step was e now → Run (e ∷ before) now
