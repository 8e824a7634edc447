-- The calls of a script and their answers, in the words of the law of trays.
-- Main definitions: `call_of`, `event_of`, `tray_of`; `Turn`, what comes of one call; `TurnOf`, that a call on a tray and its sheet is a turn.
use Rattle.std.specs.Prelude.{◌≡◌, ℕ, ◌⊎◌, List, [], length, take, replicate, Some, None, IfOk, vec_items, Option, Result}
use Rattle.std.specs.Option.{unwrap_or}
use Rattle.std.specs.declared.alloc.AllocError.{AllocError}
use Rattle.refusal.specs.declared.Refusal.{Refusal}
use Rattle.traylaw.specs.Calculus.{Calculus}
use Rattle.traylaw.specs.Sheets.{room}
use Rattle.traylaw.specs.Effects.{Phase.Open as IsOpen, Phase.Closed as IsClosed}
use Rattle.traylaw.specs.Runs.{Call as TrayCall, Call.put, Call.take_back, Call.close, Call.draw, Call.burn, Event, Tray, Allowed, Step}
use Rattle.script.specs.declared.scripts.Call.{Call}
use Rattle.script.specs.declared.scripts.Call.TheVariants.{Put, TakeBack, Close, Draw}
use Rattle.script.specs.declared.scripts.Outcome.{Outcome}
use Rattle.script.specs.declared.scripts.Outcome.TheVariants.{NotAllowed, Refused, Accepted, Closed as ClosedIn, Drawn}
use Rattle.script.specs.declared.perform.State.{State}
use Rattle.script.specs.declared.perform.State.TheVariants.{Open, Closed}

-- the calls of the law
abbrev pub a_put : List ℕ → List ℕ → TrayCall
a_put num den = put num den

abbrev pub a_take_back : TrayCall
a_take_back = take_back

abbrev pub a_close : ℕ → TrayCall
a_close scratch = close scratch

abbrev pub a_draw : List ℕ → ℕ → TrayCall
a_draw out scratch = draw out scratch

-- the call that an item of a script is: a draw is lent an output of zeros
abbrev pub call_of : Call → TrayCall
call_of (Put num den) = put (vec_items num) (vec_items den)
call_of TakeBack = take_back
call_of (Close scratch) = close scratch
call_of (Draw len scratch) = draw (replicate len 0) scratch

abbrev pub refusal_in : Outcome → Option Refusal
refusal_in NotAllowed = None
refusal_in (Refused r) = Some r
refusal_in Accepted = None
refusal_in (ClosedIn steps) = None
refusal_in (Drawn quotient) = None

-- the steps that an accepted close reports
abbrev pub steps_in : Outcome → ℕ
steps_in NotAllowed = 0
steps_in (Refused r) = 0
steps_in Accepted = 0
steps_in (ClosedIn steps) = steps
steps_in (Drawn quotient) = 0

abbrev pub quotient_in : Outcome → Option (List ℕ)
quotient_in NotAllowed = None
quotient_in (Refused r) = None
quotient_in Accepted = None
quotient_in (ClosedIn steps) = None
quotient_in (Drawn quotient) = Some (vec_items quotient)

-- the output that a call is lent
abbrev pub output_of : TrayCall → List ℕ
output_of (put num den) = []
output_of take_back = []
output_of (close scratch) = []
output_of (draw out scratch) = out
output_of burn = []

-- the event that a call with its answer is, where the sheet that it was lent has so many numbers; an output that no quotient was written to is as it was lent
abbrev pub event_of : TrayCall → ℕ → Outcome → Event
event_of c lent o = record { call = c; lent = lent; refusal = refusal_in o; report = steps_in o; out = unwrap_or (quotient_in o) (output_of c) }

-- the tray of the law that a tray and its sheet are
abbrev pub tray_of : State → List ℕ → Tray
tray_of (Open t) sheet = record { phase = IsOpen; count = t.count; used = take (room t.p t.capacity) sheet }
tray_of (Closed t) sheet = record { phase = IsClosed; count = t.count; used = take (room t.p t.capacity) sheet }

abbrev pub degree_of : State → ℕ
degree_of (Open t) = t.p
degree_of (Closed t) = t.p

abbrev pub capacity_of : State → ℕ
capacity_of (Open t) = t.capacity
capacity_of (Closed t) = t.capacity

-- a call that was made: it is a step of the law with its answer
pub record Made (K : Calculus) (capacity : ℕ) (was : Tray) (c : TrayCall) (lent : ℕ) (o : Outcome) (now : Tray) : Type 0 where
  pub allowed : o ≡ NotAllowed → ⊥
  pub step : Step K capacity was (event_of c lent o) now

-- a call that the tray's state has not, and that was not made
pub record Skipped (was : Tray) (c : TrayCall) (o : Outcome) (now : Tray) : Type 0 where
  pub missing : Allowed c was.phase → ⊥
  pub told : o ≡ NotAllowed
  pub same : now ≡ was

abbrev pub Turn : Calculus → ℕ → Tray → TrayCall → ℕ → Outcome → Tray → Type 0
Turn K capacity was c lent o now = Made K capacity was c lent o now ⊎ Skipped was c o now

-- A call on a tray of either state and the sheet that it is lent: what came of it is a turn over the calculus of the tray's degree, and the degree
-- and the capacity stay. A call that there was no memory for came to nothing, and is no turn.
pub record TurnOf (over : ℕ → Calculus) (was : State) (before : List ℕ) (c : TrayCall) (came : Result Outcome AllocError) (now : State) (after : List ℕ) : Type 0 where
  pub turn : IfOk came (λ o. Turn (over (degree_of was)) (capacity_of was) (tray_of was before) c (length before) o (tray_of now after))
  pub degree : degree_of now ≡ degree_of was
  pub capacity : capacity_of now ≡ capacity_of was
