-- What comes of a whole script. Calls, answers and events are listed with the last first.
-- Main definitions: `Replays`, `Replayed`.
use Rattle.std.specs.Prelude.{◌≡◌, ℕ, ◌+◌, List, [], ◌∷◌, ◌++◌, reverse, take, Some, None, Ok, Err, vec_items, Option, Result}
use Rattle.std.specs.declared.alloc.AllocError.{AllocError}
use Rattle.refusal.specs.declared.Refusal.{Refusal}
use Rattle.traylaw.specs.Calculus.{Calculus}
use Rattle.traylaw.specs.Sheets.{room}
use Rattle.traylaw.specs.Runs.{Call.burn, Event, Tray, Opened, Run}
use Rattle.traylaw.specs.Law.{Law, accepted, is_put, is_take_back, is_draw}
use Rattle.script.specs.declared.scripts.Call.{Call}
use Rattle.script.specs.declared.scripts.Answer.{Answer}
use Rattle.script.specs.declared.scripts.Outcome.{Outcome}
use Rattle.script.specs.declared.scripts.Replay.{Replay}
use Rattle.script.specs.declared.scripts.Stopped.{Stopped}
use Rattle.script.specs.declared.scripts.Stopped.TheVariants.{Refused, NoMemory}
use Rattle.script.specs.Events.{call_of, event_of, Made, Skipped}

-- these calls of a script with these answers are these events, and lead from an open to this tray; each answer shows the sheet as the call left it
pub data Replays (K : Calculus) (capacity lent : ℕ) : List Call → List Answer → List Event → Tray → Type 0 where
  none : {t : Tray} → Opened K capacity t → Replays K capacity lent [] [] [] t
  made : {c : Call} {cs : List Call} {a : Answer} {bs : List Answer} {e : Event} {es : List Event} {was now : Tray} → Replays K capacity lent cs bs es was →
      Made K capacity was (call_of c) lent a.outcome now → e ≡ event_of (call_of c) lent a.outcome → take (room K.degree capacity) (vec_items a.sheet) ≡ now.used →
      Replays K capacity lent (c ∷ cs) (a ∷ bs) (e ∷ es) now
  skipped : {c : Call} {cs : List Call} {a : Answer} {bs : List Answer} {es : List Event} {was now : Tray} → Replays K capacity lent cs bs es was →
      Skipped was (call_of c) a.outcome now → take (room K.degree capacity) (vec_items a.sheet) ≡ now.used →
      Replays K capacity lent (c ∷ cs) (a ∷ bs) es now

-- one answer more is noted after the others: it tells what came of a call, and shows the sheet
pub record Notes (came : Result Outcome AllocError) (sheet : List ℕ) (before after : List Answer) : Type 0 where
  pub answer : Answer
  pub told : came ≡ Ok answer.outcome
  pub shown : vec_items answer.sheet ≡ sheet
  pub noted : after ≡ before ++ answer ∷ []

-- these calls with these answers lead to this tray by some events
pub record Performed (K : Calculus) (capacity lent : ℕ) (script : List Call) (answers : List Answer) (now : Tray) : Type 0 where
  pub events : List Event
  pub replays : Replays K capacity lent (reverse script) (reverse answers) events now

-- the refusal of the open
abbrev pub open_refusal : Result Replay Stopped → Option Refusal
open_refusal (Ok done) = None
open_refusal (Err (Refused r)) = Some r
open_refusal (Err (NoMemory e)) = None

-- the burn at the end, which reported so many entries
abbrev pub burn_of : ℕ → ℕ → Event
burn_of lent left = record { call = burn; lent = lent; refusal = None; report = left; out = [] }

-- A script was performed: its calls and their answers are the events of a run, with the burn last. The law holds of every run, so of this one:
-- among the rest, as many entries were put as were taken back, drawn and left.
pub record Replayed (K : Calculus) (capacity lent : ℕ) (script : List Call) (done : Replay) : Type 0 where
  pub events : List Event
  pub tray : Tray
  pub replays : Replays K capacity lent (reverse script) (reverse (vec_items done.answers)) events tray
  pub end : Tray
  pub run : Run K capacity (burn_of lent done.left ∷ events) end
  pub law : Law K
  pub balance : accepted is_put events ≡ accepted is_take_back events + accepted is_draw events + done.left
