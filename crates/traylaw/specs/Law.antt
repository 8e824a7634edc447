-- The law of a tray, over every run of calls.
-- Main definitions: `Moment`, a call in a run; `Drawing` and `Closing`, a draw and a close with an entry and enough memory; `Quotient`; `Law`.
use Rattle.std.specs.Prelude.{◌≡◌, ℕ, ◌+◌, ◌*◌, ◌<◌, ◌≤◌, true, ◌⊎◌, ◌↔◌, List, [], ◌∷◌, ◌++◌, length, Some, None, Option, ◌≢◌}
use Rattle.refusal.specs.declared.Refusal.{Refusal}
use Rattle.refusal.specs.declared.Refusal.TheVariants.{NoInverse}
use Rattle.field.specs.Meaning.{all_codes}
use Rattle.divstep.specs.ReadOff.{inversion_steps}
use Rattle.traylaw.specs.Calculus.{Calculus, Polynomial, one, times}
use Rattle.traylaw.specs.Sheets.{room}
use Rattle.traylaw.specs.Effects.{granted, scratch_room}
use Rattle.traylaw.specs.Runs.{Call, Call.put, Call.take_back, Call.close, Call.draw, Call.burn, Event, Entry, told, Tray, Run}

-- a call in a run: the capacity that the tray was opened with, the events before it, and the call with its answer
pub record Moment (K : Calculus) : Type 0 where
  pub capacity : ℕ
  pub before : List Event
  pub event : Event
  pub tray : Tray
  pub run : Run K capacity (event ∷ before) tray

-- what the tray holds when the call is made, the last entry first
abbrev pub held : {K : Calculus} → Moment K → List Entry
held m = told m.before

abbrev pub Accepted : Event → Type 0
Accepted e = e.refusal ≡ None

abbrev pub Refused : Event → Type 0
Refused e = e.refusal ≡ None → ⊥

-- z is the only polynomial whose product with d is n
pub record Quotient (K : Calculus) (n d z : List ℕ) : Type 0 where
  pub polynomial : Polynomial K z
  pub product : times K z d ≡ n
  pub only : (y : List ℕ) → Polynomial K y → times K y d ≡ n → y ≡ z

-- the product of d with no polynomial is 1
abbrev pub Uninvertible : Calculus → List ℕ → Type 0
Uninvertible K d = (b : List ℕ) → Polynomial K b → times K d b ≢ one K

-- some entry's denominator is such
abbrev pub SomeUninvertible : Calculus → List Entry → Type 0
SomeUninvertible K [] = ⊥
SomeUninvertible K (e ∷ es) = Uninvertible K e.den ⊎ SomeUninvertible K es

-- the first entry whose denominator has no inverse, and what a close answers to it: the entry's number j, counted from 1, and (2p - 1)·(j + 1) steps
pub record FirstUninvertible (K : Calculus) (es : List Entry) (answer : Option Refusal) : Type 0 where
  pub later : List Entry
  pub entry : Entry
  pub before : List Entry
  pub place : es ≡ later ++ entry ∷ before
  pub none : Uninvertible K entry.den
  pub first : SomeUninvertible K before → ⊥
  pub answered : answer ≡ Some (NoInverse (length before + 1) (inversion_steps K.degree * (length before + 1 + 1)))

-- one of these questions is answered no
abbrev pub OneNo : List (Type 0) → Type 0
OneNo [] = ⊥
OneNo (q ∷ qs) = (q → ⊥) ⊎ OneNo qs

-- 1 for a call of the kind, else 0
abbrev pub is_put : Call → ℕ
is_put (put num den) = 1
is_put take_back = 0
is_put (close scratch) = 0
is_put (draw out scratch) = 0
is_put burn = 0

abbrev pub is_take_back : Call → ℕ
is_take_back (put num den) = 0
is_take_back take_back = 1
is_take_back (close scratch) = 0
is_take_back (draw out scratch) = 0
is_take_back burn = 0

abbrev pub is_draw : Call → ℕ
is_draw (put num den) = 0
is_draw take_back = 0
is_draw (close scratch) = 0
is_draw (draw out scratch) = 1
is_draw burn = 0

-- how many of these events are accepted calls of a kind
abbrev pub accepted : (Call → ℕ) → List Event → ℕ
accepted kind [] = 0
accepted kind (e ∷ before) = granted e.refusal (kind e.call) 0 + accepted kind before

-- a draw with an entry and enough memory: the sheet and the scratch are long enough, and the output has p numbers
pub record Drawing (K : Calculus) : Type 0 where
  pub at : Moment K
  pub given : List ℕ
  pub scratch : ℕ
  pub call : at.event.call ≡ draw given scratch
  pub last : Entry
  pub others : List Entry
  pub entry : held at ≡ last ∷ others
  pub enough_sheet : room K.degree at.capacity ≤ at.event.lent
  pub enough_scratch : scratch_room K ≤ scratch
  pub enough_output : length given ≡ K.degree

abbrev pub quotient : {K : Calculus} → Drawing K → List ℕ
quotient d = d.at.event.out

-- a close with an entry and enough memory: the sheet and the scratch are long enough
pub record Closing (K : Calculus) : Type 0 where
  pub at : Moment K
  pub scratch : ℕ
  pub call : at.event.call ≡ close scratch
  pub entry : held at ≡ [] → ⊥
  pub enough_sheet : room K.degree at.capacity ≤ at.event.lent
  pub enough_scratch : scratch_room K ≤ scratch

pub record Law (K : Calculus) : Type 0 where
  -- a draw with an entry and enough memory is accepted, and its output is the only polynomial whose product with the last denominator is the last numerator
  pub drawn : (d : Drawing K) → Accepted d.at.event × Quotient K d.last.num d.last.den (quotient d)
  -- two quotients, of one run or of two, are equal exactly when n1·d2 = n2·d1
  pub same : (c d : Drawing K) → (quotient c ≡ quotient d) ↔ (times K c.last.num d.last.den ≡ times K d.last.num c.last.den)
  -- a close with an entry and enough memory is refused exactly when some denominator in the tray has no inverse
  pub closed : (c : Closing K) → Refused c.at.event ↔ SomeUninvertible K (held c.at)
  -- and then it names the first such entry
  pub barred : (c : Closing K) → Refused c.at.event → FirstUninvertible K (held c.at) c.at.event.refusal
  -- a burn is never refused, and reports how many entries are left
  pub burnt : (m : Moment K) → m.event.call ≡ burn → Accepted m.event × (m.event.report ≡ length (held m))
  -- the accepted puts are as many as the accepted take backs, the accepted draws and what a burn reports
  pub balance : (m : Moment K) → m.event.call ≡ burn → accepted is_put m.before ≡ accepted is_take_back m.before + accepted is_draw m.before + m.event.report
  -- a put is refused exactly when the sheet is too short, a list has not p numbers, a number is no code or the tray is full
  pub puts : (m : Moment K) (num den : List ℕ) → m.event.call ≡ put num den → Refused m.event ↔ OneNo
      ((room K.degree m.capacity ≤ m.event.lent)
      ∷ ((length num ≡ K.degree) × (length den ≡ K.degree))
      ∷ ((all_codes K.size num ≡ true) × (all_codes K.size den ≡ true))
      ∷ (length (held m) < m.capacity)
      ∷ [])
  -- a take back is refused exactly when the sheet is too short or there is no entry
  pub takes : (m : Moment K) → m.event.call ≡ take_back → Refused m.event ↔ OneNo ((room K.degree m.capacity ≤ m.event.lent) ∷ (held m ≢ []) ∷ [])
