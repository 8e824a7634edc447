-- What each call of a tray does, on plain values and for every input: the contracts of the calls cite these definitions.
-- A tray has a degree p, a capacity and a count of entries, and is lent a sheet at each call.
-- Main definitions: `open_asked`, `put_asked`, `take_back_asked`, `close_asked`, `draw_asked`, the questions of the calls in their order;
-- `after_open`, `after_put`, `after_take_back`, `after_close`, `after_draw`, `after_burn`, what stands after them.
use Rattle.std.specs.Prelude.{ℕ, zero, suc, pred, ◌+◌, ◌*◌, Bool, true, ◌&&◌, List, [], ◌∷◌, length, is_some, Some, None, Ok, Err, Option, Result, ◌==◌, nat_le, nat_lt}
use Rattle.std.specs.Option.{unwrap_or}
use Rattle.refusal.specs.declared.Refusal.{Refusal}
use Rattle.refusal.specs.declared.Refusal.TheVariants.{Capacity, Sheet, Scratch, Length, NotACode, NoEntry, Full, Shelf, NoInverse}
use Rattle.refusal.specs.Questions.{asked, first_no}
use Rattle.field.specs.Meaning.{all_codes}
use Rattle.ring.specs.Asked.{degree_asked}
use Rattle.divstep.specs.ReadOff.{inversion_steps}
use Rattle.traylaw.specs.Calculus.{Calculus, one, times}
use Rattle.traylaw.specs.Sheets.{most_entries, room, shelved, numerator_at, denominator_at, product_at, clear_sheet, put_sheet, zeroed}

-- an open tray is filled, a closed one is drawn from, and a burnt one is gone
pub data Phase : Type 0 where
  Open : Phase
  Closed : Phase
  Burnt : Phase

-- What stands after a call. An accepted close reports the steps of an inversion, a burn the entries that were left, and every other call 0;
-- out is the output of a draw, and no other call has one.
pub record After : Type 0 where
  pub refusal : Option Refusal
  pub report : ℕ
  pub phase : Phase
  pub count : ℕ
  pub sheet : List ℕ
  pub out : List ℕ

-- the new value if the call is accepted, else the old one
abbrev pub granted : {X : Type 0} → Option Refusal → X → X → X
granted None new old = new
granted (Some e) new old = old

-- the refusal that a call gives back together with the tray
abbrev pub refusal_of : {T U : Type 0} → Result T (U × Refusal) → Option Refusal
refusal_of (Ok x) = None
refusal_of (Err e) = Some e.1

-- the earlier of two entries, where 0 is none
abbrev pub earlier : ℕ → ℕ → ℕ
earlier zero j = j
earlier (suc i) j = suc i

-- this entry if no inverse was found, else none
abbrev pub unless_found : Option (List ℕ) → ℕ → ℕ
unless_found None i = i
unless_found (Some b) i = 0

abbrev pub entry_asked : ℕ → Option Refusal
entry_asked count = asked NoEntry (nat_lt 0 count)

-- the calls that do not compute, on a tray of degree p: their questions, in their order, and what stands after them
module _ (p : ℕ) where
  abbrev pub sheet_asked : ℕ → List ℕ → Option Refusal
  sheet_asked capacity sheet = asked Sheet (nat_le (room p capacity) (length sheet))

  abbrev pub open_asked : ℕ → List ℕ → List (Option Refusal)
  open_asked capacity sheet =
      degree_asked p
      ∷ asked Capacity (nat_le 1 capacity && nat_le capacity most_entries)
      ∷ sheet_asked capacity sheet
      ∷ []

  abbrev pub take_back_asked : ℕ → ℕ → List ℕ → List (Option Refusal)
  take_back_asked capacity count sheet = sheet_asked capacity sheet ∷ entry_asked count ∷ []

  -- A new tray is open and has no entries.
  abbrev pub after_open : ℕ → List ℕ → After
  after_open capacity sheet =
      let r = first_no (open_asked capacity sheet) in
      record { refusal = r; report = 0; phase = Open; count = 0; sheet = granted r (clear_sheet p capacity sheet) sheet; out = [] }

  -- A take back removes the last entry.
  abbrev pub after_take_back : ℕ → ℕ → List ℕ → After
  after_take_back capacity count sheet =
      let r = first_no (take_back_asked capacity count sheet) in
      record { refusal = r; report = 0; phase = Open; count = granted r (pred count) count; sheet = granted r (zeroed p (pred count) sheet) sheet; out = [] }

  -- A burn is never refused: it clears the sheet and ends the tray.
  abbrev pub after_burn : ℕ → ℕ → List ℕ → After
  after_burn capacity count sheet = record { refusal = None; report = count; phase = Burnt; count = 0; sheet = clear_sheet p capacity sheet; out = [] }

module _ (K : Calculus) where
  -- how long a scratch an inversion wants
  abbrev pub scratch_room : ℕ
  scratch_room = 32 * K.degree + 256

  -- the product of the first i denominators
  unfoldable pub product : ℕ → List ℕ → List ℕ
  product zero sheet = one K
  product (suc i) sheet = times K (product i sheet) (denominator_at K.degree i sheet)

  -- do the shelves of the first i denominators hold codes?
  unfoldable pub coded_denominators : ℕ → List ℕ → Bool
  coded_denominators zero sheet = true
  coded_denominators (suc i) sheet = coded_denominators i sheet && all_codes K.size (denominator_at K.degree i sheet)

  -- the first of the first i entries, counted from 1, whose denominator has no inverse, or 0
  unfoldable pub first_uninvertible : ℕ → List ℕ → ℕ
  first_uninvertible zero sheet = 0
  first_uninvertible (suc i) sheet = earlier (first_uninvertible i sheet) (unless_found (K.inverse (denominator_at K.degree i sheet)) (suc i))

  -- the sheet where each of the first i entries has on its third shelf the product of the denominators up to its own
  unfoldable pub with_products : ℕ → List ℕ → List ℕ
  with_products zero sheet = sheet
  with_products (suc i) sheet = shelved K.degree (3 * i + 2) (product (suc i) sheet) (with_products i sheet)

  -- What the third shelf of entry i holds, whether it holds codes, and the sheet with a polynomial put there.
  -- There is no entry 0: its product counts as 1, and nothing is put there.
  unfoldable pub product_before : ℕ → List ℕ → List ℕ
  product_before zero sheet = one K
  product_before (suc i) sheet = product_at K.degree i sheet

  unfoldable pub coded_before : ℕ → List ℕ → Bool
  coded_before zero sheet = true
  coded_before (suc i) sheet = all_codes K.size (product_at K.degree i sheet)

  unfoldable pub put_before : ℕ → List ℕ → List ℕ → List ℕ
  put_before zero poly sheet = sheet
  put_before (suc i) poly sheet = shelved K.degree (3 * i + 2) poly sheet

  -- do the three shelves of entry i + 1 and the third of entry i hold codes?
  abbrev pub coded_last : ℕ → List ℕ → Bool
  coded_last i sheet =
      all_codes K.size (numerator_at K.degree i sheet)
      && (all_codes K.size (denominator_at K.degree i sheet) && (all_codes K.size (product_at K.degree i sheet) && coded_before i sheet))

  -- The inverse of the last denominator, that of entry i + 1: the last product shelf holds the inverse of the product of all denominators,
  -- and the one before it the product of all but the last.
  abbrev pub last_inverse : ℕ → List ℕ → List ℕ
  last_inverse i sheet = times K (product_at K.degree i sheet) (product_before i sheet)

  -- the questions of each call, in their order
  abbrev pub scratch_asked : ℕ → Option Refusal
  scratch_asked scratch = asked Scratch (nat_le scratch_room scratch)

  abbrev pub put_asked : ℕ → ℕ → List ℕ → List ℕ → List ℕ → List (Option Refusal)
  put_asked capacity count sheet num den =
      sheet_asked K.degree capacity sheet
      ∷ asked Length (length num == K.degree && length den == K.degree)
      ∷ asked (NotACode 0) (all_codes K.size num && all_codes K.size den)
      ∷ asked Full (nat_lt count capacity)
      ∷ []

  -- Is there an inverse of the product of all denominators? If not, the first entry j whose denominator has none is named. By then the product and
  -- the denominators 1 to j were inverted.
  abbrev pub inverse_asked : ℕ → List ℕ → Option Refusal
  inverse_asked count sheet =
      asked (NoInverse (first_uninvertible count sheet) (inversion_steps K.degree * (first_uninvertible count sheet + 1))) (is_some (K.inverse (product count sheet)))

  -- the questions of a close, all but whether there is an inverse
  abbrev pub inversion_asked : ℕ → ℕ → List ℕ → ℕ → List (Option Refusal)
  inversion_asked capacity count sheet scratch =
      sheet_asked K.degree capacity sheet
      ∷ scratch_asked scratch
      ∷ entry_asked count
      ∷ asked Shelf (coded_denominators count sheet)
      ∷ []

  abbrev pub close_asked : ℕ → ℕ → List ℕ → ℕ → List (Option Refusal)
  close_asked capacity count sheet scratch =
      sheet_asked K.degree capacity sheet
      ∷ scratch_asked scratch
      ∷ entry_asked count
      ∷ asked Shelf (coded_denominators count sheet)
      ∷ inverse_asked count sheet
      ∷ []

  abbrev pub draw_asked : ℕ → ℕ → List ℕ → List ℕ → ℕ → List (Option Refusal)
  draw_asked capacity count sheet out scratch =
      sheet_asked K.degree capacity sheet
      ∷ scratch_asked scratch
      ∷ asked Length (length out == K.degree)
      ∷ entry_asked count
      ∷ asked Shelf (coded_last (pred count) sheet)
      ∷ []

  -- each entry's third shelf holds the product of the denominators up to its own, but the last one's the inverse of the product of all
  abbrev pub close_sheet : ℕ → List ℕ → List ℕ
  close_sheet count sheet = shelved K.degree (3 * pred count + 2) (unwrap_or (K.inverse (product count sheet)) []) (with_products count sheet)

  -- Entry i + 1 is the last one. The inverse of the product of all denominators, times the last one, is the inverse of the product of the others: it goes to
  -- the entry before, and the last entry's shelves hold zeros.
  abbrev pub draw_sheet : ℕ → List ℕ → List ℕ
  draw_sheet i sheet = zeroed K.degree i (put_before i (times K (product_at K.degree i sheet) (denominator_at K.degree i sheet)) sheet)

  -- A put adds an entry.
  abbrev pub after_put : ℕ → ℕ → List ℕ → List ℕ → List ℕ → After
  after_put capacity count sheet num den =
      let r = first_no (put_asked capacity count sheet num den) in
      record { refusal = r; report = 0; phase = Open; count = granted r (count + 1) count; sheet = granted r (put_sheet K.degree count sheet num den) sheet; out = [] }

  -- A close inverts the product of all denominators, with one inversion.
  abbrev pub after_close : ℕ → ℕ → List ℕ → ℕ → After
  after_close capacity count sheet scratch =
      let r = first_no (close_asked capacity count sheet scratch) in
      record {
        refusal = r;
        report = granted r (inversion_steps K.degree) 0;
        phase = granted r Closed Open;
        count = count;
        sheet = granted r (close_sheet count sheet) sheet;
        out = [];
      }

  -- A draw removes the last entry and gives its numerator times the inverse of its denominator.
  abbrev pub after_draw : ℕ → ℕ → List ℕ → List ℕ → ℕ → After
  after_draw capacity count sheet out scratch =
      let r = first_no (draw_asked capacity count sheet out scratch) in
      record {
        refusal = r;
        report = 0;
        phase = Closed;
        count = granted r (pred count) count;
        sheet = granted r (draw_sheet (pred count) sheet) sheet;
        out = granted r (times K (numerator_at K.degree (pred count) sheet) (last_inverse (pred count) sheet)) out;
      }
