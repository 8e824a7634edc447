-- Calls that are answered as defined, one after another, are a run.
-- Main results: `played`.
use Rattle.std.proofs.Common.{◌≡◌, ℕ, List, [], ◌∷◌, ◌++◌, length, take, sym, refl, ap, ◌∙◌, append-nil, arith}
use Rattle.std.proofs.lemmas.List.{take_all, drop_all, length-take}
use Rattle.traylaw.specs.Calculus.{Calculus}
use Rattle.traylaw.specs.Sheets.{room}
use Rattle.traylaw.specs.Effects.{Phase}
use Rattle.traylaw.specs.Runs.{Event, Tray, effect, laid, Step, Run, Run.opened, Run.then}
use Rattle.cases.specs.Trays.{AnswersFrom, Answers, onto}

module _ (K : Calculus) (capacity : ℕ) where
  abbrev pub tray_at : Phase → ℕ → List ℕ → Tray
  tray_at phase count sheet = record { phase = phase; count = count; used = take (room K.degree capacity) sheet }

  relaid : (was now : List ℕ) → length now ≡ length was → take (room K.degree capacity) now ≡ laid K capacity (take (room K.degree capacity) was) now
  relaid was now l =
      let n = room K.degree capacity in
      sym (ap (take n) (ap (λ t. now ++ t) (drop_all (length now) (take n was) (omega (arith, length-take n was))) ∙ append-nil now))

  -- one call, and those after it
  module _ (phase : Phase) (count : ℕ) (sheet : List ℕ) (e : Event) (es : List Event) where
    step_at : AnswersFrom K capacity phase count sheet (e ∷ es) →
        Step K capacity (tray_at phase count sheet) e
        (tray_at (effect K capacity count sheet e.call).phase (effect K capacity count sheet e.call).count (effect K capacity count sheet e.call).sheet)
    step_at a = record {
      sheet = sheet;
      lent = sym a.1;
      shows = sym (take_all (length sheet) (take (room K.degree capacity) sheet) (omega (arith, length-take (room K.degree capacity) sheet)));
      allowed = a.0;
      refusal = sym a.2;
      report = sym a.3;
      out = sym a.4;
      phase = refl;
      count = refl;
      used = relaid sheet (effect K capacity count sheet e.call).sheet (a.5 ∙ sym a.1);
    }

  played_from : (phase : Phase) (count : ℕ) (sheet : List ℕ) (es before : List Event) → Run K capacity before (tray_at phase count sheet) → AnswersFrom K capacity phase count sheet es →
      (t : Tray) × Run K capacity (onto es before) t
  played_from phase count sheet [] before r a = (_, r)
  played_from phase count sheet (e ∷ es) before r a = played_from (effect K capacity count sheet e.call).phase (effect K capacity count sheet e.call).count (effect K capacity count sheet e.call).sheet es (e ∷ before) (then r (step_at phase count sheet e es a)) a.6

  pub played : (sheet : List ℕ) (es : List Event) → Answers K capacity sheet es → (t : Tray) × Run K capacity (onto es []) t
  played sheet es a = played_from _ _ _ es [] (opened (record { sheet = sheet; accepted = a.0; phase = refl; count = refl; used = refl })) a.1
