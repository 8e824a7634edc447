-- A call of a script that is made is a step of the law.
-- Main results: `turned` of any call; `drew` of a draw, told by what it answered.
use Rattle.std.proofs.Common.{◌≡◌, ℕ, List, length, take, MatchResult, Ok, Err, Result, vec_items, unwrap_or, arith}
use Rattle.std.proofs.lemmas.Grind.{common_steps}
use Rattle.std.specs.Result.{result_err}
use Rattle.std.specs.Global.{Vec}
use Rattle.refusal.specs.declared.Refusal.{Refusal}
use Rattle.traylaw.specs.Calculus.{Calculus}
use Rattle.traylaw.specs.Sheets.{room}
use Rattle.traylaw.specs.Effects.{Phase, Phase.Closed as IsClosed, After, after_draw}
use Rattle.traylaw.specs.Runs.{Call as TrayCall, Tray, Allowed, effect}
use Rattle.script.specs.declared.scripts.Outcome.{Outcome}
use Rattle.script.specs.declared.scripts.Outcome.TheVariants.{NotAllowed, Refused, Drawn}
use Rattle.script.specs.Events.{refusal_in, steps_in, quotient_in, output_of, a_draw, Turn}

module _ (K : Calculus) (capacity : ℕ) (phase : Phase) (count : ℕ) (sheet : List ℕ) (c : TrayCall) where
  -- the tray before the call
  abbrev before : Tray
  before = record { phase = phase; count = count; used = take (room K.degree capacity) sheet }

  pub turned : (now : Tray) (left : List ℕ) (o : Outcome) → Allowed c phase → (o ≡ NotAllowed → ⊥) → refusal_in o ≡ (effect K capacity count sheet c).refusal →
      steps_in o ≡ (effect K capacity count sheet c).report → unwrap_or (quotient_in o) (output_of c) ≡ (effect K capacity count sheet c).out →
      now.phase ≡ (effect K capacity count sheet c).phase → now.count ≡ (effect K capacity count sheet c).count →
      now.used ≡ take (room K.degree capacity) left → left ≡ (effect K capacity count sheet c).sheet → length left ≡ length sheet →
      Turn K capacity before c (length sheet) o now
  turned now left o allowed made refusal report out phase-is count-is used left_is long = grind (arith, common_steps)

module _ (K : Calculus) (capacity count : ℕ) (sheet : List ℕ) where
  abbrev does : List ℕ → ℕ → After
  does out scratch = after_draw K capacity count sheet out scratch

  pub drew : (lent out : List ℕ) (m scratch : ℕ) (r : Result Unit Refusal) (o : Outcome) (quotient : Vec ℕ) (p q n : ℕ) (left : List ℕ) → lent ≡ out → m ≡ scratch →
      MatchResult r (λ _. o ≡ Drawn quotient) (λ e. o ≡ Refused e) → result_err r ≡ (does lent m).refusal → vec_items quotient ≡ (does lent m).out →
      p ≡ K.degree → q ≡ capacity → n ≡ (does lent m).count → left ≡ (does lent m).sheet → length left ≡ length sheet →
      Turn K capacity (record { phase = IsClosed; count = count; used = take (room K.degree capacity) sheet }) (a_draw out scratch) (length sheet) o
      (record { phase = IsClosed; count = n; used = take (room p q) left })
  drew lent out m scratch (Ok x) o quotient p q n left lent_is m_is is refusal given degree size counted left_is long = grind (arith, common_steps)
  drew lent out m scratch (Err e) o quotient p q n left lent_is m_is is refusal given degree size counted left_is long = grind (arith, common_steps)
