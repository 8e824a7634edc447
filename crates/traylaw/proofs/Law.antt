-- Every run of calls on a tray keeps the law.
-- Main results: `law`.
use Rattle.std.proofs.Common.{◌≡◌, ℕ, ◌+◌, ◌<◌, ◌≤◌, Bool, true, ltb, ◌↔◌, List, [], ◌∷◌, length, None, Option, sym, refl, ap, ◌∙◌, subst, arith}
use Rattle.std.proofs.lemmas.Bool.{ltb-true, lt-ltb}
use Rattle.refusal.specs.declared.Refusal.{Refusal}
use Rattle.field.specs.Meaning.{all_codes}
use Rattle.traylaw.specs.Calculus.{Calculus, Lawful}
use Rattle.traylaw.specs.Sheets.{room}
use Rattle.traylaw.specs.Runs.{Call.put, Call.take_back, Call.burn, Entry, effect}
use Rattle.traylaw.specs.Law.{Moment, held, Accepted, Refused, OneNo, Law, accepted, is_put, is_take_back, is_draw}
use Rattle.traylaw.proofs.Questions.{at_most, under, equals, passes, and_both, none_no, more_no}
use Rattle.traylaw.proofs.Held.{step_live}
use Rattle.traylaw.proofs.Kept.{held_count, Before, stood_before, balanced}
use Rattle.traylaw.proofs.Draws.{drawn, same}
use Rattle.traylaw.proofs.Closes.{closes, names_first}

-- a refusal is told by the questions
told_by : (r s : Option Refusal) (P : Type 0) → r ≡ s → (s ≡ None → ⊥) ↔ P → (r ≡ None → ⊥) ↔ P
told_by r s P e d = ((λ h. d.0 (λ k. h (e ∙ k))), λ p k. d.1 p (sym e ∙ k))

at_other : (b : Bool) (x y : ℕ) (P : ℕ → Type 0) → x ≡ y → (b ≡ true) ↔ P x → (b ≡ true) ↔ P y
at_other b x y P e d = subst (λ (z : ℕ). (b ≡ true) ↔ P z) e d

an_entry : (n : ℕ) (es : List Entry) → n ≡ length es → (ltb 0 n ≡ true) ↔ (es ≡ [] → ⊥)
an_entry n [] e = ((λ h. absurd (omega (arith, ltb-true 0 n h))), λ h. absurd (h refl))
an_entry n (x ∷ es) e = ((λ h k. let z : ◌≡◌ {A = ℕ} 0 1 = cc in omega arith), λ h. lt-ltb 0 n (omega arith))

module _ {K : Calculus} (L : Lawful K) where
  before_call : (m : Moment K) → Before L m.capacity m.before m.event m.tray
  before_call m = stood_before L m.capacity m.run

  burnt : (m : Moment K) → m.event.call ≡ burn → Accepted m.event × (m.event.report ≡ length (held m))
  burnt m e =
      let b = before_call m in (
        b.step.refusal ∙ ap (λ c. (effect K m.capacity b.was.count b.step.sheet c).refusal) e,
        b.step.report ∙ ap (λ c. (effect K m.capacity b.was.count b.step.sheet c).report) e ∙ held_count K m.capacity b.holds,
      )

  balance : (m : Moment K) → m.event.call ≡ burn → accepted is_put m.before ≡ accepted is_take_back m.before + accepted is_draw m.before + m.event.report
  balance m e =
      let b = before_call m in
      balanced L m.capacity b.run (step_live b.step) ∙ ap (λ k. accepted is_take_back m.before + accepted is_draw m.before + k) (sym (burnt m e).1)

  puts : (m : Moment K) (num den : List ℕ) → m.event.call ≡ put num den → Refused m.event ↔ OneNo
      ((room K.degree m.capacity ≤ m.event.lent)
      ∷ ((length num ≡ K.degree) × (length den ≡ K.degree))
      ∷ ((all_codes K.size num ≡ true) × (all_codes K.size den ≡ true))
      ∷ (length (held m) < m.capacity)
      ∷ [])
  puts m num den e =
      let b = before_call m in
      let n = b.was.count in
      let sheet = b.step.sheet in
      told_by _ _ _ (b.step.refusal ∙ ap (λ x. (effect K m.capacity n sheet x).refusal) e)
      (more_no _ _ _ (at_other _ _ _ (λ k. room K.degree m.capacity ≤ k) (sym b.step.lent) (at_most (room K.degree m.capacity) (length sheet)))
      (more_no _ _ _ (and_both _ _ (equals (length num) K.degree) (equals (length den) K.degree))
      (more_no _ _ _ (and_both _ _ (passes (all_codes K.size num)) (passes (all_codes K.size den)))
      (more_no _ _ _ (at_other _ _ _ (λ k. k < m.capacity) (held_count K m.capacity b.holds) (under n m.capacity)) none_no))))

  takes : (m : Moment K) → m.event.call ≡ take_back → Refused m.event ↔ OneNo ((room K.degree m.capacity ≤ m.event.lent) ∷ (held m ≡ [] → ⊥) ∷ [])
  takes m e =
      let b = before_call m in
      let n = b.was.count in
      let sheet = b.step.sheet in
      told_by _ _ _ (b.step.refusal ∙ ap (λ x. (effect K m.capacity n sheet x).refusal) e)
      (more_no _ _ _ (at_other _ _ _ (λ k. room K.degree m.capacity ≤ k) (sym b.step.lent) (at_most (room K.degree m.capacity) (length sheet)))
      (more_no _ _ _ (an_entry n (held m) (held_count K m.capacity b.holds)) none_no))

pub law : (K : Calculus) → Lawful K → Law K
law K L = record {
  drawn = drawn L;
  same = same L;
  closed = closes L;
  barred = names_first L;
  burnt = burnt L;
  balance = balance L;
  puts = puts L;
  takes = takes L;
}
