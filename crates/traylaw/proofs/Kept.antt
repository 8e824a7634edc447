-- After every run a tray that is not burnt holds what its calls tell, and the calls balance.
-- Main results: `run_held`; `stood_before`, how the tray stood before a call; `balanced`.
use Rattle.std.proofs.Common.{◌≡◌, ℕ, ◌+◌, ◌≤◌, min, List, [], ◌∷◌, length, take, drop, replicate, Some, None, Option, sym, refl, ap, ◌∙◌, arith}
use Rattle.std.proofs.lemmas.List.{length-map, length-append, length-replicate, length-take}
use Rattle.std.proofs.lemmas.Bool.{ltb-true, leb-true}
use Rattle.refusal.specs.declared.Refusal.{Refusal}
use Rattle.refusal.specs.Questions.{first_no}
use Rattle.traylaw.specs.Calculus.{Calculus, Lawful}
use Rattle.traylaw.specs.Sheets.{room, clear_sheet}
use Rattle.traylaw.specs.Effects.{Phase, Phase.Burnt, granted, open_asked, take_back_asked, draw_asked}
use Rattle.traylaw.specs.Runs.{Call, Call.put, Call.take_back, Call.close, Call.draw, Call.burn, Event, Entry, holding, told, Tray, effect, Step, Run, Run.opened, Run.then}
use Rattle.traylaw.specs.Law.{accepted, is_put, is_take_back, is_draw}
use Rattle.traylaw.proofs.Questions.{some_none, yes, each_yes}
use Rattle.traylaw.proofs.Rows.{entry_of}
use Rattle.traylaw.proofs.Held.{Held, open_closed, moved, kept, step_live}

module _ (K : Calculus) (capacity : ℕ) where
  other_entries : {es es2 : List Entry} {ph : Phase} {c : ℕ} {u : List ℕ} → es2 ≡ es → Held K capacity es ph c u → Held K capacity es2 ph c u
  other_entries p h = record {
    rows = h.rows;
    entries = h.entries ∙ sym p;
    fit = h.fit;
    size = h.size;
    counted = h.counted;
    within = h.within;
    low = h.low;
    stands = h.stands;
    ready = h.ready;
  }

  open_length : (sheet : List ℕ) (r : Option Refusal) → first_no (open_asked K.degree capacity sheet) ≡ r → r ≡ None → length (take (room K.degree capacity) (granted r (clear_sheet K.degree capacity sheet) sheet)) ≡ room K.degree capacity
  open_length sheet (Some x) e n = absurd (some_none n)
  open_length sheet None e n =
      let q = each_yes (open_asked K.degree capacity sheet) e in
      let h : room K.degree capacity ≤ length sheet = leb-true _ _ (yes _ _ q.1.1.0) in
      length-take (room K.degree capacity) _
      ∙ omega (arith, length-append (replicate (min (room K.degree capacity) (length sheet)) 0) (drop (room K.degree capacity) sheet), length-replicate {A = ℕ} (min (room K.degree capacity) (length sheet)) 0)

  pub held_count : {es : List Entry} {ph : Phase} {c : ℕ} {u : List ℕ} → Held K capacity es ph c u → c ≡ length es
  held_count {es} h = h.counted ∙ sym (length-map h.rows entry_of) ∙ ap length h.entries

  -- the entries before and after a call
  change : (c : Call) (r : Option Refusal) (count : ℕ) (sheet : List ℕ) (es : List Entry) → (effect K capacity count sheet c).refusal ≡ r → ((effect K capacity count sheet c).phase ≡ Burnt → ⊥) → count ≡ length es →
      granted r (is_put c) 0 + length es ≡ granted r (is_take_back c) 0 + granted r (is_draw c) 0 + length (holding c r es)
  change c (Some x) count sheet es e b k = omega arith
  change (put num den) None count sheet es e b k = omega arith
  change take_back None count sheet [] e b k =
      let q = each_yes (take_back_asked K.degree capacity count sheet) e in
      omega (arith, ltb-true 0 count (yes _ _ q.1.0))
  change take_back None count sheet (x ∷ es) e b k = omega arith
  change (close scratch) None count sheet es e b k = omega arith
  change (draw out scratch) None count sheet [] e b k =
      let q = each_yes (draw_asked K capacity count sheet out scratch) e in
      omega (arith, ltb-true 0 count (yes _ _ q.1.1.1.0))
  change (draw out scratch) None count sheet (x ∷ es) e b k = omega arith
  change burn None count sheet es e b k = absurd (b refl)

module _ {K : Calculus} (L : Lawful K) (capacity : ℕ) where
  run_held : {h : List Event} {t : Tray} → Run K capacity h t → (t.phase ≡ Burnt → ⊥) → Held K capacity (told h) t.phase t.count t.used
  run_held (opened o) b = record {
    rows = [];
    entries = refl;
    fit = tt;
    size = ap length o.used ∙ open_length K capacity o.sheet _ refl o.accepted;
    counted = o.count;
    within = omega arith;
    low = _;
    stands = refl;
    ready = λ k. absurd (open_closed (sym o.phase ∙ k));
  }
  run_held (then {was} {now} {e} {before} r s) b =
      let h = run_held r (step_live s) in
      let k = kept L capacity (told before) was.phase was.count was.used s.sheet h s.shows e.call s.allowed (λ x. b (s.phase ∙ x)) in
      other_entries K capacity (ap (λ x. holding e.call x (told before)) s.refusal) (moved K capacity s.phase s.count s.used k)

  -- how the tray stood before a call
  pub record Before (before : List Event) (e : Event) (now : Tray) : Type 0 where
    pub was : Tray
    pub run : Run K capacity before was
    pub step : Step K capacity was e now
    pub holds : Held K capacity (told before) was.phase was.count was.used

  pub stood_before : {e : Event} {before : List Event} {now : Tray} → Run K capacity (e ∷ before) now → Before before e now
  stood_before (then {was} {now} {e} {before} r s) = record { was = was; run = r; step = s; holds = run_held r (step_live s) }

  pub balanced : {h : List Event} {t : Tray} → Run K capacity h t → (t.phase ≡ Burnt → ⊥) → accepted is_put h ≡ accepted is_take_back h + accepted is_draw h + length (told h)
  balanced (opened o) b = refl
  balanced (then {was} {now} {e} {before} r s) b =
      let h = run_held r (step_live s) in
      let k = change K capacity e.call e.refusal was.count s.sheet (told before) (sym s.refusal) (λ x. b (s.phase ∙ x)) (held_count K capacity h) in
      omega (arith, balanced r (step_live s), k)
