-- A script that is performed is a run, with a burn at its end.
-- Main results: `again`, one call more; `replayed`, the whole script.
use Rattle.std.proofs.Common.{◌≡◌, ℕ, ◌+◌, List, [], ◌∷◌, ◌++◌, length, take, vec_items, Option, Result, sym, refl, ap, ◌∙◌, inl, inr, arith}
use mathlib.Core.List.{reverse-append}
use Rattle.std.proofs.lemmas.List.{take_all, length-take}
use Rattle.std.proofs.lemmas.Result.{IfOk-at_ok}
use Rattle.std.specs.declared.alloc.AllocError.{AllocError}
use Rattle.field.specs.Meaning.{Arithmetic}
use Rattle.traylaw.specs.Calculus.{Calculus, calculus, Lawful}
use Rattle.traylaw.specs.Sheets.{room}
use Rattle.traylaw.specs.Effects.{Phase.Burnt, after_burn}
use Rattle.traylaw.specs.Runs.{Event, Tray, Opened, laid, Step, Run, Run.opened, Run.then}
use Rattle.traylaw.proofs.Law.{law}
use Rattle.script.specs.declared.scripts.Call.{Call}
use Rattle.script.specs.declared.scripts.Answer.{Answer}
use Rattle.script.specs.declared.scripts.Replay.{Replay}
use Rattle.script.specs.declared.scripts.Outcome.{Outcome}
use Rattle.script.specs.declared.perform.State.{State}
use Rattle.script.specs.declared.perform.State.TheVariants.{Open, Closed}
use Rattle.script.specs.Events.{call_of, event_of, tray_of, degree_of, capacity_of, Turn, TurnOf}
use Rattle.script.specs.Replays.{Replays, Replays.none, Replays.made as was_made, Replays.skipped, Notes, Performed, burn_of, Replayed}

used_of : (s : State) (sheet : List ℕ) (p q : ℕ) → degree_of s ≡ p → capacity_of s ≡ q → (tray_of s sheet).used ≡ take (room p q) sheet
used_of (Open t) sheet p q e f = cc
used_of (Closed t) sheet p q e f = cc

not_burnt : (s : State) (sheet : List ℕ) → (tray_of s sheet).phase ≡ Burnt → ⊥
not_burnt (Open t) sheet e = cc
not_burnt (Closed t) sheet e = cc

module _ (K : Calculus) (q n : ℕ) where
  one_more : {cs : List Call} {bs : List Answer} {es : List Event} {was : Tray} → Replays K q n cs bs es was → (c : Call) (a : Answer) (now : Tray) →
      Turn K q was (call_of c) n a.outcome now → take (room K.degree q) (vec_items a.sheet) ≡ now.used →
      (fs : List Event) × Replays K q n (c ∷ cs) (a ∷ bs) fs now
  one_more {es = es} r c a now (inl m) s = (event_of (call_of c) n a.outcome ∷ es, was_made r m refl s)
  one_more {es = es} r c a now (inr k) s = (es, skipped r k s)

  run_of : {cs : List Call} {bs : List Answer} {es : List Event} {t : Tray} → Replays K q n cs bs es t → Run K q es t
  run_of (none o) = opened o
  run_of (was_made r m e s) = then (run_of r) (rw e m.step)
  run_of (skipped r k s) = rw k.same (run_of r)

  -- before the first call
  pub started : (t : Tray) (answers : List Answer) → Opened K q t → answers ≡ [] → Performed K q n [] answers t
  started t answers o e = rw e (record { events = []; replays = none o })

module _ (A : Arithmetic) (recip : ℕ → Option ℕ) (p q n : ℕ) where
  pub again : (script : List Call) (i : ℕ) (c : Call) (before after : List Answer) (s t : State) (was now : List ℕ) (came : Result Outcome AllocError) →
      take (i + 1) script ≡ take i script ++ c ∷ [] → degree_of s ≡ p → capacity_of s ≡ q → length was ≡ n →
      Performed (calculus A recip p) q n (take i script) before (tray_of s was) → TurnOf (calculus A recip) s was (call_of c) came t now → Notes came now before after →
      Performed (calculus A recip p) q n (take (i + 1) script) after (tray_of t now)
  again script i c before after s t was now came cut ep eq en P M N =
      let K : Calculus = calculus A recip p in
      let a = N.answer in
      let turn : Turn K q (tray_of s was) (call_of c) n a.outcome (tray_of t now) = rw (ep, eq, en) at (IfOk-at_ok _ N.told M.turn) in
      let shown = ap (take (room p q)) N.shown ∙ sym (used_of t now p q (M.degree ∙ ep) (M.capacity ∙ eq)) in
      let more = one_more K q n P.replays c a (tray_of t now) turn shown in
      rw (cut, N.noted) (record { events = more.0; replays = simp reverse-append more.1 })

-- the burn at the end
module _ (K : Calculus) (q : ℕ) (was : Tray) (sheet : List ℕ) (used : was.used ≡ take (room K.degree q) sheet) (live : was.phase ≡ Burnt → ⊥) where
  ashes : Tray
  ashes = record { phase = Burnt; count = 0; used = laid K q was.used (after_burn K.degree q was.count sheet).sheet }

  burns : (n left : ℕ) → length sheet ≡ n → left ≡ was.count → Step K q was (burn_of n left) ashes
  unfolding ashes
  burns n left l e = record {
    sheet = sheet;
    lent = sym l;
    shows = sym (ap (take (length sheet)) used ∙ take_all (length sheet) (take (room K.degree q) sheet) (omega (arith, length-take (room K.degree q) sheet)));
    allowed = live;
    refusal = refl;
    report = e;
    out = refl;
    phase = refl;
    count = refl;
    used = refl;
  }

pub replayed : (K : Calculus) → Lawful K → (q n : ℕ) (script : List Call) (done : Replay) (s : State) (sheet : List ℕ) → degree_of s ≡ K.degree → capacity_of s ≡ q → length sheet ≡ n →
    done.left ≡ (tray_of s sheet).count → Performed K q n script (vec_items done.answers) (tray_of s sheet) → Replayed K q n script done
replayed K L q n script done s sheet ep eq l e P =
    let used = used_of s sheet K.degree q ep eq in
    let live = not_burnt s sheet in
    let run = then (run_of K q n P.replays) (burns K q (tray_of s sheet) sheet used live n done.left l e) in
    record {
      events = P.events;
      tray = tray_of s sheet;
      replays = P.replays;
      end = ashes K q (tray_of s sheet) sheet used live;
      run = run;
      law = law K L;
      balance = (law K L).balance (record { capacity = q; before = P.events; event = burn_of n done.left; tray = ashes K q (tray_of s sheet) sheet used live; run = run }) refl;
    }
