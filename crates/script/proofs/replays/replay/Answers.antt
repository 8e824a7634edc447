use Rattle.std.proofs.Common.{◌≤◌, length, vec_items, ◌∙◌, arith}
use Rattle.std.proofs.lemmas.Result.{IfOk-at_ok}
use Rattle.traylaw.specs.Calculus.{calculus}
use Rattle.traylaw.proofs.Lawful.{lawful}
use Rattle.script.specs.Events.{tray_of}
use Rattle.script.specs.Replays.{Performed}
use Rattle.script.proofs.Performances.{replayed}
use Rattle.script.proofs.replays.replay.Goals as goal

pub returns-clause-runs : goal.returns-clause-runs
returns-clause-runs g c =
    let A = g.F.Field.arithmetic in
    let recip = g.F.Field.recip in
    let p = c.args.p in
    let q = c.args.capacity in
    let tray = c.in_ok-tray.ensures.tray_empty in
    let did = c.perform_all-state.ensures in
    let state = c.perform_all-state.result.0 in
    let sheet = c.perform_all-state.new.sheet in
    let two : 2 ≤ p = omega (arith, c.in_ok-tray.tray.degree_least, tray.0) in
    let performed : Performed (calculus A recip p) q (length c.args.sheet.now) c.args.script.now (vec_items c.in_ok-answers.field-0) (tray_of state sheet) =
    rw (tray.0, tray.1, c.open.auto.sheet) at (IfOk-at_ok _ c.in_ok-answers.was did.performed) in
    replayed (calculus A recip p) (lawful A g.met.F.Field.lawful recip g.met.F.Field.inverts p two) q (length c.args.sheet.now) c.args.script.now _ state sheet
    (did.degree ∙ tray.0) (did.capacity ∙ tray.1) (c.perform_all-state.auto.sheet ∙ c.open.auto.sheet) c.burn-left.ensures.entries_left performed
