use Rattle.std.proofs.Common.{◌≡◌, length, take, vec_items}
use Rattle.traylaw.specs.Calculus.{calculus}
use Rattle.script.specs.Events.{tray_of, degree_of, capacity_of}
use Rattle.script.specs.Replays.{Performed}
use Rattle.script.proofs.replays.perform_all.Given as goal

-- the calls so far, with the answers noted, led to the tray as it is
abbrev pub invariant-loop-call : goal.invariant-loop-call
invariant-loop-call g l = record {
  performed : Performed (calculus g.F.Field.arithmetic g.F.Field.recip (degree_of l.initial.state)) (capacity_of l.initial.state) (length l.initial.sheet) (take l.call-index l.script)
      (vec_items l.answers) (tray_of l.state l.sheet);
  degree : degree_of l.state ≡ degree_of l.initial.state;
  capacity : capacity_of l.state ≡ capacity_of l.initial.state;
}
