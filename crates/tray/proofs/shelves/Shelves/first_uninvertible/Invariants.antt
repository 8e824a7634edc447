use Rattle.std.proofs.Common.{◌≡◌}
use Rattle.traylaw.specs.Calculus.{calculus}
use Rattle.traylaw.specs.Effects.{first_uninvertible}
use Rattle.tray.proofs.shelves.Shelves.first_uninvertible.Given as goal

abbrev pub invariant-loop-i : goal.invariant-loop-i
invariant-loop-i g l = first_uninvertible (calculus g.F.Field.arithmetic g.F.Field.recip l.self.p) l.i l.self.sheet.now ≡ 0
