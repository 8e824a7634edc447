use Rattle.std.proofs.Common.{◌≡◌}
use Rattle.traylaw.specs.Calculus.{calculus, Polynomial}
use Rattle.traylaw.specs.Effects.{product}
use Rattle.tray.proofs.shelves.Shelves.multiply_denominators.Given as goal

abbrev pub invariant-loop-i : goal.invariant-loop-i
invariant-loop-i g l = record {
  multiplied : l.whole ≡ product (calculus g.F.Field.arithmetic g.F.Field.recip l.self.p) l.i l.self.sheet.now;
  polynomial : Polynomial (calculus g.F.Field.arithmetic g.F.Field.recip l.self.p) l.whole;
}
