use Rattle.std.proofs.Common.{◌≡◌, ◌+◌}
use Rattle.traylaw.specs.Calculus.{calculus, Polynomial}
use Rattle.traylaw.specs.Effects.{product, with_products}
use Rattle.tray.specs.Shelves.{KeepsCut}
use Rattle.tray.proofs.shelves.Shelves.write_products.Given as goal

-- The products so far stand on their shelves, and the next one is at hand.
abbrev pub invariant-loop-i : goal.invariant-loop-i
invariant-loop-i g l = record {
  cut : KeepsCut l.initial.self l.self;
  written : l.self.sheet.now ≡ with_products (calculus g.F.Field.arithmetic g.F.Field.recip l.initial.self.p) l.i l.initial.self.sheet.now;
  multiplied : l.running ≡ product (calculus g.F.Field.arithmetic g.F.Field.recip l.initial.self.p) (l.i + 1) l.initial.self.sheet.now;
  polynomial : Polynomial (calculus g.F.Field.arithmetic g.F.Field.recip l.initial.self.p) l.running;
}
