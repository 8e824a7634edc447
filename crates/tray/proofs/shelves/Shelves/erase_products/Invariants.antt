use Rattle.std.proofs.Common.{◌≡◌, ℕ, ◌≤◌, List, length}
use Rattle.traylaw.specs.Calculus.{calculus}
use Rattle.traylaw.specs.Sheets.{room}
use Rattle.traylaw.specs.Effects.{with_products}
use Rattle.tray.specs.Inverses.{Blank}
use Rattle.tray.specs.Shelves.{KeepsCut}
use Rattle.tray.proofs.shelves.Shelves.erase_products.Given as goal

-- the products of the entries that are left still stand on their shelves
abbrev pub invariant-loop-i : goal.invariant-loop-i
invariant-loop-i g l = record {
  cut : KeepsCut l.initial.self l.self;
  left : (before : List ℕ) → room l.initial.self.p l.initial.self.capacity ≤ length before → Blank l.initial.self.p before l.n →
      l.initial.self.sheet.now ≡ with_products (calculus g.F.Field.arithmetic g.F.Field.recip l.initial.self.p) l.n before →
      l.self.sheet.now ≡ with_products (calculus g.F.Field.arithmetic g.F.Field.recip l.initial.self.p) l.i before;
}
