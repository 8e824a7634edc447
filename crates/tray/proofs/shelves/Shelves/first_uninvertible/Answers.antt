use Rattle.std.proofs.Common.{sym, subst}
use Rattle.traylaw.specs.Calculus.{Calculus, calculus, Polynomial}
use Rattle.tray.proofs.Closings.{denominator_is}
use Rattle.tray.proofs.shelves.Shelves.first_uninvertible.Goals as goal

pub invert-requires-clause-a : goal.invert-requires-clause-a
invert-requires-clause-a g c =
    let K : Calculus = calculus g.F.Field.arithmetic g.F.Field.recip c.args.self.now.p in
    let shelves = c.args.self.now in
    subst (Polynomial K) (sym c.shelf-denominator.ensures.on_shelf)
    (denominator_is K shelves.sheet.now shelves.capacity c.args.n c.loop-i.i shelves.long c.requires.within c.loop-i-test.true c.requires.codes_denominators)
