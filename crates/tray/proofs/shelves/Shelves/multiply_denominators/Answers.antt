use Rattle.std.proofs.Common.{◌≡◌, sym, subst, ◌∙◌}
use Rattle.traylaw.specs.Calculus.{Calculus, calculus, Polynomial}
use Rattle.traylaw.specs.Sheets.{denominator_at}
use Rattle.traylaw.proofs.Lawful.{lawful}
use Rattle.tray.proofs.Closings.{product_one, denominator_is}
use Rattle.tray.proofs.shelves.Shelves.multiply_denominators.Goals as goal

pub loop-i-init : goal.loop-i-init
loop-i-init g c =
    let shelves = c.args.self.now in
    let sheet = shelves.sheet.now in
    let K : Calculus = calculus g.F.Field.arithmetic g.F.Field.recip shelves.p in
    let L = lawful g.F.Field.arithmetic g.met.F.Field.lawful g.F.Field.recip g.met.F.Field.inverts shelves.p shelves.degree_least in
    let first = denominator_is K sheet shelves.capacity c.args.n 0 shelves.long c.requires.within c.requires.some c.requires.codes_denominators in
    let is : c.copy_from_slice.new.self ≡ denominator_at shelves.p 0 sheet = c.copy_from_slice.ensures.after ∙ c.shelf.ensures.on_shelf in
    record { multiplied = is ∙ sym (product_one K sheet L first); polynomial = subst (Polynomial K) (sym is) first }

pub times_denominator-requires-clause-denominator : goal.times_denominator-requires-clause-denominator
times_denominator-requires-clause-denominator g c =
    let shelves = c.args.self.now in
    let K : Calculus = calculus g.F.Field.arithmetic g.F.Field.recip shelves.p in
    denominator_is K shelves.sheet.now shelves.capacity c.args.n c.loop-i.i shelves.long c.requires.within c.loop-i-test.true c.requires.codes_denominators
