use Rattle.std.proofs.Common.{length, sym, ap, ◌∙◌, rules}
use Rattle.traylaw.specs.Calculus.{Calculus, calculus}
use Rattle.traylaw.proofs.Lawful.{lawful}
use Rattle.tray.proofs.Drawings.{inverse_first}
use Rattle.tray.proofs.shelves.Shelves.invert_last.Goals as goal

pub returns-then-i-eq0-clause-inverted : goal.returns-then-i-eq0-clause-inverted
returns-then-i-eq0-clause-inverted g c =
    let p = c.args.self.now.p in
    let K : Calculus = calculus g.F.Field.arithmetic g.F.Field.recip p in
    let L = lawful g.F.Field.arithmetic g.met.F.Field.lawful g.F.Field.recip g.met.F.Field.inverts p c.args.self.now.degree_least in
    let sheet = c.args.self.now.sheet.now in
    cc (inverse_first K c.args.i sheet L (record { long = sym (ap length c.shelf-whole.ensures.on_shelf) ∙ c.shelf-whole.ensures.len; codes = search rules }) c.if-i-eq0.true)
