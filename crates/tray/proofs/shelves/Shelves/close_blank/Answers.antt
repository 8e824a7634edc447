use Rattle.std.proofs.Common.{◌≡◌, ◌+◌, ◌-◌, take, Some, ap, arith}
use Rattle.traylaw.specs.Calculus.{Calculus, calculus}
use Rattle.traylaw.specs.Effects.{product}
use Rattle.traylaw.proofs.Lawful.{lawful}
use Rattle.tray.proofs.Erasing.{closed_as_defined}
use Rattle.tray.proofs.shelves.Shelves.close_blank.Goals as goal

pub returns-clause-sheet_holds_products : goal.returns-clause-sheet_holds_products
returns-clause-sheet_holds_products g c =
    let shelves = c.args.self.now in
    let K : Calculus = calculus g.F.Field.arithmetic g.F.Field.recip shelves.p in
    let L = lawful g.F.Field.arithmetic g.met.F.Field.lawful g.F.Field.recip g.met.F.Field.inverts shelves.p shelves.degree_least in
    let all : c.args.count - 1 + 1 ≡ c.args.count = omega arith in
    let inverse = take shelves.p c.in-Some.inverse in
    let found : K.inverse (product K c.args.count shelves.sheet.now) ≡ Some inverse = cc (c.in-Some.ensures, ap (λ n. product K n shelves.sheet.now) all) in
    closed_as_defined L shelves.capacity shelves.sheet.now shelves.long c.args.count c.requires.some c.requires.within inverse c.write_products.new.self.sheet.now c.put_on.new.self.sheet.now found
    (cc) (cc)
