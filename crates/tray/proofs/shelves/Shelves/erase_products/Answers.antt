use Rattle.std.proofs.Common.{◌≡◌, ℕ, ◌+◌, ◌-◌, ap, ◌∙◌, arith, rules}
use Rattle.traylaw.specs.Calculus.{Calculus, calculus}
use Rattle.traylaw.specs.Effects.{with_products}
use Rattle.traylaw.proofs.Lawful.{lawful}
use Rattle.tray.proofs.Closings.{products_none}
use Rattle.tray.proofs.Erasing.{erased_one}
use Rattle.tray.proofs.shelves.Shelves.erase_products.Goals as goal

pub loop-i-preserved : goal.loop-i-preserved
loop-i-preserved g c = record {
  cut = search rules;
  left = λ before long blank is.
      let shelves = c.args.self.now in
      let K : Calculus = calculus g.F.Field.arithmetic g.F.Field.recip shelves.p in
      let L = lawful g.F.Field.arithmetic g.met.F.Field.lawful g.F.Field.recip g.met.F.Field.inverts shelves.p shelves.degree_least in
      let i : ℕ = c.loop-i.i - 1 in
      let last : c.loop-i.i ≡ i + 1 = omega arith in
      cc (c.loop-i.invariant.left before long blank is, ap (λ m. with_products K m before) last, erased_one L shelves.capacity before long i (omega arith) (blank i (omega arith)));
}

pub returns-clause-erased : goal.returns-clause-erased
returns-clause-erased g c = λ before long blank is.
    let K : Calculus = calculus g.F.Field.arithmetic g.F.Field.recip c.args.self.now.p in
    let none : c.loop-i.i ≡ 0 = omega arith in
    c.loop-i.invariant.left before long blank is ∙ ap (λ m. with_products K m before) none ∙ products_none K before
