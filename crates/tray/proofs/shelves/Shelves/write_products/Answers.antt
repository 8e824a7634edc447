use Rattle.std.proofs.Common.{◌≡◌, ◌+◌, sym, refl, subst, ◌∙◌, arith, rules}
use Rattle.traylaw.specs.Calculus.{Calculus, calculus, Polynomial}
use Rattle.traylaw.specs.Sheets.{denominator_at}
use Rattle.traylaw.specs.Effects.{with_products}
use Rattle.traylaw.proofs.Lawful.{lawful}
use Rattle.tray.proofs.Closings.{product_one, product_more, denominator_is, products_none, products_more}
use Rattle.tray.proofs.Erasing.{denominator_kept}
use Rattle.tray.proofs.shelves.Shelves.write_products.Goals as goal

pub loop-i-init : goal.loop-i-init
loop-i-init g c =
    let shelves = c.args.self.now in
    let sheet = shelves.sheet.now in
    let K : Calculus = calculus g.F.Field.arithmetic g.F.Field.recip shelves.p in
    let L = lawful g.F.Field.arithmetic g.met.F.Field.lawful g.F.Field.recip g.met.F.Field.inverts shelves.p shelves.degree_least in
    let first = denominator_is K sheet shelves.capacity (c.args.n + 1) 0 shelves.long (omega arith) (omega arith) c.requires.codes_denominators in
    let is : c.copy_from_slice.new.self ≡ denominator_at shelves.p 0 sheet = c.copy_from_slice.ensures.after ∙ c.shelf.ensures.on_shelf in
    record {
      cut = record { same_reference = refl; degree = refl; capacity = refl };
      written = sym (products_none K sheet);
      multiplied = is ∙ sym (product_one K sheet L first);
      polynomial = subst (Polynomial K) (sym is) first;
    }

pub times_denominator-requires-clause-denominator : goal.times_denominator-requires-clause-denominator
times_denominator-requires-clause-denominator g c =
    let shelves = c.args.self.now in
    let sheet = shelves.sheet.now in
    let i = c.loop-i.i in
    let K : Calculus = calculus g.F.Field.arithmetic g.F.Field.recip shelves.p in
    let L = lawful g.F.Field.arithmetic g.met.F.Field.lawful g.F.Field.recip g.met.F.Field.inverts shelves.p shelves.degree_least in
    let put : c.put_on.new.self.sheet.now ≡ with_products K (i + 1) sheet = cc (products_more K sheet i) in
    let next = denominator_is K sheet shelves.capacity (c.args.n + 1) (i + 1) shelves.long (omega arith) (omega arith) c.requires.codes_denominators in
    rw (put, c.put_on.ensures.cut.degree, c.loop-i.invariant.cut.degree, denominator_kept L shelves.capacity sheet shelves.long (i + 1) (omega arith)) next

pub loop-i-preserved : goal.loop-i-preserved
loop-i-preserved g c =
    let shelves = c.args.self.now in
    let sheet = shelves.sheet.now in
    let i = c.loop-i.i in
    let K : Calculus = calculus g.F.Field.arithmetic g.F.Field.recip shelves.p in
    let L = lawful g.F.Field.arithmetic g.met.F.Field.lawful g.F.Field.recip g.met.F.Field.inverts shelves.p shelves.degree_least in
    let put : c.put_on.new.self.sheet.now ≡ with_products K (i + 1) sheet = cc (products_more K sheet i) in
    record {
      cut = search rules;
      written = put;
      multiplied = cc (product_more K sheet (i + 1), denominator_kept L shelves.capacity sheet shelves.long (i + 1) (omega arith));
      polynomial = rw (c.put_on.ensures.cut.degree, c.loop-i.invariant.cut.degree) at c.times_denominator.ensures.polynomial;
    }
