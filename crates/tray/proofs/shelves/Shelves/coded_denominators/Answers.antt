use Rattle.std.proofs.Common.{ℕ, Bool, true, ◌&&◌, refl, ◌∙◌, arith, rules}
use Rattle.std.proofs.lemmas.Iterator.{YieldsList-from_range}
use Rattle.std.proofs.lemmas.Iterator.Consumers.{fold_from_yields_List}
use Rattle.field.specs.Meaning.{all_codes}
use Rattle.traylaw.specs.Calculus.{calculus}
use Rattle.traylaw.specs.Sheets.{denominator_at}
use Rattle.tray.proofs.Closings.{coded_passing}
use Rattle.tray.proofs.shelves.Shelves.coded_denominators.Goals as goal

pub returns : goal.returns
returns g c =
    let shelves = c.args.self.now in
    let coded : ℕ → Bool = λ i. all_codes g.F.Field.arithmetic.size (denominator_at shelves.p i shelves.sheet.now) in
    fold_from_yields_List _ (λ (all : Bool) (i : ℕ). all && coded i) true c.fold.result c.fold.ensures.ran (YieldsList-from_range 0 c.args.n c.args.n refl (omega arith)) (λ a x b q k. search rules)
    ∙ coded_passing (calculus g.F.Field.arithmetic g.F.Field.recip shelves.p) shelves.sheet.now c.args.n
