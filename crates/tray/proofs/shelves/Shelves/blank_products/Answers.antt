use Rattle.std.proofs.Common.{◌≡◌, ℕ, ◌*◌, ◌+◌, Bool, true, ◌&&◌, ◌==◌, replicate, refl, sym, ap, ◌∙◌, arith, rules}
use Rattle.std.specs.List.{list_all}
use Rattle.std.proofs.lemmas.Iterator.{YieldsList-from_range}
use Rattle.std.proofs.lemmas.Iterator.Consumers.{fold_from_yields_List}
use Rattle.traylaw.specs.Sheets.{product_at}
use Rattle.tray.proofs.Tests.{passing, passes, zeros_are}
use Rattle.tray.proofs.Places.{shelf_within, shelf_long}
use Rattle.tray.proofs.shelves.Shelves.blank_products.Goals as goal

pub returns : goal.returns
returns c = λ e k h.
    let shelves = c.args.self.now in
    let p = shelves.p in
    let sheet = shelves.sheet.now in
    let blank : ℕ → Bool = λ i. list_all (λ x. x == 0) (product_at p i sheet) in
    let is : c.fold.result ≡ passing blank c.args.n =
    fold_from_yields_List _ (λ (all : Bool) (i : ℕ). all && blank i) true c.fold.result c.fold.ensures.ran (YieldsList-from_range 0 c.args.n c.args.n refl (omega arith)) (λ a x b q k. search rules) in
    let long = shelf_long p (3 * k + 2) sheet (omega (arith, shelf_within p shelves.capacity (3 * k + 2) (omega arith))) in
    zeros_are (product_at p k sheet) (passes blank c.args.n k h (sym is ∙ e)) ∙ ap (λ n. replicate n 0) long
