use Rattle.std.proofs.Common.{ℕ, Bool, true, ◌&&◌, ◌==◌, ◌∙◌, rules}
use Rattle.std.proofs.lemmas.Iterator.{YieldsList-from_slice}
use Rattle.std.proofs.lemmas.Iterator.Consumers.{fold_from_yields_List}
use Rattle.tray.proofs.Tests.{tested}
use Rattle.tray.proofs.closing.blank.Goals as goal

pub returns : goal.returns
returns c =
    fold_from_yields_List _ (λ (all : Bool) (x : ℕ). all && (x == 0)) true c.fold.result c.fold.ensures.ran (YieldsList-from_slice c.args.list.now cc) (λ a x b q k. search rules)
    ∙ tested (λ x. x == 0) c.args.list.now
