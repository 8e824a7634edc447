use Rattle.std.proofs.Common.{◌∙◌, arith, rules}
use Rattle.std.proofs.lemmas.Iterator.{YieldsList-from_slice}
use Rattle.std.proofs.lemmas.Iterator.Consumers.{fold_from_yields_List}
use Rattle.std.proofs.lemmas.Nat.{and_mask}
use Rattle.keytext.proofs.Decimals.{read_on, short_value, long_value}
use Rattle.keytext.proofs.number.number_of.Goals as goal

pub returns-in_default : goal.returns-in_default
returns-in_default c =
    let digits = c.args.digits.now in
    fold_from_yields_List _ read_on 0 c.fold.result c.fold.ensures.ran (YieldsList-from_slice digits cc) (λ a x b q k. search (rules, and_mask x.now 4))
    ∙ short_value digits c.requires (omega arith)

pub returns-in-len5-up : goal.returns-in-len5-up
returns-in-len5-up c = long_value c.args.digits.now c.requires (omega arith)
