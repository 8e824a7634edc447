use Rattle.std.proofs.Common.{rules, get_or}
use Rattle.steps.proofs.Made.{made_same}
use Rattle.steps.proofs.apply.first_codes.Goals as goal

pub returns : goal.returns
returns c = made_same _ (λ k. get_or c.args.a.now k 0) _ (λ k x q e. search rules) 16 _ c.from_fn.ensures.items
