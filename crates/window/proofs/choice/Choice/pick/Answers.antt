use Rattle.std.proofs.Common.{cond, ap, ◌∙◌, arith}
use Rattle.window.proofs.Masks.{picked}
use Rattle.window.proofs.choice.Choice.pick.Goals as goal

pub returns : goal.returns
returns c = picked c.args.a c.args.b (omega arith) (omega arith) c.self.inside.0 c.self.invariant ∙ ap (λ o. cond o c.args.a c.args.b) c.self.view_is
