use Rattle.std.proofs.Common.{◌≡◌, ℕ, ◌<◌, cond, length, get_or}
use Rattle.window.proofs.choice.Choice.select.Given as goal

abbrev pub invariant-loop-k : goal.invariant-loop-k
invariant-loop-k g l = (length l.x-items ≡ g.row.N) × ((k : ℕ) → k < l.k → get_or l.x-items k 0 ≡ cond l.self (get_or l.a k 0) (get_or l.b k 0))
