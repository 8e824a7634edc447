use Rattle.std.proofs.Common.{◌≡◌, ℕ, ◌+◌, ◌-◌, ◌*◌, ◌<◌, get_or, drop}
use Rattle.residues.specs.Sums.{pair_sum}
use Rattle.residues.proofs.wide.Pairs.window.Given as goal

abbrev pub invariant-loop-m : goal.invariant-loop-m
invariant-loop-m g l =
    (k : ℕ) → k < 32 → get_or l.sums k 0 + pair_sum (drop (2 * l.m) l.rows) l.self.numbers.now (190 + (l.base + k) - 2 * l.m) ≡ pair_sum l.rows l.self.numbers.now (190 + (l.base + k))
