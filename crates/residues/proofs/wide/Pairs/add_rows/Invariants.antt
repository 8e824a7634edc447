use Rattle.std.proofs.Common.{◌≡◌, ℕ, ◌+◌, ◌*◌, ◌%◌, ◌<◌, ◌≤◌, get_or}
use Rattle.residues.specs.Sums.{pair_sum}
use Rattle.residues.proofs.wide.Pairs.add_rows.Given as goal

abbrev pub invariant-loop-i : goal.invariant-loop-i
invariant-loop-i g l =
    ((j : ℕ) → j < 32 * l.i → get_or l.out j 0 ≡ (get_or l.initial.out j 0 + pair_sum l.rows l.self.numbers.now (190 + j)) % g.row.Q)
    × ((j : ℕ) → 32 * l.i ≤ j → get_or l.out j 0 ≡ get_or l.initial.out j 0)
