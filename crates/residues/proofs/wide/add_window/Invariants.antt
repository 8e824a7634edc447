use Rattle.std.proofs.Common.{◌≡◌, ℕ, ◌+◌, ◌%◌, ◌<◌, ◌≤◌, get_or}
use Rattle.residues.proofs.wide.add_window.Given as goal

abbrev pub invariant-loop-l : goal.invariant-loop-l
invariant-loop-l g l =
    ((i : ℕ) → i < l.l → get_or l.window i 0 ≡ (get_or l.initial.window i 0 + get_or l.sums i 0) % g.row.Q)
    × ((i : ℕ) → l.l ≤ i → get_or l.window i 0 ≡ get_or l.initial.window i 0)
