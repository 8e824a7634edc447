use Rattle.std.proofs.Common.{◌≡◌, ℕ, ◌<◌, ◌≤◌, get_or}
use Rattle.field.specs.Meaning.{code}
use Rattle.residues.proofs.wide.codes.Given as goal

abbrev pub invariant-loop-i : goal.invariant-loop-i
invariant-loop-i g l =
    ((j : ℕ) → j < l.i → get_or l.rows j 0 ≡ code g.row.Q (get_or l.a j 0)) × ((j : ℕ) → l.i ≤ j → get_or l.rows j 0 ≡ 0)
