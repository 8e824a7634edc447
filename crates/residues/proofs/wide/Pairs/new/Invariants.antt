use Rattle.std.proofs.Common.{◌≡◌, ℕ, ◌+◌, ◌*◌, ◌<◌, ◌≤◌, get_or}
use Rattle.field.specs.Meaning.{code}
use Rattle.residues.specs.Sums.{AtMost}
use Rattle.residues.proofs.wide.Pairs.new.Given as goal

abbrev pub invariant-loop-t : goal.invariant-loop-t
invariant-loop-t g l = record {
  first : (j : ℕ) → j < l.t → get_or l.numbers (2 * (190 + j)) 0 ≡ code g.row.Q (get_or l.b j 0);
  first_later : (j : ℕ) → l.t ≤ j → get_or l.numbers (2 * (190 + j)) 0 ≡ 0;
  second : (j : ℕ) → j < l.t → get_or l.numbers (2 * (191 + j) + 1) 0 ≡ code g.row.Q (get_or l.b j 0);
  second_later : (j : ℕ) → l.t ≤ j → get_or l.numbers (2 * (191 + j) + 1) 0 ≡ 0;
  low_first : (j : ℕ) → j < 190 → get_or l.numbers (2 * j) 0 ≡ 0;
  low_second : (j : ℕ) → j < 191 → get_or l.numbers (2 * j + 1) 0 ≡ 0;
  small : AtMost 4590 l.numbers;
}
