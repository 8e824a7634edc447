use Rattle.std.proofs.Common.{◌≡◌, ◌<◌, ◌≤◌, get_or}
use Rattle.residues.proofs.residue.scan.Given as goal

-- what stands at the place, once it is passed
abbrev pub invariant-loop-k : goal.invariant-loop-k
invariant-loop-k l = (l.place < l.k → l.found ≡ get_or l.table l.place 0) × (l.k ≤ l.place → l.found ≡ 0)
