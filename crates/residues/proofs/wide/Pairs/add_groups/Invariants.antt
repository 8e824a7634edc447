use Rattle.std.proofs.Common.{◌≡◌, ℕ, ◌*◌, ◌%◌, get_or, take, drop}
use Rattle.std.specs.Iterator.Adapters.{enumerate_source, enumerate_count}
use Rattle.std.specs.Slice.Iter.{chunks_rest, chunks_size}
use Rattle.residues.specs.declared.wide.TheConstants.{GROUP}
use Rattle.residues.specs.Sums.{nat_coef}
use Rattle.residues.proofs.wide.Pairs.add_groups.Given as goal

-- the groups so far are in
abbrev pub invariant-loop-i : goal.invariant-loop-i
invariant-loop-i g l = record {
  size : chunks_size (enumerate_source l.i-iterator) ≡ GROUP;
  rest : chunks_rest (enumerate_source l.i-iterator) ≡ drop (GROUP * enumerate_count l.i-iterator) l.rows;
  sums : (k : ℕ) → get_or l.sums k 0 ≡ nat_coef g.row.Q (take (GROUP * enumerate_count l.i-iterator) l.rows) l.self.b.now k % g.row.Q;
}
