use Rattle.std.proofs.Common.{◌≡◌, true, map, take}
use Rattle.field.specs.Meaning.{all_codes}
use Rattle.keytext.specs.Lines.{digit}
use Rattle.keytext.proofs.line.read_trits.Given as goal

abbrev pub invariant-loop-k : goal.invariant-loop-k
invariant-loop-k l = (all_codes 3 (take l.k-counter l.out) ≡ true) × (take l.k-counter l.digits ≡ map digit (take l.k-counter l.out))
