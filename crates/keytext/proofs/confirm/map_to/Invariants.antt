use Rattle.std.proofs.Common.{take}
use Rattle.std.specs.List.{AllZip}
use Rattle.keytext.proofs.confirm.map_to.Given as goal

abbrev pub invariant-loop-k : goal.invariant-loop-k
invariant-loop-k g l = AllZip (λ x y. goal.F-post g l.change x y) (take l.k l.a) (take l.k l.out)
