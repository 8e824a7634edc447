use Rattle.std.proofs.Common.{◌≡◌, ℕ, ◌<◌, ◌≤◌, get_or}
use Rattle.field.specs.Meaning.{coded}
use Rattle.field.proofs.Field.mix.Given as goal

-- mixed below k, and from k on as it was
abbrev pub invariant-loop-k : goal.invariant-loop-k
invariant-loop-k g l =
    let O = coded g.Self.Field.arithmetic in
    ((j : ℕ) → j < l.k → get_or l.a j 0 ≡ O.minus (O.times l.c (get_or l.initial.a j 0)) (O.times l.d (get_or l.b j 0)))
    × ((j : ℕ) → l.k ≤ j → get_or l.a j 0 ≡ get_or l.initial.a j 0)
