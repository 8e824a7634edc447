use Rattle.std.proofs.Common.{◌≡◌, ℕ, ◌<◌, true, get_or}
use Rattle.field.proofs.all_codes.Given as goal

-- each number so far is a code, exactly if `all` says so
abbrev pub invariant-loop-x : goal.invariant-loop-x
invariant-loop-x g l =
    (l.all ≡ true → (k : ℕ) → k < l.x-index → get_or l.a k 0 < g.F.Field.arithmetic.size)
    × (((k : ℕ) → k < l.x-index → get_or l.a k 0 < g.F.Field.arithmetic.size) → l.all ≡ true)
