-- One batch more.
-- Main result: `one_more_jump`.
use Rattle.std.proofs.Common.{◌≡◌, ℕ, ◌+◌, Bool, List, sym, ap, ◌∙◌, add-one}
use Rattle.field.specs.Rings.{Operations}
use Rattle.divstep.specs.Batches.{jump, jumps}
use Rattle.divstep.specs.Steps.{State}

pub one_more_jump : {C : Type 0} (O : Operations C) (nonzero : C → Bool) (n : ℕ) (s t t' : State (List C)) → t ≡ jumps O nonzero n s → t' ≡ jump O nonzero 16 t → t' ≡ jumps O nonzero (n + 1) s
unfolding jumps
one_more_jump O nonzero n s t t' e f = f ∙ ap (jump O nonzero 16) e ∙ ap (λ m. jumps O nonzero m s) (sym (add-one n))
