-- n steps by batches are n single steps, and the half (v, r) of the matrix does not ask for the half (u, q).
-- Main results: `batched_is`, `batched_bare`.
use Rattle.std.proofs.Common.{◌≡◌, ℕ, zero, suc, ◌+◌, ◌*◌, ◌/◌, ◌%◌, ◌≤◌, Bool, List, [], ℤ, refl, ap, ◌∙◌, arith}
use Rattle.field.specs.Rings.{Operations, CommutativeRing}
use Rattle.field.proofs.Tables.{tabulate_none}
use Rattle.divstep.specs.Steps.{State, lists, begins, steps, after}
use Rattle.divstep.specs.Batches.{row_at, row_times, window, applied, jump, jumps, ending, batched}
use Rattle.divstep.specs.Laws.{Pair}
use Rattle.divstep.proofs.Batches.{jump_more}

module _ {C : Type 0} {O : Operations C} (R : CommutativeRing O) (nonzero : C → Bool) (n : ℕ) (δ : ℤ) (f g : List C) (pair : Pair O f g) where
  done : ℕ → State (List C)
  done i = steps (lists O) nonzero i (begins O n δ f g)

  jumps_is : (k : ℕ) → 16 * k ≤ n → jumps O nonzero k (begins O n δ f g) ≡ done (16 * k)
  unfolding jumps steps done
  jumps_is zero h = refl
  jumps_is (suc k) h =
      jump_more R nonzero n (16 * k) 16 δ f g pair (omega arith) (omega arith) _ (jumps_is k (omega arith))
      ∙ ap (λ i. steps (lists O) nonzero i (begins O n δ f g)) (omega arith)

  ending_is : (m i : ℕ) (s : State (List C)) → i + m ≤ n → m ≤ 16 → s ≡ done i → ending O nonzero m s ≡ done (i + m)
  unfolding done
  ending_is zero i s h l e = e ∙ ap (λ j. steps (lists O) nonzero j (begins O n δ f g)) (omega arith)
  ending_is (suc m) i s h l e = jump_more R nonzero n i (suc m) δ f g pair h l s e

  pub batched_is : batched O nonzero n (begins O n δ f g) ≡ after O nonzero n δ f g
  unfolding done
  batched_is =
      let whole : 16 * (n / 16) + n % 16 ≡ n = omega arith in
      ending_is (n % 16) (16 * (n / 16)) _ (omega arith) (omega arith) (jumps_is (n / 16) (omega arith))
      ∙ ap (λ i. steps (lists O) nonzero i (begins O n δ f g)) whole

-- a state without u and q
abbrev pub bare : {C : Type 0} → State (List C) → State (List C)
bare s = record { δ = s.δ; f = s.f; g = s.g; u = []; v = s.v; q = []; r = s.r }

module _ {C : Type 0} (O : Operations C) (nonzero : C → Bool) where
  -- the batch's matrix times nothing
  nothing : (a b : List C) → row_times O 0 a b [] [] ≡ []
  nothing a b = tabulate_none (λ k. row_at O a b [] [] (k + 0))

  jump_bare : (m : ℕ) (s : State (List C)) → jump O nonzero m (bare s) ≡ bare (jump O nonzero m s)
  unfolding jump
  jump_bare m s =
      let b = steps (lists O) nonzero m (begins O 16 s.δ (window O s.f) (window O s.g)) in
      let t = applied O m b s in
      λ i. record { δ = t.δ; f = t.f; g = t.g; u = nothing b.u b.v i; v = t.v; q = nothing b.q b.r i; r = t.r }

  jumps_bare : (k : ℕ) (s : State (List C)) → jumps O nonzero k (bare s) ≡ bare (jumps O nonzero k s)
  unfolding jumps
  jumps_bare zero s = refl
  jumps_bare (suc k) s = ap (jump O nonzero 16) (jumps_bare k s) ∙ jump_bare 16 (jumps O nonzero k s)

  ending_bare : (m : ℕ) (s : State (List C)) → ending O nonzero m (bare s) ≡ bare (ending O nonzero m s)
  ending_bare zero s = refl
  ending_bare (suc m) s = jump_bare (suc m) s

  pub batched_bare : (n : ℕ) (s : State (List C)) → batched O nonzero n (bare s) ≡ bare (batched O nonzero n s)
  batched_bare n s = ap (ending O nonzero (n % 16)) (jumps_bare (n / 16) s) ∙ ending_bare (n % 16) (jumps O nonzero (n / 16) s)
