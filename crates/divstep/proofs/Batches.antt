-- A batch of m steps on lists is m single steps, for m up to 16.
-- Main results: `jump_is`, and `jump_more`, the same for a loop over batches; `codes_pair`, that two lists of codes are a `Pair`.
use Rattle.std.proofs.Common.{◌≡◌, ℕ, ◌+◌, ◌<◌, ◌≤◌, Bool, List, length, get_or, ℤ, sym, refl, ap, ◌∙◌, subst, ap₂, add-zero, arith}
use Rattle.field.specs.Rings.{Operations, CommutativeRing}
use Rattle.field.specs.Meaning.{Arithmetic, Code, ArithmeticLaws, coded}
use Rattle.field.specs.Convolution.{at}
use Rattle.field.proofs.Codes.{coded_ring, code_normal}
use Rattle.field.proofs.Tables.{length_tabulate, get_d_tabulate, tabulate_is}
use Rattle.divstep.specs.Batches.{row_at, row_times, window, jump}
use Rattle.divstep.specs.Laws.{Pair}
use Rattle.divstep.specs.Steps.{State, lists, begins, steps}
use Rattle.divstep.proofs.Series.{row, row_is}
use Rattle.divstep.proofs.Runs.{run, Near, NormalState, Carried, Joined, run_near, run_normal, run_applied, run_composed}
use Rattle.divstep.proofs.Lists.{Sized, sized, look, looks, normals_from}

module _ {C : Type 0} {O : Operations C} (R : CommutativeRing O) (nonzero : C → Bool) (n i m : ℕ) (δ : ℤ) (f g : List C) (pair : Pair O f g) (enough : i + m ≤ n) (short : m ≤ 16) where
  -- before the batch, after it, and the batch on the first sixteen coefficients
  s : State (List C)
  s = steps (lists O) nonzero i (begins O n δ f g)

  t : State (List C)
  t = steps (lists O) nonzero (i + m) (begins O n δ f g)

  b : State (List C)
  b = steps (lists O) nonzero m (begins O 16 s.δ (window O s.f) (window O s.g))

  -- the same steps on the whole of f and g
  whole : State (ℕ → C)
  whole = run O nonzero m s.δ (at O s.f) (at O s.g)

  size_s : Sized (length f) (n + 1) s
  unfolding s
  size_s = sized O nonzero n i δ f g pair.long

  size_t : Sized (length f) (n + 1) t
  unfolding t
  size_t = sized O nonzero n (i + m) δ f g pair.long

  look_s : look O s ≡ run O nonzero i δ (at O f) (at O g)
  unfolding s
  look_s = looks R nonzero n i δ f g pair.long (omega arith)

  normal_s : NormalState O (look O s)
  normal_s = subst (NormalState O) (sym look_s) (run_normal R nonzero i δ (at O f) (at O g) pair.normal_f pair.normal_g)

  -- the batch has the matrix of the whole
  near : Near O 0 (look O b) whole
  unfolding b whole
  near =
      subst (λ x. Near O 0 x (run O nonzero m s.δ (at O s.f) (at O s.g))) (sym (looks R nonzero 16 m s.δ (window O s.f) (window O s.g) (length_tabulate 16 _ ∙ sym (length_tabulate 16 _)) short))
      (run_near O nonzero m s.δ _ _ _ _ (λ k h. get_d_tabulate 16 (at O s.f) O.zero k (omega arith)) (λ k h. get_d_tabulate 16 (at O s.g) O.zero k (omega arith)))

  joined : Joined O (look O s) whole (look O t)
  unfolding whole t
  joined =
      subst (Joined O (look O s) (run O nonzero m s.δ (at O s.f) (at O s.g))) (sym (looks R nonzero n (i + m) δ f g pair.long enough))
      (subst (λ x. Joined O x (run O nonzero m x.δ x.f x.g) (run O nonzero (i + m) δ (at O f) (at O g))) (sym look_s) (run_composed R nonzero i m δ (at O f) (at O g) pair.normal_f pair.normal_g))

  carried : Carried O (at O s.f) (at O s.g) m whole
  unfolding whole
  carried = run_applied R nonzero m s.δ (at O s.f) (at O s.g) normal_s.of_f normal_s.of_g

  upper : (x y : List C) (k : ℕ) → row O whole.u whole.v (at O x) (at O y) k ≡ row_at O b.u b.v x y k
  upper x y k = ap₂ (λ c d. row O c d (at O x) (at O y) k) (sym near.of_u) (sym near.of_v) ∙ sym (row_is O b.u b.v x y k)

  lower : (x y : List C) (k : ℕ) → row O whole.q whole.r (at O x) (at O y) k ≡ row_at O b.q b.r x y k
  lower x y k = ap₂ (λ c d. row O c d (at O x) (at O y) k) (sym near.of_q) (sym near.of_r) ∙ sym (row_is O b.q b.r x y k)

  f_is : t.f ≡ row_times O m b.u b.v s.f s.g
  f_is = tabulate_is _ _ t.f O.zero (size_t.of_f ∙ sym size_s.of_f) (λ k h. ap (λ l. l k) joined.of_f ∙ carried.of_f k (k + m) refl ∙ upper s.f s.g (k + m))

  g_is : t.g ≡ row_times O m b.q b.r s.f s.g
  g_is = tabulate_is _ _ t.g O.zero (size_t.of_g ∙ sym size_s.of_f) (λ k h. ap (λ l. l k) joined.of_g ∙ carried.of_g k (k + m) refl ∙ lower s.f s.g (k + m))

  upper_is : (c x y : List C) → length c ≡ length x → ((k : ℕ) → at O c k ≡ row O whole.u whole.v (at O x) (at O y) k) → c ≡ row_times O 0 b.u b.v x y
  upper_is c x y h e = tabulate_is _ _ c O.zero h (λ k l. e k ∙ upper x y k ∙ ap (row_at O b.u b.v x y) (sym (add-zero k)))

  lower_is : (c x y : List C) → length c ≡ length x → ((k : ℕ) → at O c k ≡ row O whole.q whole.r (at O x) (at O y) k) → c ≡ row_times O 0 b.q b.r x y
  lower_is c x y h e = tabulate_is _ _ c O.zero h (λ k l. e k ∙ lower x y k ∙ ap (row_at O b.q b.r x y) (sym (add-zero k)))

  pub jump_is : jump O nonzero m (steps (lists O) nonzero i (begins O n δ f g)) ≡ steps (lists O) nonzero (i + m) (begins O n δ f g)
  unfolding jump b s t
  jump_is =
      let δ_is = joined.of_δ ∙ sym near.of_δ in
      let u_is = upper_is t.u s.u s.q (size_t.of_u ∙ sym size_s.of_u) joined.of_u in
      let v_is = upper_is t.v s.v s.r (size_t.of_v ∙ sym size_s.of_v) joined.of_v in
      let q_is = lower_is t.q s.u s.q (size_t.of_q ∙ sym size_s.of_u) joined.of_q in
      let r_is = lower_is t.r s.v s.r (size_t.of_r ∙ sym size_s.of_v) joined.of_r in
      sym (λ j. record { δ = δ_is j; f = f_is j; g = g_is j; u = u_is j; v = v_is j; q = q_is j; r = r_is j })

  -- one more batch
  pub jump_more : (a : State (List C)) → a ≡ steps (lists O) nonzero i (begins O n δ f g) → jump O nonzero m a ≡ steps (lists O) nonzero (i + m) (begins O n δ f g)
  jump_more a e = ap (jump O nonzero m) e ∙ jump_is

pub codes_pair : {A : Arithmetic} (laws : ArithmeticLaws A) (f g : List ℕ) → length f ≡ length g → ((k : ℕ) → k < length f → Code A (get_or f k 0)) → ((k : ℕ) → k < length g → Code A (get_or g k 0)) → Pair (coded A) f g
unfolding coded
codes_pair laws f g long cf cg = record {
  long = long;
  normal_f = normals_from (coded_ring laws) f (λ k l. code_normal laws _ (cf k l));
  normal_g = normals_from (coded_ring laws) g (λ k l. code_normal laws _ (cg k l));
}
