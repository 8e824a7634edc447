-- The laws of division steps on lists, over every commutative ring of coefficients.
-- Main results: `step_laws`.
use Rattle.std.proofs.Common.{◌≡◌, ℕ, ◌+◌, Bool, List, length, ℤ, sym, refl, ◌∙◌, subst, arith}
use Rattle.field.specs.Rings.{Operations, CommutativeRing}
use Rattle.field.specs.Convolution.{at}
use Rattle.divstep.specs.Steps.{after}
use Rattle.divstep.specs.Laws.{Pair, Agree, SameMatrix, Applied, Composed, StepLaws}
use Rattle.divstep.proofs.Series.{row_is}
use Rattle.divstep.proofs.Runs.{run, Near, Carried, Joined, run_near, run_applied, run_composed}
use Rattle.divstep.proofs.Lists.{sized, look, looks, alike}

module _ {C : Type 0} {O : Operations C} (R : CommutativeRing O) (nonzero : C → Bool) where
  local : (m : ℕ) (δ : ℤ) (f g f' g' : List C) → length f ≡ length g → length f' ≡ length g' → Agree O m f f' → Agree O m g g' → SameMatrix (after O nonzero m δ f g) (after O nonzero m δ f' g')
  local m δ f g f' g' h h' ef eg =
      let z = sized O nonzero m m δ f g h in
      let z' = sized O nonzero m m δ f' g' h' in
      let n : Near O 0 (look O (after O nonzero m δ f g)) (look O (after O nonzero m δ f' g')) =
      subst (λ x. Near O 0 x (look O (after O nonzero m δ f' g'))) (sym (looks R nonzero m m δ f g h (omega arith)))
      (subst (Near O 0 _) (sym (looks R nonzero m m δ f' g' h' (omega arith))) (run_near O nonzero m δ (at O f) (at O g) (at O f') (at O g') ef eg)) in
      record {
        δ_is = n.of_δ;
        u_is = alike O _ _ (z.of_u ∙ sym z'.of_u) n.of_u;
        v_is = alike O _ _ (z.of_v ∙ sym z'.of_v) n.of_v;
        q_is = alike O _ _ (z.of_q ∙ sym z'.of_q) n.of_q;
        r_is = alike O _ _ (z.of_r ∙ sym z'.of_r) n.of_r;
      }

  apply : (m : ℕ) (δ : ℤ) (f g : List C) → Pair O f g → Applied O m f g (after O nonzero m δ f g)
  apply m δ f g h =
      let e = looks R nonzero m m δ f g h.long (omega arith) in
      let a = subst (Carried O (at O f) (at O g) m) (sym e) (run_applied R nonzero m δ (at O f) (at O g) h.normal_f h.normal_g) in
      record {
        f_at = λ k. a.of_f k (k + m) refl ∙ sym (row_is O _ _ f g (k + m));
        g_at = λ k. a.of_g k (k + m) refl ∙ sym (row_is O _ _ f g (k + m));
      }

  compose : (n m : ℕ) (δ : ℤ) (f g : List C) → Pair O f g →
      let a = after O nonzero n δ f g in
      Composed O a (after O nonzero m a.δ a.f a.g) (after O nonzero (n + m) δ f g)
  compose n m δ f g h =
      let a = after O nonzero n δ f g in
      let za = sized O nonzero n n δ f g h.long in
      let long : length a.f ≡ length a.g = za.of_f ∙ sym za.of_g in
      let b = after O nonzero m a.δ a.f a.g in
      let zb = sized O nonzero m m a.δ a.f a.g long in
      let t = after O nonzero (n + m) δ f g in
      let zt = sized O nonzero (n + m) (n + m) δ f g h.long in
      let ea = looks R nonzero n n δ f g h.long (omega arith) in
      let eb = looks R nonzero m m a.δ a.f a.g long (omega arith) in
      let et = looks R nonzero (n + m) (n + m) δ f g h.long (omega arith) in
      let j : Joined O (look O a) (look O b) (look O t) =
      subst (λ x. Joined O (look O a) x (look O t)) (sym eb)
      (subst (λ x. Joined O x (run O nonzero m x.δ x.f x.g) (look O t)) (sym ea)
      (subst (Joined O _ _) (sym et) (run_composed R nonzero n m δ (at O f) (at O g) h.normal_f h.normal_g))) in
      record {
        δ_is = j.of_δ;
        f_is = alike O _ _ (zt.of_f ∙ sym (zb.of_f ∙ za.of_f)) j.of_f;
        g_is = alike O _ _ (zt.of_g ∙ sym (zb.of_g ∙ za.of_f)) j.of_g;
        u_at = λ k. j.of_u k ∙ sym (row_is O _ _ _ _ k);
        v_at = λ k. j.of_v k ∙ sym (row_is O _ _ _ _ k);
        q_at = λ k. j.of_q k ∙ sym (row_is O _ _ _ _ k);
        r_at = λ k. j.of_r k ∙ sym (row_is O _ _ _ _ k);
      }

  pub step_laws : StepLaws O nonzero
  step_laws = record { local = local; apply = apply; compose = compose }
