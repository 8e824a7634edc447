-- Runs of division steps on series.
-- Main definitions: `run`; `Near`, `NormalState` and `Low`, what a run keeps.
-- Main results: `run_near` (m steps read only the first m coefficients), `run_applied` (the matrix carries f and g over),
-- `run_composed` (matrices compose), `run_normal` (normal forms stay), `run_low` (the matrix of n steps has degrees of at most n),
-- `run_within` (the degrees of f and g keep a bound that both have).
use Rattle.std.proofs.Common.{◌≡◌, ℕ, zero, suc, ◌+◌, ◌<◌, ◌≤◌, Bool, true, false, cond, ℤ, pos, ◌+ℤ◌, neg_ℤ, sym, refl, ap, ◌∙◌, subst, ap₂, add-zero, add-suc, arith}
use mathlib.Core.Path.{fun_ext}
use lib.Signed.{lt_z}
use Rattle.field.specs.Rings.{Operations, CommutativeRing, Normal}
use Rattle.field.proofs.Sums.{zero_normal}
use Rattle.ring.specs.Polynomials.{unit_at}
use Rattle.ring.proofs.Polynomials.{unit_normal}
use Rattle.divstep.specs.Steps.{State, Held, swapped, swaps, reduced, step, steps, shifted_at}
use Rattle.divstep.proofs.Series.{series, row, mix_same, mix_zeros, row_mix, row_up, row_first, row_second}

-- n + m steps
pub steps_more : {C A : Type 0} (P : Held C A) (nonzero : C → Bool) (n m : ℕ) (s : State A) → steps P nonzero (n + m) s ≡ steps P nonzero m (steps P nonzero n s)
unfolding steps
steps_more P nonzero n zero s = ap (λ i. steps P nonzero i s) (add-zero n)
steps_more P nonzero n (suc m) s = ap (λ i. steps P nonzero i s) (add-suc n m) ∙ ap (step P nonzero) (steps_more P nonzero n m s)

module _ {C : Type 0} (O : Operations C) where
  abbrev pub begin : ℤ → (ℕ → C) → (ℕ → C) → State (ℕ → C)
  begin δ f g = record { δ = δ; f = f; g = g; u = unit_at O; v = λ k. O.zero; q = λ k. O.zero; r = unit_at O }

  -- n steps from δ, f and g with the matrix 1
  abbrev pub run : (C → Bool) → ℕ → ℤ → (ℕ → C) → (ℕ → C) → State (ℕ → C)
  run nonzero n δ f g = steps (series O) nonzero n (begin δ f g)

  -- the same δ and the same matrix, and the same first m coefficients of f and g
  pub record Near (m : ℕ) (s t : State (ℕ → C)) : Type 0 where
    pub of_δ : s.δ ≡ t.δ
    pub of_f : (k : ℕ) → k < m → s.f k ≡ t.f k
    pub of_g : (k : ℕ) → k < m → s.g k ≡ t.g k
    pub of_u : s.u ≡ t.u
    pub of_v : s.v ≡ t.v
    pub of_q : s.q ≡ t.q
    pub of_r : s.r ≡ t.r

  -- f and g are the matrix times (x, y), without the first m coefficients
  pub record Carried (x y : ℕ → C) (m : ℕ) (s : State (ℕ → C)) : Type 0 where
    pub of_f : (k j : ℕ) → j ≡ k + m → s.f k ≡ row O s.u s.v x y j
    pub of_g : (k j : ℕ) → j ≡ k + m → s.g k ≡ row O s.q s.r x y j

  -- t has the δ, f and g of b, and the matrix of b times that of a
  pub record Joined (a b t : State (ℕ → C)) : Type 0 where
    pub of_δ : t.δ ≡ b.δ
    pub of_f : t.f ≡ b.f
    pub of_g : t.g ≡ b.g
    pub of_u : (k : ℕ) → t.u k ≡ row O b.u b.v a.u a.q k
    pub of_v : (k : ℕ) → t.v k ≡ row O b.u b.v a.v a.r k
    pub of_q : (k : ℕ) → t.q k ≡ row O b.q b.r a.u a.q k
    pub of_r : (k : ℕ) → t.r k ≡ row O b.q b.r a.v a.r k

  abbrev pub Normals : (ℕ → C) → Type 0
  Normals a = (k : ℕ) → Normal O (a k)

  pub record NormalState (s : State (ℕ → C)) : Type 0 where
    pub of_f : Normals s.f
    pub of_g : Normals s.g
    pub of_u : Normals s.u
    pub of_v : Normals s.v
    pub of_q : Normals s.q
    pub of_r : Normals s.r

  -- zero past n
  abbrev pub Within : ℕ → (ℕ → C) → Type 0
  Within n a = (k : ℕ) → n < k → a k ≡ O.zero

  -- the matrix has degrees of at most n
  pub record Low (n : ℕ) (s : State (ℕ → C)) : Type 0 where
    pub of_u : Within n s.u
    pub of_v : Within n s.v
    pub of_q : Within n s.q
    pub of_r : Within n s.r

  -- what a swap keeps
  near_swapped : (m : ℕ) (b : Bool) (s t : State (ℕ → C)) → Near m s t → Near m (swapped b s) (swapped b t)
  near_swapped m true s t n = record { of_δ = ap neg_ℤ n.of_δ; of_f = n.of_g; of_g = n.of_f; of_u = n.of_q; of_v = n.of_r; of_q = n.of_u; of_r = n.of_v }
  near_swapped m false s t n = n

  carried_swapped : (x y : ℕ → C) (m : ℕ) (b : Bool) (s : State (ℕ → C)) → Carried x y m s → Carried x y m (swapped b s)
  carried_swapped x y m true s a = record { of_f = a.of_g; of_g = a.of_f }
  carried_swapped x y m false s a = a

  joined_swapped : (c : Bool) (a b t : State (ℕ → C)) → Joined a b t → Joined a (swapped c b) (swapped c t)
  joined_swapped true a b t j = record { of_δ = ap neg_ℤ j.of_δ; of_f = j.of_g; of_g = j.of_f; of_u = j.of_q; of_v = j.of_r; of_q = j.of_u; of_r = j.of_v }
  joined_swapped false a b t j = j

  normal_swapped : (b : Bool) (s : State (ℕ → C)) → NormalState s → NormalState (swapped b s)
  normal_swapped true s n = record { of_f = n.of_g; of_g = n.of_f; of_u = n.of_q; of_v = n.of_r; of_q = n.of_u; of_r = n.of_v }
  normal_swapped false s n = n

  pub low_swapped : (n : ℕ) (b : Bool) (s : State (ℕ → C)) → Low n s → Low n (swapped b s)
  low_swapped n true s l = record { of_u = l.of_q; of_v = l.of_r; of_q = l.of_u; of_r = l.of_v }
  low_swapped n false s l = l

  pub within_swapped : (m : ℕ) (b : Bool) (s : State (ℕ → C)) → Within m s.f × Within m s.g → Within m (swapped b s).f × Within m (swapped b s).g
  within_swapped m true s h = (h.1, h.0)
  within_swapped m false s h = h

  pub within_up : (n : ℕ) (a : ℕ → C) → Within n a → Within (suc n) (shifted_at O a)
  within_up n a h zero l = refl
  within_up n a h (suc k) l = h k (omega arith)

  within_unit : Within 0 (unit_at O)
  within_unit zero l = absurd (omega arith)
  within_unit (suc k) l = refl

-- the first m coefficients
module _ {C : Type 0} (O : Operations C) (nonzero : C → Bool) where
  near_reduced : (m : ℕ) (s t : State (ℕ → C)) → Near O (suc m) s t → Near O m (reduced (series O) nonzero s) (reduced (series O) nonzero t)
  near_reduced m s t n =
      let f0 = n.of_f 0 (omega arith) in
      let g0 = n.of_g 0 (omega arith) in
      record {
        of_δ = ap (λ d. d +ℤ pos 1) n.of_δ;
        of_f = λ k l. n.of_f k (omega arith);
        of_g = λ k l. mix_same O f0 (n.of_g (suc k) (omega arith)) g0 (n.of_f (suc k) (omega arith));
        of_u = ap (shifted_at O) n.of_u;
        of_v = ap (shifted_at O) n.of_v;
        of_q = fun_ext λ k. mix_same O f0 (ap (λ a. a k) n.of_q) g0 (ap (λ a. a k) n.of_u);
        of_r = fun_ext λ k. mix_same O f0 (ap (λ a. a k) n.of_r) g0 (ap (λ a. a k) n.of_v);
      }

  near_step : (m : ℕ) (s t : State (ℕ → C)) → Near O (suc m) s t → Near O m (step (series O) nonzero s) (step (series O) nonzero t)
  unfolding step
  near_step m s t n =
      let e : swaps (series O) nonzero s ≡ swaps (series O) nonzero t = ap₂ (λ d z. cond (lt_z (pos 0) d) (nonzero z) false) n.of_δ (n.of_g 0 (omega arith)) in
      subst (λ b. Near O m (reduced (series O) nonzero (swapped (swaps (series O) nonzero s) s)) (reduced (series O) nonzero (swapped b t))) e (near_reduced m _ _ (near_swapped O (suc m) _ s t n))

  near_steps : (i m n : ℕ) (s t : State (ℕ → C)) → i + m ≤ n → Near O n s t → Near O m (steps (series O) nonzero i s) (steps (series O) nonzero i t)
  unfolding steps
  near_steps zero m n s t h e =
      record {
        of_δ = e.of_δ;
        of_f = λ k l. e.of_f k (omega arith);
        of_g = λ k l. e.of_g k (omega arith);
        of_u = e.of_u;
        of_v = e.of_v;
        of_q = e.of_q;
        of_r = e.of_r;
      }
  near_steps (suc i) m n s t h e = near_step m _ _ (near_steps i (suc m) n s t (omega arith) e)

  pub run_near : (m : ℕ) (δ : ℤ) (f g f' g' : ℕ → C) → ((k : ℕ) → k < m → f k ≡ f' k) → ((k : ℕ) → k < m → g k ≡ g' k) → Near O 0 (run O nonzero m δ f g) (run O nonzero m δ f' g')
  run_near m δ f g f' g' ef eg =
      near_steps m 0 m (begin O δ f g) (begin O δ f' g') (omega arith) (record { of_δ = refl; of_f = ef; of_g = eg; of_u = refl; of_v = refl; of_q = refl; of_r = refl })

module _ {C : Type 0} {O : Operations C} (R : CommutativeRing O) (nonzero : C → Bool) where
  -- f and g by the matrix
  carried_reduced : (x y : ℕ → C) (m : ℕ) (s : State (ℕ → C)) → Carried O x y m s → Carried O x y (suc m) (reduced (series O) nonzero s)
  carried_reduced x y m s a = record {
    of_f = later;
    of_g = λ k j e. mix_same O refl (a.of_g (suc k) j (omega arith)) refl (a.of_f (suc k) j (omega arith)) ∙ row_mix R x y _ _ _ _ _ _ j;
  }
    where
      later : (k j : ℕ) → j ≡ k + suc m → s.f k ≡ row O (shifted_at O s.u) (shifted_at O s.v) x y j
      later k zero e = absurd (omega arith)
      later k (suc j) e = a.of_f k j (omega arith) ∙ sym (row_up R x y _ _ (suc j))

  pub run_applied : (m : ℕ) (δ : ℤ) (f g : ℕ → C) → Normals O f → Normals O g → Carried O f g m (run O nonzero m δ f g)
  unfolding steps step
  run_applied zero δ f g hf hg = record {
    of_f = λ k j e. sym (row_first R f g k (hf k)) ∙ ap (row O _ _ f g) (omega arith);
    of_g = λ k j e. sym (row_second R f g k (hg k)) ∙ ap (row O _ _ f g) (omega arith);
  }
  run_applied (suc m) δ f g hf hg = carried_reduced f g m _ (carried_swapped O f g m _ _ (run_applied m δ f g hf hg))

  -- matrices compose: the same steps lead from the matrix 1 to b, and from a to t
  joined_reduced : (a b t : State (ℕ → C)) → Joined O a b t → Joined O a (reduced (series O) nonzero b) (reduced (series O) nonzero t)
  joined_reduced a b t j =
      let f0 = ap (λ h. h 0) j.of_f in
      let g0 = ap (λ h. h 0) j.of_g in
      record {
        of_δ = ap (λ d. d +ℤ pos 1) j.of_δ;
        of_f = j.of_f;
        of_g = fun_ext λ k. mix_same O f0 (ap (λ h. h (suc k)) j.of_g) g0 (ap (λ h. h (suc k)) j.of_f);
        of_u = λ k. ap (λ h. shifted_at O h k) (fun_ext j.of_u) ∙ sym (row_up R a.u a.q b.u b.v k);
        of_v = λ k. ap (λ h. shifted_at O h k) (fun_ext j.of_v) ∙ sym (row_up R a.v a.r b.u b.v k);
        of_q = λ k. mix_same O f0 (j.of_q k) g0 (j.of_u k) ∙ row_mix R a.u a.q _ _ b.q b.r b.u b.v k;
        of_r = λ k. mix_same O f0 (j.of_r k) g0 (j.of_v k) ∙ row_mix R a.v a.r _ _ b.q b.r b.u b.v k;
      }

  joined_step : (a b t : State (ℕ → C)) → Joined O a b t → Joined O a (step (series O) nonzero b) (step (series O) nonzero t)
  unfolding step
  joined_step a b t j =
      let e : swaps (series O) nonzero b ≡ swaps (series O) nonzero t = sym (ap₂ (λ d z. cond (lt_z (pos 0) d) (nonzero z) false) j.of_δ (ap (λ h. h 0) j.of_g)) in
      subst (λ c. Joined O a (reduced (series O) nonzero (swapped (swaps (series O) nonzero b) b)) (reduced (series O) nonzero (swapped c t))) e (joined_reduced a _ _ (joined_swapped O _ a b t j))

  joined_steps : (m : ℕ) (a b t : State (ℕ → C)) → Joined O a b t → Joined O a (steps (series O) nonzero m b) (steps (series O) nonzero m t)
  unfolding steps
  joined_steps zero a b t j = j
  joined_steps (suc m) a b t j = joined_step a _ _ (joined_steps m a b t j)

  -- normal forms
  normal_up : (a : ℕ → C) → Normals O a → Normals O (shifted_at O a)
  normal_up a h zero = zero_normal R
  normal_up a h (suc k) = h k

  pub run_normal : (n : ℕ) (δ : ℤ) (f g : ℕ → C) → Normals O f → Normals O g → NormalState O (run O nonzero n δ f g)
  unfolding steps step
  run_normal zero δ f g hf hg = record { of_f = hf; of_g = hg; of_u = unit_normal R 0; of_v = λ k. zero_normal R; of_q = λ k. zero_normal R; of_r = unit_normal R 0 }
  run_normal (suc n) δ f g hf hg =
      let o = normal_swapped O (swaps (series O) nonzero (run O nonzero n δ f g)) _ (run_normal n δ f g hf hg) in
      record { of_f = o.of_f; of_g = λ k. R.minus_normal _ _; of_u = normal_up _ o.of_u; of_v = normal_up _ o.of_v; of_q = λ k. R.minus_normal _ _; of_r = λ k. R.minus_normal _ _ }

  -- degrees
  pub within_mix : (n : ℕ) (c d : C) (a b : ℕ → C) → Within O n a → Within O n b → Within O n ((series O).mix c a d b)
  within_mix n c d a b ha hb k l = mix_same O refl (ha k l) refl (hb k l) ∙ mix_zeros R _ _

  pub run_low : (n : ℕ) (δ : ℤ) (f g : ℕ → C) → Low O n (run O nonzero n δ f g)
  unfolding steps step
  run_low zero δ f g = record { of_u = within_unit O; of_v = λ k l. refl; of_q = λ k l. refl; of_r = within_unit O }
  run_low (suc n) δ f g =
      let o = low_swapped O n (swaps (series O) nonzero (run O nonzero n δ f g)) _ (run_low n δ f g) in
      record {
        of_u = within_up O n _ o.of_u;
        of_v = within_up O n _ o.of_v;
        of_q = within_mix (suc n) _ _ _ _ (λ k l. o.of_q k (omega arith)) (λ k l. o.of_u k (omega arith));
        of_r = within_mix (suc n) _ _ _ _ (λ k l. o.of_r k (omega arith)) (λ k l. o.of_v k (omega arith));
      }

  -- f and g do not grow
  pub run_within : (m n : ℕ) (δ : ℤ) (f g : ℕ → C) → Within O m f → Within O m g → Within O m (run O nonzero n δ f g).f × Within O m (run O nonzero n δ f g).g
  unfolding steps step
  run_within m zero δ f g hf hg = (hf, hg)
  run_within m (suc n) δ f g hf hg =
      let o = within_swapped O m (swaps (series O) nonzero (run O nonzero n δ f g)) _ (run_within m n δ f g hf hg) in
      (o.0, λ k l. within_mix m _ _ _ _ o.1 o.0 (suc k) (omega arith))

  -- n + m steps, and m steps from where n steps end
  pub run_composed : (n m : ℕ) (δ : ℤ) (f g : ℕ → C) → Normals O f → Normals O g →
      let a = run O nonzero n δ f g in
      Joined O a (run O nonzero m a.δ a.f a.g) (run O nonzero (n + m) δ f g)
  run_composed n m δ f g hf hg =
      let a = run O nonzero n δ f g in
      let o = run_normal n δ f g hf hg in
      subst (Joined O a (run O nonzero m a.δ a.f a.g)) (sym (steps_more (series O) nonzero n m _)) (joined_steps m a (begin O a.δ a.f a.g) a
      (record {
        of_δ = refl;
        of_f = refl;
        of_g = refl;
        of_u = λ k. sym (row_first R a.u a.q k (o.of_u k));
        of_v = λ k. sym (row_first R a.v a.r k (o.of_v k));
        of_q = λ k. sym (row_second R a.u a.q k (o.of_q k));
        of_r = λ k. sym (row_second R a.v a.r k (o.of_r k));
      }))
