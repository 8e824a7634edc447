-- Steps on lists are steps on the series of their coefficients, as long as the lists of the matrix have room.
-- Main definitions: `look`, a state of lists as one of series; `Sized`, the lengths of its lists.
-- Main results: `sized`, that steps keep the lengths; `looks`, that up to n steps from `begins` with lists of n + 1 coefficients are a run of series;
-- `normals_from`, that a list is in normal form if each of its coefficients is.
use Rattle.std.proofs.Common.{◌≡◌, ℕ, zero, suc, ◌+◌, ◌<◌, ◌≤◌, Bool, true, false, List, length, ℤ, pos, ◌+ℤ◌, sym, refl, ap, ◌∙◌, subst, ap₂, inl, inr, arith}
use mathlib.Core.Path.{fun_ext}
use Rattle.std.proofs.lemmas.List.{get_or_past}
use Rattle.std.proofs.lemmas.Bool.{cases_lt}
use Rattle.field.specs.Rings.{Operations, CommutativeRing, Normal}
use Rattle.field.specs.Convolution.{tabulate, at, mixed}
use Rattle.field.proofs.Sums.{zero_normal}
use Rattle.field.proofs.Tables.{length_tabulate, get_d_tabulate, same_places}
use Rattle.ring.specs.Polynomials.{unit_at}
use Rattle.divstep.specs.Steps.{State, swapped, swaps, reduced, step, steps, shifted_at, lists, begins}
use Rattle.divstep.proofs.Series.{series, mix_zeros}
use Rattle.divstep.proofs.Runs.{begin, run, Normals, Low, low_swapped, run_low}

-- f and g have l coefficients, and the lists of the matrix n
pub record Sized {C : Type 0} (l n : ℕ) (s : State (List C)) : Type 0 where
  pub of_f : length s.f ≡ l
  pub of_g : length s.g ≡ l
  pub of_u : length s.u ≡ n
  pub of_v : length s.v ≡ n
  pub of_q : length s.q ≡ n
  pub of_r : length s.r ≡ n

sized_swapped : {C : Type 0} (l n : ℕ) (b : Bool) (s : State (List C)) → Sized l n s → Sized l n (swapped b s)
sized_swapped l n true s z = record { of_f = z.of_g; of_g = z.of_f; of_u = z.of_q; of_v = z.of_r; of_q = z.of_u; of_r = z.of_v }
sized_swapped l n false s z = z

module _ {C : Type 0} (O : Operations C) where
  abbrev pub look : State (List C) → State (ℕ → C)
  look s = record { δ = s.δ; f = at O s.f; g = at O s.g; u = at O s.u; v = at O s.v; q = at O s.q; r = at O s.r }

  look_swapped : (b : Bool) (s : State (List C)) → look (swapped b s) ≡ swapped b (look s)
  look_swapped true s = refl
  look_swapped false s = refl

  -- lists of one length with the same coefficients
  pub alike : (a b : List C) → length a ≡ length b → at O a ≡ at O b → a ≡ b
  alike a b h e = same_places (length b) a b O.zero h refl (λ k l. ap (λ f. f k) e)

  -- a table of all the coefficients that are not zero
  pub at_tabulate : (n : ℕ) (a : ℕ → C) → ((k : ℕ) → n ≤ k → a k ≡ O.zero) → (k : ℕ) → at O (tabulate n a) k ≡ a k
  at_tabulate n a h k = elim (cases_lt k n) [
    | inl l ↦ get_d_tabulate n a O.zero k l
    | inr l ↦ get_or_past (tabulate n a) k O.zero (omega (arith, length_tabulate n a)) ∙ sym (h k l)
  ]

  -- the operations of a step
  down_at : (a : List C) (k : ℕ) → at O ((lists O).down a) k ≡ at O a (suc k)
  down_at a = at_tabulate (length a) _ (λ k l. get_or_past a (suc k) O.zero (omega arith))

  up_at : (a : List C) → ((k : ℕ) → length a ≤ suc k → at O a k ≡ O.zero) → (k : ℕ) → at O ((lists O).up a) k ≡ shifted_at O (at O a) k
  up_at a h = at_tabulate (length a) _ past
    where
      past : (k : ℕ) → length a ≤ k → shifted_at O (at O a) k ≡ O.zero
      past zero l = refl
      past (suc k) l = h k l

  unit_past : (n k : ℕ) → n + 1 ≤ k → unit_at O k ≡ O.zero
  unit_past n zero l = absurd (omega arith)
  unit_past n (suc k) l = refl

  look_begins : (n : ℕ) (δ : ℤ) (f g : List C) → look (begins O n δ f g) ≡ begin O δ (at O f) (at O g)
  look_begins n δ f g =
      let one = fun_ext (at_tabulate (n + 1) (unit_at O) (unit_past n)) in
      let none = fun_ext (at_tabulate (n + 1) (λ k. O.zero) (λ k l. refl)) in
      λ j. record { δ = δ; f = at O f; g = at O g; u = one j; v = none j; q = none j; r = one j }

module _ {C : Type 0} (O : Operations C) (nonzero : C → Bool) where
  sized_reduced : (l n : ℕ) (s : State (List C)) → Sized l n s → Sized l n (reduced (lists O) nonzero s)
  sized_reduced l n s z = record {
    of_f = z.of_f;
    of_g = length_tabulate _ _ ∙ length_tabulate _ _ ∙ z.of_g;
    of_u = length_tabulate _ _ ∙ z.of_u;
    of_v = length_tabulate _ _ ∙ z.of_v;
    of_q = length_tabulate _ _ ∙ z.of_q;
    of_r = length_tabulate _ _ ∙ z.of_r;
  }

  pub sized : (n i : ℕ) (δ : ℤ) (f g : List C) → length f ≡ length g → Sized (length f) (n + 1) (steps (lists O) nonzero i (begins O n δ f g))
  unfolding steps step
  sized n zero δ f g h = record { of_f = refl; of_g = sym h; of_u = length_tabulate _ _; of_v = length_tabulate _ _; of_q = length_tabulate _ _; of_r = length_tabulate _ _ }
  sized n (suc i) δ f g h = sized_reduced _ _ _ (sized_swapped _ _ _ _ (sized n i δ f g h))

module _ {C : Type 0} {O : Operations C} (R : CommutativeRing O) where
  -- past the end, a list is in normal form
  pub normals_from : (a : List C) → ((k : ℕ) → k < length a → Normal O (at O a k)) → Normals O (at O a)
  normals_from a h k = elim (cases_lt k (length a)) [
    | inl l ↦ h k l
    | inr l ↦ subst (Normal O) (sym (get_or_past a k O.zero l)) (zero_normal R)
  ]

module _ {C : Type 0} {O : Operations C} (R : CommutativeRing O) (nonzero : C → Bool) where
  mix_at : (c d : C) (a b : List C) → length b ≤ length a → (k : ℕ) → at O (mixed O c a d b) k ≡ O.minus (O.times c (at O a k)) (O.times d (at O b k))
  mix_at c d a b h =
      at_tabulate O (length a) _ (λ k l. ap₂ (λ x y. O.minus (O.times c x) (O.times d y)) (get_or_past a k O.zero l) (get_or_past b k O.zero (omega arith)) ∙ mix_zeros R c d)

  look_reduced : (l n i : ℕ) (s : State (List C)) → Sized l (n + 1) s → i < n → Low O i (look O s) → look O (reduced (lists O) nonzero s) ≡ reduced (series O) nonzero (look O s)
  look_reduced l n i s z h o =
      let f0 = at O s.f 0 in
      let g0 = at O s.g 0 in
      let eg = fun_ext λ k. down_at O (mixed O f0 s.g g0 s.f) k ∙ mix_at f0 g0 s.g s.f (omega (arith, z.of_f, z.of_g)) (suc k) in
      let eu = fun_ext (up_at O s.u (λ k l. o.of_u k (omega (arith, z.of_u)))) in
      let ev = fun_ext (up_at O s.v (λ k l. o.of_v k (omega (arith, z.of_v)))) in
      let eq = fun_ext (mix_at f0 g0 s.q s.u (omega (arith, z.of_q, z.of_u))) in
      let er = fun_ext (mix_at f0 g0 s.r s.v (omega (arith, z.of_r, z.of_v))) in
      λ j. record { δ = s.δ +ℤ pos 1; f = at O s.f; g = eg j; u = eu j; v = ev j; q = eq j; r = er j }

  pub looks : (n i : ℕ) (δ : ℤ) (f g : List C) → length f ≡ length g → i ≤ n → look O (steps (lists O) nonzero i (begins O n δ f g)) ≡ run O nonzero i δ (at O f) (at O g)
  unfolding steps step
  looks n zero δ f g e h = look_begins O n δ f g
  looks n (suc i) δ f g e h =
      let s = steps (lists O) nonzero i (begins O n δ f g) in
      let b = swaps (lists O) nonzero s in
      let before = looks n i δ f g e (omega arith) in
      let o = low_swapped O i b (look O s) (subst (Low O i) (sym before) (run_low R nonzero i δ (at O f) (at O g))) in
      look_reduced (length f) n i (swapped b s) (sized_swapped _ _ b s (sized O nonzero n i δ f g e)) h (subst (Low O i) (sym (look_swapped O b s)) o)
      ∙ ap (reduced (series O) nonzero) (look_swapped O b s) ∙ ap (step (series O) nonzero) before
