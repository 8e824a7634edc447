-- Division steps seen from an operator Y in the place of x, where the coefficients of a series make a polynomial in Y.
-- Main definitions: `evaluated`; `Kept`: after n steps from f and g, where f comes to nothing and g takes e to γ,
-- Y^n of what the new f makes of e is what v makes of γ, and Y^n of what the new g makes of e is what r makes of γ.
-- Main results: `kept_swapped` and `kept_reduced`, that steps keep it;
-- `constant_reversed` and `nothing_reversed`, what it says at the end of polynomials in X, where X and Y are inverse to each other.
use Rattle.std.proofs.Common.{◌≡◌, ℕ, zero, suc, ◌+◌, ◌<◌, ◌≤◌, Bool, true, false, List, [], ◌∷◌, reverse, length, sym, refl, ap, ◌∙◌, ap₂, arith}
use mathlib.Core.Path.{fun_ext}
use mathlib.Core.List.{reverse-cons}
use Rattle.std.proofs.lemmas.List.{length-reverse}
use Rattle.field.specs.Rings.{Operations, CommutativeRing}
use Rattle.field.specs.Convolution.{tabulate}
use Rattle.field.proofs.Tables.{tabulate_none}
use Rattle.ring.specs.Polynomials.{Space, horner, power}
use Rattle.ring.proofs.Horner.{Linear, SpaceLaws, none_none, keeps_none, keeps_normal, horner_normal, horner_tabulate, horner_plus, horner_times, horner_push, horner_power, power_linear, power_power, power_commute, power_x}
use Rattle.divstep.specs.Steps.{State, swapped, reduced, shifted_at}
use Rattle.divstep.proofs.Series.{series, negative, mix_sum, mix_self, mix_zeros, mix_same}

module _ {C V : Type 0} (S : Space C V) (Y : V → V) where
  -- the first n coefficients of a series, as a polynomial in Y, applied to v
  abbrev pub evaluated : ℕ → (ℕ → C) → V → V
  evaluated n a v = horner S Y (tabulate n a) v

  pub record Kept (m : ℕ) (e γ : V) (n : ℕ) (s : State (ℕ → C)) : Type 0 where
    pub of_f : power Y n (evaluated m s.f e) ≡ evaluated m s.v γ
    pub of_g : power Y n (evaluated m s.g e) ≡ evaluated m s.r γ

  pub kept_swapped : (m : ℕ) (e γ : V) (n : ℕ) (b : Bool) (s : State (ℕ → C)) → Kept m e γ n s → Kept m e γ n (swapped b s)
  kept_swapped m e γ n true s k = record { of_f = k.of_g; of_g = k.of_f }
  kept_swapped m e γ n false s k = k

module _ {C V : Type 0} {O : Operations C} {R : CommutativeRing O} {S : Space C V} (L : SpaceLaws R S) {Y : V → V} (lin : Linear S Y) where
  evaluated_mix : (n : ℕ) (c d : C) (a b : ℕ → C) (v : V) → evaluated S Y n ((series O).mix c a d b) v ≡ S.add (S.scale c (evaluated S Y n a v)) (S.scale (negative O d) (evaluated S Y n b v))
  evaluated_mix n c d a b v =
      ap (λ f. evaluated S Y n f v) (fun_ext (λ k. mix_sum R c (a k) d (b k))) ∙ horner_plus L lin n _ _ v ∙ ap₂ S.add (horner_times L lin n c a v) (horner_times L lin n _ b v)

  -- coefficients that are zero
  pub evaluated_zeros : (n : ℕ) (a : ℕ → C) (v : V) → ((k : ℕ) → a k ≡ O.zero) → evaluated S Y n a v ≡ S.none
  unfolding horner
  evaluated_zeros zero a v h = ap (λ l. horner S Y l v) (tabulate_none a)
  evaluated_zeros (suc n) a v h =
      horner_tabulate L lin n a v ∙ ap₂ S.add (ap (λ c. S.scale c v) (h 0) ∙ L.scale_zero v) (ap Y (evaluated_zeros n _ v (λ k. h (suc k))) ∙ keeps_none L lin) ∙ none_none L

  pub evaluated_rest : (n m : ℕ) (a : ℕ → C) (v : V) → n ≤ m → ((k : ℕ) → n ≤ k → a k ≡ O.zero) → evaluated S Y m a v ≡ evaluated S Y n a v
  evaluated_rest zero m a v h z = evaluated_zeros m a v (λ k. z k (omega arith)) ∙ sym (evaluated_zeros 0 a v (λ k. z k (omega arith)))
  evaluated_rest (suc n) zero a v h z = absurd (omega arith)
  evaluated_rest (suc n) (suc m) a v h z =
      horner_tabulate L lin m a v ∙ ap (S.add _) (ap Y (evaluated_rest n m _ v (omega arith) (λ k l. z (suc k) (omega arith)))) ∙ sym (horner_tabulate L lin n a v)

  pub evaluated_constant : (n : ℕ) (a : ℕ → C) (v : V) → ((k : ℕ) → a (suc k) ≡ O.zero) → evaluated S Y (suc n) a v ≡ S.scale (a 0) v
  evaluated_constant n a v h = horner_tabulate L lin n a v ∙ ap (S.add _) (ap Y (evaluated_zeros n _ v h) ∙ keeps_none L lin) ∙ L.add_comm _ _ ∙ L.scale_normal _ v

  -- a series that begins with zero, x·a and a / x
  pub evaluated_down : (n : ℕ) (a : ℕ → C) (v : V) → a 0 ≡ O.zero → evaluated S Y (suc n) a v ≡ Y (evaluated S Y n (λ k. a (suc k)) v)
  evaluated_down n a v h = horner_tabulate L lin n a v ∙ ap₂ S.add (ap (λ c. S.scale c v) h ∙ L.scale_zero v) refl ∙ keeps_normal L lin _ (horner_normal L lin _ v)

  evaluated_up : (n : ℕ) (a : ℕ → C) (v : V) → ((k : ℕ) → n ≤ k → a k ≡ O.zero) → evaluated S Y (suc n) (shifted_at O a) v ≡ Y (evaluated S Y (suc n) a v)
  evaluated_up n a v h = evaluated_down n _ v refl ∙ ap Y (sym (evaluated_rest n (suc n) a v (omega arith) h))

  -- one step, where the first m + 1 coefficients have room for it
  pub kept_reduced : (nonzero : C → Bool) (m : ℕ) (e γ : V) (n : ℕ) (s : State (ℕ → C)) → Kept S Y (suc m) e γ n s →
      ((k : ℕ) → m < k → s.f k ≡ O.zero) → ((k : ℕ) → m < k → s.g k ≡ O.zero) → ((k : ℕ) → m ≤ k → s.v k ≡ O.zero) →
      Kept S Y (suc m) e γ (suc n) (reduced (series O) nonzero s)
  unfolding power
  kept_reduced nonzero m e γ n s k zf zg zv =
      record {
        of_f = ap Y k.of_f ∙ sym (evaluated_up m s.v γ zv);
        of_g =
            sym (power_x L lin n _) ∙ ap (power Y n) (sym cut ∙ evaluated_mix (suc m) (s.f 0) (s.g 0) s.g s.f e)
            ∙ p.adds _ _ ∙ ap₂ S.add (p.scales _ _ ∙ ap (S.scale _) k.of_g) (p.scales _ _ ∙ ap (S.scale _) k.of_f) ∙ sym (evaluated_mix (suc m) _ _ s.r s.v γ);
      }
    where
      p : Linear S (power Y n)
      p = power_linear L lin n

      -- f0·g - g0·f begins with zero
      cut : evaluated S Y (suc m) ((series O).mix (s.f 0) s.g (s.g 0) s.f) e ≡ Y (evaluated S Y (suc m) (reduced (series O) nonzero s).g e)
      cut =
          evaluated_down m _ e (mix_self R _ _)
          ∙ ap Y (sym (evaluated_rest m (suc m) _ e (omega arith) (λ i l. mix_same O refl (zg (suc i) (omega arith)) refl (zf (suc i) (omega arith)) ∙ mix_zeros R _ _)))

-- X and Y are inverse to each other
module _ {C V : Type 0} {O : Operations C} {R : CommutativeRing O} {S : Space C V} (L : SpaceLaws R S) {X Y : V → V} (X-lin : Linear S X) (Y-lin : Linear S Y) (commute : (v : V) → Y (X v) ≡ X (Y v)) (back : (v : V) → S.add S.none v ≡ v → X (Y v) ≡ v) where
  pub power_back : (n : ℕ) (v : V) → S.add S.none v ≡ v → power X n (power Y n v) ≡ v
  unfolding power
  power_back zero v w = refl
  power_back (suc n) v w = ap X (sym (power_commute L X-lin Y commute n (power Y n v)) ∙ ap Y (power_back n v w)) ∙ back v w

  raised : (a : List C) (v : V) → power X (length a) (horner S Y a v) ≡ X (horner S X (reverse a) v)
  unfolding horner power
  raised [] v = sym (keeps_none L X-lin)
  raised (c ∷ cs) v =
      let n = length cs in
      let w = horner S Y cs v in
      let l = power_linear L X-lin n in
      ap X (l.adds _ _ ∙ ap₂ S.add (l.scales c v) (sym (power_commute L X-lin Y commute n w))) ∙ X-lin.adds _ _ ∙ L.add_comm _ _
      ∙ ap₂ S.add (back _ (keeps_normal L l w (horner_normal L Y-lin cs v)) ∙ raised cs v) refl
      ∙ sym (ap X (ap (λ l. horner S X l v) (reverse-cons c cs) ∙ horner_push L X-lin (reverse cs) c v ∙ ap (λ m. S.add (horner S X (reverse cs) v) (S.scale c (power X m v))) (length-reverse cs)) ∙ X-lin.adds _ _)

  -- X^n makes of n + 1 coefficients the same in X, the other way round
  reversed : (n : ℕ) (a : List C) (v : V) → length a ≡ suc n → power X n (horner S Y a v) ≡ horner S X (reverse a) v
  unfolding power
  reversed n a v h =
      let w = horner_normal L Y-lin a v in
      let u = horner_normal L X-lin (reverse a) v in
      sym (back _ (keeps_normal L (power_linear L X-lin n) _ w)) ∙ sym (commute _)
      ∙ ap Y (ap (λ m. power X m (horner S Y a v)) (sym h) ∙ raised a v) ∙ commute _ ∙ back _ u

  -- a and b reversed, the one after the other
  both_reversed : (n : ℕ) (e : V) (a b : List C) → length a ≡ suc n → length b ≡ suc n → horner S X (reverse a) (horner S X (reverse b) e) ≡ power X (n + n) (horner S Y a (horner S Y b e))
  both_reversed n e a b ha hb =
      ap (horner S X (reverse a)) (sym (reversed n b e hb)) ∙ sym (horner_power L X-lin n (reverse a) _)
      ∙ ap (power X n) (sym (reversed n a _ ha)) ∙ power_power L X-lin n n _

  -- where f is the constant c, v / x and g reversed make c of e
  pub constant_reversed : (n : ℕ) (e z : V) (g w : List C) (c : C) → length g ≡ suc n → length w ≡ suc n → z ≡ S.scale c e →
      power Y (suc (n + n)) z ≡ Y (horner S Y w (horner S Y g e)) → horner S X (reverse w) (horner S X (reverse g) e) ≡ S.scale c e
  unfolding power
  constant_reversed n e z g w c hg hw hz k =
      both_reversed n e w g hw hg ∙ ap (power X (n + n)) (sym (back _ (horner_normal L Y-lin w _)) ∙ ap X (sym k)) ∙ power_x L X-lin (n + n) _
      ∙ ap (λ z. X (power X (n + n) (Y (power Y (n + n) z)))) hz ∙ power_back (suc (n + n)) _ (L.scale_normal c e)

  -- where g is zero, r and g reversed make nothing of e
  pub nothing_reversed : (n : ℕ) (e : V) (g r : List C) → length g ≡ suc n → length r ≡ suc n → horner S Y r (horner S Y g e) ≡ S.none → horner S X (reverse r) (horner S X (reverse g) e) ≡ S.none
  nothing_reversed n e g r hg hr k = both_reversed n e r g hr hg ∙ ap (power X (n + n)) k ∙ keeps_none L (power_linear L X-lin (n + n))
