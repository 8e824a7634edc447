-- What a step makes of a window.
-- Main results: `down_is`, `up_is`, `reduced_is`.
use Rattle.std.proofs.Common.{◌≡◌, ℕ, zero, suc, ◌-◌, ◌<◌, List, [], ◌∷◌, ◌++◌, length, get_or, drop, take, ℤ, pos, ◌+ℤ◌, refl, ◌∙◌, arith, length-append}
use Rattle.std.proofs.lemmas.List.{length-take, get_or-take}
use Rattle.field.specs.Rings.{Operations}
use Rattle.field.specs.Convolution.{tabulate, at, mixed}
use Rattle.field.specs.Meaning.{Arithmetic, coded}
use Rattle.field.proofs.Tables.{length_tabulate, tabulate_is, padded}
use Rattle.divstep.specs.Steps.{State, lists, reduced, state_of, shifted_at, not_zero}

-- a / x, place by place
pub down_is : (n : ℕ) (a : List ℕ) → length a ≡ n → 0 < n → drop 1 a ++ 0 ∷ [] ≡ tabulate (length a) (λ k. get_or a (suc k) 0)
down_is n [] e h = absurd (omega arith)
down_is n (x ∷ a) e h = tabulate_is _ _ (a ++ 0 ∷ []) 0 (omega (arith, length-append a (0 ∷ []))) (λ k l. padded a 0 k)

-- x·a, place by place
pub up_is : (n : ℕ) (O : Operations ℕ) (a : List ℕ) → length a ≡ n → 0 < n → O.zero ∷ take (n - 1) a ≡ tabulate (length a) (shifted_at O (at O a))
up_is n O a e h = tabulate_is _ _ (O.zero ∷ take (n - 1) a) O.zero (omega (arith, length-take (n - 1) a)) go
  where
    go : (k : ℕ) → k < length a → get_or (O.zero ∷ take (n - 1) a) k O.zero ≡ shifted_at O (at O a) k
    go zero l = refl
    go (suc k) l = get_or-take (n - 1) a k O.zero (omega arith)

-- a window after the reduction, list by list
pub reduced_is : (A : Arithmetic) (s : State (List ℕ)) (d : ℤ) (f g u v q r : List ℕ) →
    length s.g ≡ 16 →
    length s.u ≡ 17 →
    length s.v ≡ 17 →
    d ≡ s.δ +ℤ pos 1 →
    f ≡ s.f →
    g ≡ drop 1 (mixed (coded A) (get_or s.f 0 0) s.g (get_or s.g 0 0) s.f) ++ 0 ∷ [] →
    u ≡ 0 ∷ take 16 s.u →
    v ≡ 0 ∷ take 16 s.v →
    q ≡ mixed (coded A) (get_or s.f 0 0) s.q (get_or s.g 0 0) s.u →
    r ≡ mixed (coded A) (get_or s.f 0 0) s.r (get_or s.g 0 0) s.v →
    state_of d f g u v q r ≡ reduced (lists (coded A)) not_zero s
unfolding coded
reduced_is A s d f g u v q r lg lu lv hd hf hg hu hv hq hr =
    let O = coded A in
    let m = mixed O (get_or s.f 0 0) s.g (get_or s.g 0 0) s.f in
    let g' = hg ∙ down_is 16 m (length_tabulate (length s.g) _ ∙ lg) (omega arith) in
    let u' = hu ∙ up_is 17 O s.u lu (omega arith) in
    let v' = hv ∙ up_is 17 O s.v lv (omega arith) in
    λ i. state_of (hd i) (hf i) (g' i) (u' i) (v' i) (hq i) (hr i)
