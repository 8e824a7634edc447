-- Numbers below 2^15 under casts by way of signed types.
-- Main results: `kept`, `each`, and what each cast asks and gives of a small number.
use Rattle.std.proofs.Common.{◌≡◌, ℕ, ◌<◌, ◌≤◌, T, List, [], ◌∷◌, map, length, get_or, nat_abs, sym, refl, ap, ◌∙◌, subst, arith, w16, w32, Fits, to_z, of_z}
use lib.Lanes.{Each1}
use mir.Facts.{to_z_pos}
use lib.Signed.{non_neg}
use Rattle.std.proofs.lemmas.Simd.{Each1-from_get_or}

abbrev pub Small : ℕ → Type 0
Small a = a ≤ 32767

pub all_small : (n : ℕ) (xs : List ℕ) → length xs ≡ n → ((k : ℕ) → k < n → Small (get_or xs k 0)) → Each1 Small xs
all_small n xs e h = Each1-from_get_or Small xs 0 (λ k l. h k (omega arith))

-- what is kept of each small number is kept of a list of them
pub kept : (f : ℕ → ℕ) → ((a : ℕ) → Small a → f a ≡ a) → (xs : List ℕ) → Each1 Small xs → map f xs ≡ xs
kept f e [] s = refl
kept f e (x ∷ xs) s = ap (λ z. z ∷ map f xs) (e x s.0) ∙ ap (λ z. x ∷ z) (kept f e xs s.1)

pub each : (P : ℕ → Type 0) → ((a : ℕ) → Small a → P a) → (xs : List ℕ) → Each1 Small xs → Each1 P xs
each P e [] s = tt
each P e (x ∷ xs) s = (e x s.0, each P e xs s.1)

pub wider_is : (a : ℕ) → Small a → of_z w32 (to_z w16 a) ≡ a
wider_is a h = ap (of_z w32) (to_z_pos w16 (omega arith))

pub back : (a : ℕ) → Small a → T (non_neg (to_z w32 a)) × Fits w32 (nat_abs (to_z w32 a))
back a h = subst (λ z. T (non_neg z) × Fits w32 (nat_abs z)) (sym (to_z_pos w32 (omega arith))) (tt, record { fits = omega arith })

pub back_is : (a : ℕ) → Small a → nat_abs (to_z w32 a) ≡ a
back_is a h = ap nat_abs (to_z_pos w32 (omega arith))
