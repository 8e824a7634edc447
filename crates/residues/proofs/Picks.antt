-- Lanes at each second place, and what holds of numbers by their parity.
-- Main results: `pick_own`, `turn_even` and `turn_odd`, `by_parity`.
use Rattle.std.proofs.Common.{◌≡◌, ℕ, zero, suc, ◌+◌, ◌*◌, ◌<◌, List, [], ◌∷◌, ◌++◌, map, length, get_or, refl, ap, ◌∙◌, subst, arith}
use Rattle.std.proofs.lemmas.List.{get_or_append_left}

abbrev pub by_two : ℕ → ℕ → List ℕ
by_two a zero = []
by_two a (suc n) = a ∷ by_two (a + 2) n

abbrev pub turns : ℕ → ℕ → ℕ → List ℕ
turns a b zero = []
turns a b (suc n) = a ∷ b ∷ turns a b n

pub pick_two : (xs : List ℕ) (a n l : ℕ) → l < n → get_or (map (λ k. get_or xs k 0) (by_two a n)) l 0 ≡ get_or xs (a + 2 * l) 0
pick_two xs a zero l h = absurd (omega arith)
pick_two xs a (suc n) zero h = ap (λ k. get_or xs k 0) (omega arith)
pick_two xs a (suc n) (suc l) h = pick_two xs (a + 2) n l (omega arith) ∙ ap (λ k. get_or xs k 0) (omega arith)

pub pick_own : (xs : List ℕ) (a l : ℕ) → l < 32 → a < 2 → length xs ≡ 64 → get_or (map (λ k. get_or (xs ++ xs) k 0) (by_two a 32)) l 0 ≡ get_or xs (a + 2 * l) 0
pick_own xs a l h s e = pick_two (xs ++ xs) a 32 l h ∙ get_or_append_left xs xs 0 (a + 2 * l) (omega arith)

pub turn_even : (a b n l : ℕ) → l < n → get_or (turns a b n) (2 * l) 0 ≡ a
turn_even a b zero l h = absurd (omega arith)
turn_even a b (suc n) zero h = refl
turn_even a b (suc n) (suc l) h =
    let e : 2 * suc l ≡ suc (suc (2 * l)) = omega arith in
    ap (λ k. get_or (a ∷ b ∷ turns a b n) k 0) e ∙ turn_even a b n l (omega arith)

pub turn_odd : (a b n l : ℕ) → l < n → get_or (turns a b n) (2 * l + 1) 0 ≡ b
turn_odd a b zero l h = absurd (omega arith)
turn_odd a b (suc n) zero h = refl
turn_odd a b (suc n) (suc l) h =
    let e : 2 * suc l + 1 ≡ suc (suc (2 * l + 1)) = omega arith in
    ap (λ k. get_or (a ∷ b ∷ turns a b n) k 0) e ∙ turn_odd a b n l (omega arith)

-- what holds of each even and each odd number below 2 * n holds of each number below it
pub by_parity : (P : ℕ → Type 0) (n : ℕ) → ((l : ℕ) → l < n → P (2 * l)) → ((l : ℕ) → l < n → P (2 * l + 1)) → (k : ℕ) → k < 2 * n → P k
by_parity P zero e o k h = absurd (omega arith)
by_parity P (suc n) e o zero h = e 0 (omega arith)
by_parity P (suc n) e o (suc zero) h = o 0 (omega arith)
by_parity P (suc n) e o (suc (suc k)) h =
    by_parity (λ j. P (suc (suc j))) n
    (λ l i. let f : 2 * suc l ≡ suc (suc (2 * l)) = omega arith in subst P f (e (suc l) (omega arith)))
    (λ l i. let f : 2 * suc l + 1 ≡ suc (suc (2 * l + 1)) = omega arith in subst P f (o (suc l) (omega arith)))
    k (omega arith)
