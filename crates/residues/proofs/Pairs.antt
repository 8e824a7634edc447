-- Sums of products of rows and pairs.
-- Main results: `at_most_chunk`, `pair_coef`, `pair_low`, `pair_skip`, `pair_end`, `pair_bound`, `window_step`.
use Rattle.std.proofs.Common.{◌≡◌, ℕ, zero, suc, ◌+◌, ◌-◌, ◌*◌, ◌<◌, ◌≤◌, List, [], ◌∷◌, length, get_or, drop, sym, refl, ap, ◌∙◌, inl, inr, add_assoc, mul_comm, add-mul, mul-le-mul, arith}
use lib.Lanes.{chunk}
use Rattle.std.proofs.lemmas.Bool.{cases_lt}
use Rattle.std.proofs.lemmas.List.{drop_more, drop_all, get_or_past, length-take}
use Rattle.std.proofs.lemmas.Simd.{get_or-chunk}
use Rattle.field.specs.Meaning.{code}
use Rattle.residues.specs.Sums.{AtMost, pair_sum, nat_coef, Spread}
use Rattle.residues.proofs.Coefficients.{none, code_past}

-- what is at most m in a list is at most any greater number in a part of it
pub at_most_chunk : (m i n : ℕ) (xs : List ℕ) (top : ℕ) → m ≤ top → AtMost m xs → AtMost top (chunk i n xs)
at_most_chunk m i n xs top l h k =
    elim (cases_lt k n) [
      | inl a ↦ omega (arith, get_or-chunk i n xs k 0 a, h (i + k))
      | inr a ↦ omega (arith, get_or_past (chunk i n xs) k 0 (omega (arith, length-take n (drop i xs))))
    ]

module _ (q : ℕ) where
  -- a product with the code b in place of one with it at its place
  swap : (b y x : ℕ) → code q x ≡ x → b ≡ code q y → b * x ≡ code q x * code q y
  swap b y x c e = ap (λ z. z * x) e ∙ mul_comm (code q y) x ∙ ap (λ z. z * code q y) (sym c)

  -- below the first place all is 0
  pub pair_low : (ys xs bs : List ℕ) (t : ℕ) → Spread q ys bs → t < 190 → pair_sum xs bs t ≡ 0
  pair_low ys [] bs t s h = refl
  pair_low ys (x ∷ []) bs t s h = refl
  pair_low ys (x ∷ y ∷ xs) bs t s h =
      omega (
        arith,
        none (get_or bs (2 * t) 0) x (s.low_first t h),
        none (get_or bs (2 * t + 1) 0) y (s.low_second t (omega arith)),
        pair_low ys xs bs (t - 2) s (omega arith),
      )

  -- codes, two by two, with the pairs
  pub pair_coef : (n : ℕ) (ys xs bs : List ℕ) (k : ℕ) → Spread q ys bs → length xs ≡ 2 * n → ((i : ℕ) → code q (get_or xs i 0) ≡ get_or xs i 0) →
      pair_sum xs bs (190 + k) ≡ nat_coef q xs ys k
  pair_coef n ys [] bs k s e c = refl
  pair_coef n ys (x ∷ []) bs k s e c = absurd (omega arith)
  pair_coef zero ys (x ∷ y ∷ xs) bs k s e c = absurd (omega arith)
  pair_coef (suc n) ys (x ∷ y ∷ xs) bs zero s e c =
      omega (
        arith,
        swap (get_or bs 380 0) (get_or ys 0 0) x (c 0) (s.first 0),
        none (get_or bs 381 0) y (s.low_second 190 (omega arith)),
        pair_low ys xs bs 188 s (omega arith),
      )
  pair_coef (suc n) ys (x ∷ y ∷ xs) bs (suc zero) s e c =
      omega (
        arith,
        swap (get_or bs 382 0) (get_or ys 1 0) x (c 0) (s.first 1),
        swap (get_or bs 383 0) (get_or ys 0 0) y (c 1) (s.second 0),
        pair_low ys xs bs 189 s (omega arith),
      )
  pair_coef (suc n) ys (x ∷ y ∷ xs) bs (suc (suc k)) s e c =
      let t : ℕ = 190 + suc (suc k) in
      let f : 2 * (191 + suc k) + 1 ≡ 2 * t + 1 = omega arith in
      let g : 190 + k ≡ t - 2 = omega arith in
      let two : get_or bs (2 * t + 1) 0 ≡ code q (get_or ys (suc k) 0) = ap (λ z. get_or bs z 0) (sym f) ∙ s.second (suc k) in
      let rest : pair_sum xs bs (t - 2) ≡ nat_coef q xs ys k =
      ap (λ z. pair_sum xs bs z) (sym g) ∙ pair_coef n ys xs bs k s (omega arith) (λ i. c (suc (suc i))) in
      omega (
        arith,
        swap (get_or bs (2 * t) 0) (get_or ys (suc (suc k)) 0) x (c 0) (s.first (suc (suc k))),
        swap (get_or bs (2 * t + 1) 0) (get_or ys (suc k) 0) y (c 1) two,
        rest,
      )

  -- rows of which the pairs are past the end
  pub pair_skip : (m : ℕ) (ys xs bs : List ℕ) (t : ℕ) → Spread q ys bs → (0 < m → length ys + 189 + 2 * m ≤ t) → 2 * m ≤ length xs →
      pair_sum (drop (2 * m) xs) bs (t - 2 * m) ≡ pair_sum xs bs t
  pair_skip zero ys xs bs t s h l = let e : t - 0 ≡ t = omega arith in ap (pair_sum xs bs) e
  pair_skip (suc m) ys [] bs t s h l = absurd (omega arith)
  pair_skip (suc m) ys (x ∷ []) bs t s h l = absurd (omega arith)
  pair_skip (suc m) ys (x ∷ y ∷ xs) bs t s h l =
      let far : length ys + 189 + 2 * suc m ≤ t = h (omega arith) in
      let d : 2 * suc m ≡ suc (suc (2 * m)) = omega arith in
      let f : t - suc (suc (2 * m)) ≡ t - 2 - 2 * m = omega arith in
      let i0 : 2 * (190 + (t - 190)) ≡ 2 * t = omega arith in
      let i1 : 2 * (191 + (t - 191)) + 1 ≡ 2 * t + 1 = omega arith in
      let b0 : get_or bs (2 * t) 0 ≡ 0 = ap (λ z. get_or bs z 0) (sym i0) ∙ s.first (t - 190) ∙ code_past q ys (t - 190) (omega arith) in
      let b1 : get_or bs (2 * t + 1) 0 ≡ 0 = ap (λ z. get_or bs z 0) (sym i1) ∙ s.second (t - 191) ∙ code_past q ys (t - 191) (omega arith) in
      ap (λ z. pair_sum (drop z (x ∷ y ∷ xs)) bs (t - z)) d
      ∙ ap (λ z. pair_sum (drop (2 * m) xs) bs z) f
      ∙ pair_skip m ys xs bs (t - 2) s (λ p. omega arith) (omega arith)
      ∙ omega (arith, none (get_or bs (2 * t) 0) x b0, none (get_or bs (2 * t + 1) 0) y b1)

-- two numbers more
pub pair_step : (xs bs : List ℕ) (i t sum : ℕ) → i + 1 < length xs →
    (sum + (get_or bs (2 * t) 0 * get_or xs i 0 + get_or bs (2 * t + 1) 0 * get_or xs (i + 1) 0)) + pair_sum (drop (i + 2) xs) bs (t - 2) ≡ sum + pair_sum (drop i xs) bs t
pair_step xs bs i t sum h =
    let h0 : i < length xs = omega arith in
    let e : i + 1 + 1 ≡ i + 2 = omega arith in
    let f : drop i xs ≡ get_or xs i 0 ∷ get_or xs (i + 1) 0 ∷ drop (i + 2) xs =
    drop_more xs i 0 h0 ∙ ap (λ z. get_or xs i 0 ∷ z) (drop_more xs (i + 1) 0 h ∙ ap (λ z. get_or xs (i + 1) 0 ∷ drop z xs) e) in
    add_assoc sum _ _ ∙ ap (λ z. sum + pair_sum z bs t) (sym f)

pub pair_end : (xs bs : List ℕ) (i t : ℕ) → length xs ≤ i → pair_sum (drop i xs) bs t ≡ 0
pair_end xs bs i t h = ap (λ z. pair_sum z bs t) (drop_all i xs h)

-- at most b in each of the two lists
pub pair_bound : (c b : ℕ) (xs bs : List ℕ) (t : ℕ) → ((k : ℕ) → get_or xs k 0 ≤ b) → ((k : ℕ) → get_or bs k 0 ≤ b) → c ≡ b * b → pair_sum xs bs t ≤ length xs * c
pair_bound c b [] bs t hx hb e = omega arith
pair_bound c b (x ∷ []) bs t hx hb e = omega arith
pair_bound c b (x ∷ y ∷ xs) bs t hx hb e =
    let p : get_or bs (2 * t) 0 * x ≤ b * b = mul-le-mul (hb (2 * t)) (hx 0) in
    let r : get_or bs (2 * t + 1) 0 * y ≤ b * b = mul-le-mul (hb (2 * t + 1)) (hx 1) in
    let s : pair_sum xs bs (t - 2) ≤ length xs * c = pair_bound c b xs bs (t - 2) (λ k. hx (suc (suc k))) hb e in
    let n : (length xs + 2) * c ≡ length xs * c + 2 * c = add-mul (length xs) 2 c in
    let m : length (x ∷ y ∷ xs) * c ≡ (length xs + 2) * c = ap (λ z. z * c) (omega arith) in
    omega (arith, p, r, s, e, n, m)

-- one turn: the row of bs from 2 * base + 4 * (95 - m) on, times the numbers 2 * m and 2 * m + 1
pub window_step : (m k base : ℕ) (xs bs sums two turn : List ℕ) → m < 96 → k < 32 → 2 * m + 1 < length xs →
    get_or turn (2 * k) 0 ≡ get_or xs (2 * m) 0 → get_or turn (2 * k + 1) 0 ≡ get_or xs (2 * m + 1) 0 →
    get_or two k 0 ≡ get_or (chunk (2 * base + 4 * (95 - m)) 64 bs) (2 * k) 0 * get_or turn (2 * k) 0 + get_or (chunk (2 * base + 4 * (95 - m)) 64 bs) (2 * k + 1) 0 * get_or turn (2 * k + 1) 0 →
    get_or sums k 0 + pair_sum (drop (2 * m) xs) bs (190 + (base + k) - 2 * m) ≡ pair_sum xs bs (190 + (base + k)) →
    (get_or sums k 0 + get_or two k 0) + pair_sum (drop (2 * (m + 1)) xs) bs (190 + (base + k) - 2 * (m + 1)) ≡ pair_sum xs bs (190 + (base + k))
window_step m k base xs bs sums two turn hm hk long ev od is inv =
    let t : ℕ = 190 + (base + k) - 2 * m in
    let o : ℕ = 2 * base + 4 * (95 - m) in
    let e0 : 2 * base + 4 * (95 - m) + 2 * k ≡ 2 * t = omega arith in
    let e1 : 2 * base + 4 * (95 - m) + (2 * k + 1) ≡ 2 * t + 1 = omega arith in
    let b0 : get_or (chunk o 64 bs) (2 * k) 0 ≡ get_or bs (2 * t) 0 = get_or-chunk o 64 bs (2 * k) 0 (omega arith) ∙ ap (λ z. get_or bs z 0) e0 in
    let b1 : get_or (chunk o 64 bs) (2 * k + 1) 0 ≡ get_or bs (2 * t + 1) 0 = get_or-chunk o 64 bs (2 * k + 1) 0 (omega arith) ∙ ap (λ z. get_or bs z 0) e1 in
    let two_is : get_or two k 0 ≡ get_or bs (2 * t) 0 * get_or xs (2 * m) 0 + get_or bs (2 * t + 1) 0 * get_or xs (2 * m + 1) 0 =
    is ∙ rw (b0, b1, ev, od) in
    let d : 2 * (m + 1) ≡ 2 * m + 2 = omega arith in
    let f : 190 + (base + k) - 2 * (m + 1) ≡ t - 2 = omega arith in
    let new : ℕ = get_or sums k 0 + (get_or bs (2 * t) 0 * get_or xs (2 * m) 0 + get_or bs (2 * t + 1) 0 * get_or xs (2 * m + 1) 0) in
    ap (λ z. (get_or sums k 0 + z) + pair_sum (drop (2 * (m + 1)) xs) bs (190 + (base + k) - 2 * (m + 1))) two_is
    ∙ ap (λ z. new + pair_sum (drop z xs) bs (190 + (base + k) - 2 * (m + 1))) d
    ∙ ap (λ z. new + pair_sum (drop (2 * m + 2) xs) bs z) f
    ∙ pair_step xs bs (2 * m) t (get_or sums k 0) (omega arith)
    ∙ inv
