-- A product by groups of rows.
-- Main results: `chunk_taken` and `chunk_rest`, `group_step`, `front_codes` and `front_coef`.
use Rattle.std.proofs.Common.{◌≡◌, ℕ, ◌+◌, ◌-◌, ◌*◌, ◌/◌, ◌%◌, ◌<◌, ◌≤◌, List, ◌++◌, length, get_or, take, drop, min, refl, sym, ap, ◌∙◌, inl, inr, add-zero, mul-add, mul-one, arith, take-add}
use native.Mathlib.Nat.{mod-add-mod}
use Rattle.std.proofs.lemmas.List.{get_or_past, get_or-take, get_or-drop, get_or_append_left, length-take-le, length-drop, drop-drop, drop_all, drop_at, take_at, take_min}
use Rattle.std.proofs.lemmas.Bool.{cases_lt}
use Rattle.field.specs.Meaning.{code}
use Rattle.field.proofs.Codes.{code_zero, code_code}
use Rattle.residues.specs.Sums.{pair_sum, nat_coef, Spread}
use Rattle.residues.proofs.Coefficients.{code_past, coef_low, coef_high, coef_past, coef_same}
use Rattle.residues.proofs.Pairs.{pair_coef}

-- a chunk of n elements, or of those that are left
module _ (n j : ℕ) (xs part rest : List ℕ) (cut : drop (n * j) xs ≡ part ++ rest) (long : length part ≡ min n (length (drop (n * j) xs))) where
  next : n * j + n ≡ n * (j + 1)
  next = sym (mul-add n j 1 ∙ ap (λ z. n * j + z) (mul-one n))

  pub chunk_taken : take (n * j) xs ++ part ≡ take (n * (j + 1)) xs
  chunk_taken =
      let part_is : take n (drop (n * j) xs) ≡ part =
      sym (take_min n (drop (n * j) xs)) ∙ ap (λ z. take z (drop (n * j) xs)) (sym long) ∙ ap (take (length part)) cut ∙ take_at part rest (length part) refl in
      ap (λ z. take (n * j) xs ++ z) (sym part_is) ∙ sym (take-add (n * j) n xs) ∙ ap (λ z. take z xs) next

  pub chunk_rest : rest ≡ drop (n * (j + 1)) xs
  chunk_rest =
      let left : List ℕ = drop (n * j) xs in
      let after : rest ≡ drop (length part) left = sym (drop_at part rest (length part) refl) ∙ ap (drop (length part)) (sym cut) in
      after
      ∙ elim (cases_lt (length left) n) [
        | inl a ↦ drop_all (length part) left (omega (arith, long)) ∙ sym (drop_all (n * (j + 1)) xs (omega (arith, next, length-drop (n * j) xs)))
        | inr a ↦ ap (λ z. drop z left) (omega (arith, long)) ∙ drop-drop n (n * j) xs ∙ ap (λ z. drop z xs) next
      ]

-- a part of the rows, from i on
module _ (q : ℕ) (rows : List ℕ) (c : (k : ℕ) → code q (get_or rows k 0) ≡ get_or rows k 0) (i : ℕ) (part rest : List ℕ) (cut : drop i rows ≡ part ++ rest) (fit : i ≤ length rows) where
  part_codes : (k : ℕ) → code q (get_or part k 0) ≡ get_or part k 0
  part_codes k =
      elim (cases_lt k (length part)) [
        | inl a ↦
            let r : get_or part k 0 ≡ get_or rows (i + k) 0 =
            sym (get_or_append_left part rest 0 k a) ∙ ap (λ z. get_or z k 0) (sym cut) ∙ get_or-drop i rows k 0 in
            ap (code q) r ∙ c (i + k) ∙ sym r
        | inr a ↦ let r : get_or part k 0 ≡ 0 = get_or_past part k 0 a in ap (code q) r ∙ code_zero q ∙ sym r
      ]

  -- one more group, of which n windows are all
  pub group_step : (n : ℕ) (ys bs old new : List ℕ) → length part % 2 ≡ 0 → Spread q ys bs → length part + length ys ≤ 32 * n + 1 →
      ((j : ℕ) → j < 32 * n → get_or new (i + j) 0 ≡ (get_or old (i + j) 0 + pair_sum part bs (190 + j)) % q) →
      ((j : ℕ) → j < i → get_or new j 0 ≡ get_or old j 0) →
      ((j : ℕ) → i + 32 * n ≤ j → get_or new j 0 ≡ get_or old j 0) →
      ((k : ℕ) → get_or old k 0 ≡ nat_coef q (take i rows) ys k % q) →
      (k : ℕ) → get_or new k 0 ≡ nat_coef q (take i rows ++ part) ys k % q
  group_step n ys bs old new even s wide within below above inv k =
      let t : List ℕ = take i rows in
      let lt : length t ≡ i = length-take-le i rows fit in
      elim (cases_lt k i) [
        | inl a ↦ below k a ∙ inv k ∙ ap (λ z. z % q) (sym (coef_low q t part ys k (omega (arith, lt))))
        | inr a ↦
            let j : ℕ = k - i in
            let f : i + j ≡ k = omega arith in
            let high : nat_coef q t ys k + nat_coef q part ys j ≡ nat_coef q (t ++ part) ys k = sym (coef_high q t part ys k j (omega (arith, lt))) in
            elim (cases_lt j (32 * n)) [
              | inl b ↦
                  ap (λ z. get_or new z 0) (sym f)
                  ∙ within j b
                  ∙ ap (λ z. (get_or old z 0 + pair_sum part bs (190 + j)) % q) f
                  ∙ ap (λ z. (z + pair_sum part bs (190 + j)) % q) (inv k)
                  ∙ mod-add-mod (nat_coef q t ys k) q (pair_sum part bs (190 + j))
                  ∙ ap (λ z. (nat_coef q t ys k + z) % q) (pair_coef q (length part / 2) ys part bs j s (omega (arith, even)) part_codes)
                  ∙ ap (λ z. z % q) high
              | inr b ↦
                  let past : nat_coef q part ys j ≡ 0 = coef_past q part ys j (omega arith) in
                  above k (omega arith)
                  ∙ inv k
                  ∙ ap (λ z. z % q) (sym (add-zero (nat_coef q t ys k)) ∙ ap (λ z. nat_coef q t ys k + z) (sym past) ∙ high)
            ]
      ]

-- the first m rows, which are the codes of xs and then zeros
module _ (q m : ℕ) (rows xs : List ℕ) (is : (i : ℕ) → get_or rows i 0 ≡ code q (get_or xs i 0)) (all : length xs ≤ m) (fit : m ≤ length rows) where
  front_at : (i : ℕ) → get_or (take m rows) i 0 ≡ code q (get_or xs i 0)
  front_at i =
      elim (cases_lt i m) [
        | inl a ↦ get_or-take m rows i 0 a ∙ is i
        | inr a ↦ get_or_past (take m rows) i 0 (omega (arith, length-take-le m rows fit)) ∙ sym (code_past q xs i (omega arith))
      ]

  pub front_codes : (i : ℕ) → code q (get_or (take m rows) i 0) ≡ get_or (take m rows) i 0
  front_codes i = ap (code q) (front_at i) ∙ code_code q (get_or xs i 0) ∙ sym (front_at i)

  pub front_coef : (ys : List ℕ) (k : ℕ) → nat_coef q (take m rows) ys k ≡ nat_coef q xs ys k
  front_coef ys k = coef_same q (take m rows) xs ys k (λ i. ap (code q) (front_at i) ∙ code_code q (get_or xs i 0))
