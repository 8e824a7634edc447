-- Coefficients of products of codes, as natural numbers.
-- Main results: `coef_low` and `coef_high`, `coef_past`, `coef_same`, `coef_natural`.
use Rattle.std.proofs.Common.{◌≡◌, ℕ, zero, suc, ◌+◌, ◌*◌, ◌%◌, ◌<◌, ◌≤◌, List, [], ◌∷◌, ◌++◌, length, get_or, sym, refl, ap, ◌∙◌, ap₂, add_assoc, mod-lt, mul-zero, zero-add, zero-mul, arith}
use native.Mathlib.Nat.{zero-mod, mod-add-mod, add-mod-mod}
use Rattle.std.proofs.lemmas.List.{get_or_past}
use Rattle.field.specs.Meaning.{ArithmeticLaws, code, coded}
use Rattle.field.specs.Convolution.{coefficient}
use Rattle.field.proofs.Codes.{code_of, code_zero, coded_ring}
use Rattle.field.proofs.Sums.{coefficient_none, coefficient_first, coefficient_more}
use Rattle.residues.specs.Residues.{residues}
use Rattle.residues.specs.Sums.{nat_coef}

pub none : (b y : ℕ) → b ≡ 0 → b * y ≡ 0
none b y e = ap (λ z. z * y) e ∙ zero-mul y

module _ (q : ℕ) where
  -- the code of what stands past the end
  pub code_past : (ys : List ℕ) (k : ℕ) → length ys ≤ k → code q (get_or ys k 0) ≡ 0
  code_past ys k h = ap (code q) (get_or_past ys k 0 h) ∙ code_zero q

  -- two lists joined, at a coefficient that the second does not reach, and at one that it does
  pub coef_low : (xs zs ys : List ℕ) (k : ℕ) → k < length xs → nat_coef q (xs ++ zs) ys k ≡ nat_coef q xs ys k
  coef_low [] zs ys k h = absurd (omega arith)
  coef_low (x ∷ xs) zs ys zero h = refl
  coef_low (x ∷ xs) zs ys (suc k) h = ap (λ z. code q x * code q (get_or ys (suc k) 0) + z) (coef_low xs zs ys k (omega arith))

  pub coef_high : (xs zs ys : List ℕ) (k j : ℕ) → k ≡ length xs + j → nat_coef q (xs ++ zs) ys k ≡ nat_coef q xs ys k + nat_coef q zs ys j
  coef_high [] zs ys k j e = let f : k ≡ j = omega arith in ap (λ z. nat_coef q zs ys z) f ∙ sym (zero-add (nat_coef q zs ys j))
  coef_high (x ∷ xs) zs ys zero j e = absurd (omega arith)
  coef_high (x ∷ xs) zs ys (suc k) j e =
      ap (λ z. code q x * code q (get_or ys (suc k) 0) + z) (coef_high xs zs ys k j (omega arith))
      ∙ sym (add_assoc (code q x * code q (get_or ys (suc k) 0)) (nat_coef q xs ys k) (nat_coef q zs ys j))

  right_none : (x : ℕ) (ys : List ℕ) (k : ℕ) → length ys ≤ k → code q x * code q (get_or ys k 0) ≡ 0
  right_none x ys k h = ap (λ z. code q x * z) (code_past ys k h) ∙ mul-zero (code q x)

  -- past the end
  pub coef_past : (xs ys : List ℕ) (k : ℕ) → length xs + length ys ≤ k + 1 → nat_coef q xs ys k ≡ 0
  coef_past [] ys k h = refl
  coef_past (x ∷ xs) ys zero h = right_none x ys 0 (omega arith)
  coef_past (x ∷ xs) ys (suc k) h = omega (arith, right_none x ys (suc k) (omega arith), coef_past xs ys k (omega arith))

  coef_none : (xs ys : List ℕ) (k : ℕ) → ((i : ℕ) → code q (get_or xs i 0) ≡ 0) → nat_coef q xs ys k ≡ 0
  coef_none [] ys k c = refl
  coef_none (x ∷ xs) ys zero c = none (code q x) (code q (get_or ys 0 0)) (c 0)
  coef_none (x ∷ xs) ys (suc k) c = omega (arith, none (code q x) (code q (get_or ys (suc k) 0)) (c 0), coef_none xs ys k (λ i. c (suc i)))

  -- two lists with the same codes
  pub coef_same : (xs zs ys : List ℕ) (k : ℕ) → ((i : ℕ) → code q (get_or xs i 0) ≡ code q (get_or zs i 0)) → nat_coef q xs ys k ≡ nat_coef q zs ys k
  coef_same [] zs ys k c = sym (coef_none zs ys k (λ i. sym (c i) ∙ code_zero q))
  coef_same (x ∷ xs) [] ys k c = coef_none (x ∷ xs) ys k (λ i. c i ∙ code_zero q)
  coef_same (x ∷ xs) (z ∷ zs) ys zero c = ap (λ u. u * code q (get_or ys 0 0)) (c 0)
  coef_same (x ∷ xs) (z ∷ zs) ys (suc k) c = ap₂ (λ u v. u * code q (get_or ys (suc k) 0) + v) (c 0) (coef_same xs zs ys k (λ i. c (suc i)))

  module _ (L : ArithmeticLaws (residues q)) where
    code_mod : (x : ℕ) → code q (x % q) ≡ x % q
    code_mod x = let h : 2 ≤ q = L.size_least in code_of q (x % q) (mod-lt x (omega arith))

    -- over the residues it is the natural number reduced
    pub coef_natural : (xs ys : List ℕ) (k : ℕ) → coefficient (coded (residues q)) xs ys k ≡ nat_coef q xs ys k % q
    unfolding coded
    coef_natural [] ys k = coefficient_none (coded_ring L) ys k ∙ sym (zero-mod q)
    coef_natural (x ∷ xs) ys zero = coefficient_first (coded_ring L) x xs ys
    coef_natural (x ∷ xs) ys (suc k) =
        let p : ℕ = code q x * code q (get_or ys (suc k) 0) in
        let s : ℕ = nat_coef q xs ys k in
        coefficient_more (coded_ring L) x xs ys k
        ∙ ap₂ (λ u v. (u + v) % q) (code_mod p) (ap (code q) (coef_natural xs ys k) ∙ code_mod s)
        ∙ mod-add-mod p q (s % q)
        ∙ add-mod-mod p s q
