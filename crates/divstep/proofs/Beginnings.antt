-- The lists that division steps begin with.
-- Main results: `zeros_are`, `one_is`, and that the reversed lists hold codes.
use Rattle.std.proofs.Common.{◌≡◌, ℕ, zero, suc, ◌+◌, ◌-◌, ◌<◌, List, [], ◌∷◌, ◌++◌, reverse, length, get_or, replicate, sym, refl, ◌∙◌, subst, arith}
use native.Mathlib.Decide.{dec_lt}
use lib.ListN.{length-replicate}
use Rattle.std.proofs.lemmas.List.{get_or-reverse, get_or_past, length-reverse}
use Rattle.field.specs.Convolution.{tabulate}
use Rattle.field.specs.Meaning.{Arithmetic, coded}
use Rattle.field.proofs.Tables.{tabulate_is, replicate_at, padded}
use Rattle.ring.specs.Polynomials.{unit_at}

module _ (A : Arithmetic) (m : ℕ) where
  -- the polynomial 0 in m coefficients
  pub zeros_are : (n : ℕ) → n ≡ m → replicate n 0 ≡ tabulate m (λ k. (coded A).zero)
  unfolding coded
  zeros_are n e = tabulate_is m _ (replicate n 0) 0 (length-replicate n 0 ∙ e) (λ k h. replicate_at n 0 k)

  -- the polynomial 1
  pub one_is : (n : ℕ) → n + 1 ≡ m → 1 ∷ replicate n 0 ≡ tabulate m (unit_at (coded A))
  unfolding coded
  one_is n e = tabulate_is m _ (1 ∷ replicate n 0) 0 (omega (arith, length-replicate {A = ℕ} n 0)) go
    where
      go : (k : ℕ) → k < m → get_or (1 ∷ replicate n 0) k 0 ≡ unit_at (coded A) k
      go zero h = refl
      go (suc k) h = replicate_at n 0 k

tail_code : (s m : ℕ) → 0 < s → m < s → (n k : ℕ) → get_or (replicate n 0 ++ (m ∷ m ∷ [])) k 0 < s
tail_code s m h l zero zero = l
tail_code s m h l zero (suc zero) = l
tail_code s m h l zero (suc (suc k)) = h
tail_code s m h l (suc n) zero = h
tail_code s m h l (suc n) (suc k) = tail_code s m h l n k

pub modulus_codes : (s m n : ℕ) (f : List ℕ) → 1 < s → m < s → f ≡ 1 ∷ (replicate n 0 ++ (m ∷ m ∷ [])) → (k : ℕ) → k < length f → get_or f k 0 < s
modulus_codes s m n f h l e k i = subst (λ x. get_or x k 0 < s) (sym e) (go k)
  where
    go : (k : ℕ) → get_or (1 ∷ (replicate n 0 ++ (m ∷ m ∷ []))) k 0 < s
    go zero = h
    go (suc k) = tail_code s m (omega arith) l n k

pub reversed_codes : (s : ℕ) (a g : List ℕ) → 0 < s → ((k : ℕ) → k < length a → get_or a k 0 < s) → g ≡ reverse a ++ (0 ∷ []) → (k : ℕ) → k < length g → get_or g k 0 < s
reversed_codes s a g h c e k i = subst (λ x. get_or x k 0 < s) (sym e) (subst (λ x. x < s) (sym (padded (reverse a) 0 k)) (go (dec_lt k (length a))))
  where
    go : Dec (k < length a) → get_or (reverse a) k 0 < s
    go (yes l) = subst (λ x. x < s) (sym (get_or-reverse a k 0 l)) (c (length a - 1 - k) (omega arith))
    go (no l) = subst (λ x. x < s) (sym (get_or_past (reverse a) k 0 (omega (arith, length-reverse a)))) h
