-- Tests that look at every item, also after one that does not pass.
-- Main results: `passing_more`, `passes`; `tested`, `zeros_are`.
use Rattle.std.proofs.Common.{◌≡◌, ℕ, zero, suc, ◌+◌, ◌<◌, Bool, true, ◌&&◌, ◌==◌, List, [], ◌∷◌, ◌++◌, length, replicate, sym, refl, ap, ◌∙◌, ap₂, inl, inr, add-one, zero-add, arith}
use Rattle.std.proofs.Math.Bool.{and-true, and_assoc}
use Rattle.std.specs.List.{fold, list_all, range_with_len}
use Rattle.std.proofs.lemmas.Bool.{and_parts, cases_lt, eqb-true}
use Rattle.std.proofs.lemmas.List.{map-id}
use Rattle.std.proofs.lemmas.List.FromFn.{map-range_with_len_more}
use Rattle.std.proofs.lemmas.List.Sums.{fold-append}

module _ (f : ℕ → Bool) where
  -- do the numbers below n pass?
  abbrev pub passing : ℕ → Bool
  passing n = fold (λ all i. all && f i) true (range_with_len 0 n)

  pub passing_more : (n : ℕ) → passing (n + 1) ≡ (passing n && f n)
  passing_more n =
      ap (fold (λ all i. all && f i) true) (sym (map-id _) ∙ map-range_with_len_more (λ (i : ℕ). i) 0 n n (zero-add n) ∙ ap (λ l. l ++ n ∷ []) (map-id _))
      ∙ fold-append (λ all i. all && f i) true (range_with_len 0 n) (n ∷ [])

  pub passes : (n i : ℕ) → i < n → passing n ≡ true → f i ≡ true
  passes zero i l e = absurd (omega arith)
  passes (suc n) i l e =
      let both = and_parts (passing n) (f n) (sym (passing_more n) ∙ ap passing (add-one n) ∙ e) in
      elim (cases_lt i n) [
        | inl h ↦ passes n i h both.0
        | inr h ↦ let same : i ≡ n = omega arith in ap f same ∙ both.1
      ]

-- a test of the items of a list, after an answer so far
tested_after : (test : ℕ → Bool) (b : Bool) (xs : List ℕ) → fold (λ all x. all && test x) b xs ≡ (b && list_all test xs)
tested_after test b [] = sym (and-true b)
tested_after test b (x ∷ xs) = tested_after test (b && test x) xs ∙ and_assoc b (test x) (list_all test xs)

pub tested : (test : ℕ → Bool) (xs : List ℕ) → fold (λ all x. all && test x) true xs ≡ list_all test xs
tested test = tested_after test true

pub zeros_are : (xs : List ℕ) → list_all (λ x. x == 0) xs ≡ true → xs ≡ replicate (length xs) 0
zeros_are [] e = refl
zeros_are (x ∷ xs) e = let both = and_parts (x == 0) _ e in ap₂ ◌∷◌ (eqb-true x 0 both.0) (zeros_are xs both.1)
