-- Counting the places where two lists agree, and lists of trits as lists of codes.
-- Main results: `full_agreement`, `tripled_codes`.
use Rattle.std.proofs.Common.{◌≡◌, ℕ, zero, suc, ◌*◌, ◌<◌, Bool, true, false, ◌&&◌, eqb, leb, cond, List, [], ◌∷◌, map, length, get_or, set, None, sym, refl, ◌∙◌, ap₂, ⊎_elim, mod-lt, arith, length-set, replicate}
use Rattle.std.proofs.lemmas.List.{length-map, get_or-set_same, get_or-set_other, length-replicate}
use Rattle.field.proofs.Tables.{tabulate_is, replicate_at}
use Rattle.std.proofs.lemmas.Bool.{eqb-true, eq-eqb, cases_Bool, and_parts, cond-true, cond-false, and_from, lt-ltb}
use Rattle.std.specs.List.{zip, AllZip}
use Rattle.std.proofs.lemmas.List.Sums.{sum_by-cons, count_by-le-length}
use Rattle.std.proofs.lemmas.Slice.Zip.{length-zip}
use Rattle.refusal.specs.declared.Refusal.TheVariants.{Degree, Length, NotACode}
use Rattle.refusal.specs.Questions.{asked, first_no}
use Rattle.ring.specs.Asked.{operands_asked}
use Rattle.field.specs.Meaning.{all_codes, coded}
use Rattle.residues.specs.Residues.{residues}
use Rattle.ring.specs.Polynomials.{unit, unit_at}
use Rattle.keytext.specs.Agreement.{lift, triple, tripled, agreeing, lists_asked}

-- lists that agree at each place are equal
pub full_agreement : (xs ys : List ℕ) → length xs ≡ length ys → agreeing xs ys ≡ length xs → xs ≡ ys
full_agreement [] [] long full = refl
full_agreement [] (y ∷ ys) long full = absurd (omega arith)
full_agreement (x ∷ xs) [] long full = absurd (omega arith)
full_agreement (x ∷ xs) (y ∷ ys) long full =
    let same : ℕ × ℕ → Bool = λ p. eqb p.0 p.1 in
    let one = sum_by-cons (λ p. cond (same p) 1 0) (x, y) (zip xs ys) in
    ⊎_elim
    (λ e. ap₂ ◌∷◌ (eqb-true x y e) (full_agreement xs ys (omega arith) (omega (arith, one, cond-true {A = ℕ} (eqb x y) 1 0 e))))
    (λ e. absurd (omega (arith, one, cond-false {A = ℕ} (eqb x y) 1 0 e, count_by-le-length same (zip xs ys), length-zip xs ys)))
    (cases_Bool (eqb x y))

-- three times a trit is a code
pub tripled_codes : (xs : List ℕ) → all_codes 4591 (tripled xs) ≡ true
unfolding all_codes
tripled_codes [] = refl
tripled_codes (x ∷ xs) = and_from _ _ (lt-ltb (triple x) 4591 (mod-lt (3 * lift x) (omega arith))) (tripled_codes xs)

-- numbers that are what f makes of others, place by place
pub mapped : (f : ℕ → ℕ) (R : ℕ → ℕ → Type 0) → ((x y : ℕ) → R x y → y ≡ f x) → (xs ys : List ℕ) → AllZip R xs ys → ys ≡ map f xs
mapped f R is [] [] all = refl
mapped f R is [] (y ∷ ys) all = absurd all
mapped f R is (x ∷ xs) [] all = absurd all
mapped f R is (x ∷ xs) (y ∷ ys) all = ap₂ ◌∷◌ (is x y all.0) (mapped f R is xs ys all.1)

-- zeros with a 1 in front are the polynomial 1
pub one_written : (n : ℕ) → set (replicate n 0) 0 1 ≡ unit (coded (residues 3)) n
unfolding coded unit
one_written n = tabulate_is n _ (set zeros 0 1) 0 (length-set zeros 0 1 ∙ length-replicate {A = ℕ} n 0) at
  where
    zeros : List ℕ
    zeros = replicate n 0

    at : (k : ℕ) → k < n → get_or (set zeros 0 1) k 0 ≡ unit_at (coded (residues 3)) k
    at zero h = get_or-set_same zeros 0 1 0 (omega (arith, length-replicate {A = ℕ} n 0))
    at (suc k) h = get_or-set_other zeros 0 (suc k) 1 0 (omega arith) ∙ replicate_at n 0 (suc k)

-- three questions that are answered yes
three_yes : (a b c : Bool) → None ≡ first_no (asked Degree a ∷ asked Length b ∷ asked (NotACode 0) c ∷ []) → (a ≡ true) × (b ≡ true) × (c ≡ true)
three_yes true true true e = (refl, refl, refl)
three_yes true true false e = absurd cc
three_yes true false c e = absurd cc
three_yes false b c e = absurd cc

-- where the key's questions are answered yes, so are the ring's
pub ring_asked : (p : ℕ) (g f h : List ℕ) → None ≡ first_no (lists_asked p g f h) → first_no (operands_asked 4591 p h (tripled f) p) ≡ first_no (lists_asked p g f h)
ring_asked p g f h e =
    let yes = three_yes (leb 2 p && leb p 1277) _ _ e in
    let long = and_parts _ _ yes.1 in
    let codes = and_parts _ _ yes.2 in
    let f_long : length (tripled f) ≡ p = length-map f triple ∙ eqb-true _ _ (and_parts _ _ long.0).1 in
    let lengths = and_from _ _ (and_from _ _ long.1 (eq-eqb _ _ f_long)) (eq-eqb p p refl) in
    let both = and_from _ _ codes.1 (tripled_codes f) in
    ap₂ (λ b c. first_no (asked Degree (leb 2 p && leb p 1277) ∷ asked Length b ∷ asked (NotACode 0) c ∷ [])) (lengths ∙ sym yes.1) (both ∙ sym yes.2)
