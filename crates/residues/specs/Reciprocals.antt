-- Reciprocals modulo q. Two tests that antt computes, each once: over a whole table, carried to each of its entries, and
-- over all residues by their powers, which shows that each but 0 has a reciprocal.
-- It is in specs/, since an implementation of a trait cannot cite the proofs of its own crate.
-- Main results: `table_entry`, `powers_invert`.
use Rattle.std.specs.Prelude.{◌≡◌, ℕ, zero, suc, ◌+◌, ◌*◌, ◌%◌, ◌^◌, ◌<◌, ◌≤◌, Bool, true, false, cond, ◌&&◌, T, ◌≢◌, List, [], ◌∷◌, length, Some, None, ◌==◌, nat_lt, slice_index, slice_index_or}
use Rattle.std.proofs.Math.Path.{refl, ap}
use Rattle.std.proofs.Common.{sym, ◌∙◌, subst, add-zero, zero-add, add-suc, suc-add, zero-mul, mul_comm, mul_assoc, mul-one, mod-eq_of_lt, mod-lt, arith, lit≤, ltb→lt, eqb→eq}
use Rattle.std.proofs.Math.Logic.{inl, inr}
use Rattle.std.proofs.Math.Nat.{zero-mod}
use Rattle.std.proofs.lemmas.Bool.{eq-eqb, ne_eqb, cases_eq}
use Rattle.field.specs.Meaning.{ReciprocalLaws, IsReciprocal}
use Rattle.residues.specs.Residues.{residues, last_below, reciprocal_mod, every, right_entry, ReciprocalTable}
use Rattle.residues.specs.ResiduesLemmas.{mul_mod_mod}

and_left : (a b : Bool) → T (a && b) → T a
and_left true b t = tt
and_left false b t = t

and_right : (a b : Bool) → T (a && b) → T b
and_right true b t = t
and_right false b t = absurd t

-- a test that every entry passes, at one of them
every_at : (f : ℕ → ℕ → Bool) (xs : List ℕ) (i : ℕ) → T (every f i xs) → (k : ℕ) → k < length xs → T (f (i + k) (slice_index xs k))
every_at f [] i t k h = absurd (omega arith)
every_at f (x ∷ xs) i t zero h = subst (λ (m : ℕ). T (f m x)) (sym (add-zero i)) (and_left (f i x) (every f (suc i) xs) t)
every_at f (x ∷ xs) i t (suc k) h =
    subst (λ (m : ℕ). T (f m (slice_index xs k))) (suc-add i k ∙ sym (add-suc i k))
    (every_at f xs (suc i) (and_right (f i x) (every f (suc i) xs) t) k (omega arith))

-- two residues whose products with a leave 1 are one
unique : (q a x y : ℕ) → x < q → y < q → a * x % q ≡ 1 → a * y % q ≡ 1 → x ≡ y
unique q a x y hx hy ex ey = sym (turn x y hx ey) ∙ ap (λ z. z % q) swap ∙ turn y x hy ex
  where
    -- x times (a times y) is x again
    turn : (x y : ℕ) → x < q → a * y % q ≡ 1 → x * (a * y) % q ≡ x
    turn x y h e = sym (mul_mod_mod x (a * y) q) ∙ ap (λ z. x * z % q) e ∙ ap (λ z. z % q) (mul-one x) ∙ mod-eq_of_lt h

    swap : x * (a * y) ≡ y * (a * x)
    swap = sym (mul_assoc x a y) ∙ mul_comm (x * a) y ∙ ap (λ z. y * z) (mul_comm x a)

module _ (q : ℕ) (least : 2 ≤ q) where
  found : (a x n : ℕ) → n ≤ q → x < n → a * x % q ≡ 1 → last_below q a n ≡ Some x
  unfolding last_below
  found a x zero hn hx e = absurd (omega arith)
  found a x (suc n) hn hx e =
      elim (cases_eq (a * n % q) 1) [
        | inl d ↦ ap (λ t. cond t (Some n) (last_below q a n)) (eq-eqb (a * n % q) 1 d) ∙ ap Some (unique q a n x (omega arith) (omega arith) d e)
        | inr ne ↦
            ap (λ t. cond t (Some n) (last_below q a n)) (ne_eqb (a * n % q) 1 ne)
            ∙ found a x n (omega arith) (elim (cases_eq x n) [ inl s ↦ absurd (ne (ap (λ z. a * z % q) (sym s) ∙ e)) | inr d ↦ omega (arith, d) ]) e
      ]

  none : (n : ℕ) → last_below q 0 n ≡ None
  unfolding last_below
  none zero = refl
  none (suc n) =
      let z : 0 * n % q ≡ 0 = ap (λ m. m % q) (zero-mul n) ∙ zero-mod q in
      ap (λ t. cond t (Some n) (last_below q 0 n)) (ne_eqb (0 * n % q) 1 (λ d. omega (arith, z, d))) ∙ none n

  pub reciprocal_zero : reciprocal_mod q 0 ≡ None
  reciprocal_zero = none q

  module _ (xs : List ℕ) (table : ReciprocalTable q xs) where
    entry : (k : ℕ) → k < q → T (right_entry q k (slice_index xs k))
    entry k h =
        subst (λ m. T (right_entry q m (slice_index xs k))) (zero-add k)
        (every_at (right_entry q) xs 0 table.right k (subst (λ n. k < n) (sym table.whole) h))

    entry_below : (k : ℕ) → k < q → slice_index xs k < q
    entry_below k h = ltb→lt _ q (and_left (nat_lt (slice_index xs k) q) _ (entry k h))

    entry_one : (k : ℕ) → k < q → k ≢ 0 → k * slice_index xs k % q ≡ 1
    entry_one k h ne =
        let x : ℕ = slice_index_or xs k 0 in
        eqb→eq (k * x % q) 1 (subst (λ t. T (cond t (x == 0) (k * x % q == 1))) (ne_eqb k 0 ne) (and_right (nat_lt x q) (cond (k == 0) (x == 0) (k * x % q == 1)) (entry k h)))

    -- the reciprocal of a residue stands at its place
    pub table_entry : (k : ℕ) → k < q → k ≢ 0 → reciprocal_mod q k ≡ Some (slice_index xs k)
    table_entry k h ne = found k (slice_index xs k) q (omega arith) (entry_below k h) (entry_one k h ne)

  -- a to the power with the binary digits bits, the lowest first, modulo q: by squares
  abbrev power_mod : List ℕ → ℕ → ℕ
  power_mod [] a = 1
  power_mod (b ∷ bits) a = power_mod bits a ^ 2 * a ^ b % q

  -- the test f passes at each number below n
  abbrev each_below : (ℕ → Bool) → ℕ → Bool
  each_below f zero = true
  each_below f (suc n) = f n && each_below f n

  below_at : (f : ℕ → Bool) (n : ℕ) → T (each_below f n) → (k : ℕ) → k < n → T (f k)
  below_at f zero t k h = absurd (omega arith)
  below_at f (suc n) t k h =
      elim (cases_eq k n) [
        | inl e ↦ subst (λ i. T (f i)) (sym e) (and_left (f n) (each_below f n) t)
        | inr ne ↦ below_at f n (and_right (f n) (each_below f n) t) k (omega (arith, ne))
      ]

  -- k^(q - 2) is the reciprocal of k, where the digits are those of q - 2
  abbrev inverted : List ℕ → ℕ → Bool
  inverted bits k = cond (k == 0) true (k * power_mod bits k % q == 1)

  pub powers_invert : (bits : List ℕ) → T (each_below (inverted bits) q) → ReciprocalLaws (residues q) (reciprocal_mod q)
  powers_invert bits passed = record { of_zero = reciprocal_zero; of_others = others }
    where
      others : (k : ℕ) → k < q → k ≢ 0 → IsReciprocal (residues q) k (reciprocal_mod q k)
      others k h ne =
          let y : ℕ = power_mod bits k in
          let test : T (k * y % q == 1) = subst (λ t. T (cond t true (k * y % q == 1))) (ne_eqb k 0 ne) (below_at (inverted bits) q passed k h) in
          let below : y % q < q = mod-lt y (omega arith) in
          let one : k * (y % q) % q ≡ 1 = mul_mod_mod k y q ∙ eqb→eq (k * y % q) 1 test in
          subst (IsReciprocal (residues q) k) (sym (found k (y % q) q (omega arith) below one)) (below, one)

pub inverts_3 : ReciprocalLaws (residues 3) (reciprocal_mod 3)
inverts_3 = powers_invert 3 (lit≤ tt) (1 ∷ []) tt

pub inverts_5 : ReciprocalLaws (residues 5) (reciprocal_mod 5)
inverts_5 = powers_invert 5 (lit≤ tt) (1 ∷ 1 ∷ []) tt

-- 4589 is 1000111101101 in binary
pub inverts_4591 : ReciprocalLaws (residues 4591) (reciprocal_mod 4591)
inverts_4591 = powers_invert 4591 (lit≤ tt) (1 ∷ 0 ∷ 1 ∷ 1 ∷ 0 ∷ 1 ∷ 1 ∷ 1 ∷ 1 ∷ 0 ∷ 0 ∷ 0 ∷ 1 ∷ []) tt
