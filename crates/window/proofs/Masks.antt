-- A choice by a mask.
-- Main results: `picked`, and `a_bit`, that a number of at most 1 is 0 or 1.
use Rattle.std.proofs.Common.{◌≡◌, ℕ, ◌+◌, ◌-◌, ◌%◌, ◌^◌, ◌<◌, ◌≤◌, cond, eqb, ◌⊎◌, sym, ap, ◌∙◌, inl, inr, mod-eq_of_lt, arith}
use lib.Bits.{bit_and, bit_xor, and_comm, and_mask, and_zero_l, xor_assoc, xor_comm, xor_lt, xor_self, xor_zero_r}
use Rattle.std.proofs.lemmas.Bool.{cases_eq}

pub a_bit : (n : ℕ) → n ≤ 1 → (n ≡ 0) ⊎ (n ≡ 1)
a_bit n h = elim (cases_eq n 0) [ inl e ↦ inl e | inr d ↦ inr (omega (arith, d)) ]

module _ (a b : ℕ) (ha : a < 2 ^ 16) (hb : b < 2 ^ 16) where
  taken : bit_xor b (bit_and 65535 (bit_xor a b)) ≡ a
  taken =
      ap (bit_xor b) (and_comm 65535 (bit_xor a b) ∙ and_mask (bit_xor a b) 16 ∙ mod-eq_of_lt (xor_lt 16 a b ha hb) ∙ xor_comm a b)
      ∙ sym (xor_assoc b b a)
      ∙ ap (λ z. bit_xor z a) (xor_self b)
      ∙ xor_comm 0 a
      ∙ xor_zero_r a

  left : bit_xor b (bit_and 0 (bit_xor a b)) ≡ b
  left = ap (bit_xor b) (and_zero_l (bit_xor a b)) ∙ xor_zero_r b

  -- b xor (mask and (a xor b)), where the mask has each bit set or none
  pub picked : (n : ℕ) → n ≤ 1 → bit_xor b (bit_and ((0 + (65536 - n)) % 65536) (bit_xor a b)) ≡ cond (eqb n 1) a b
  picked n h = elim (a_bit n h) [
    | inl e ↦ ap (λ m. bit_xor b (bit_and ((0 + (65536 - m)) % 65536) (bit_xor a b))) e ∙ left ∙ sym (ap (λ m. cond (eqb m 1) a b) e)
    | inr e ↦ ap (λ m. bit_xor b (bit_and ((0 + (65536 - m)) % 65536) (bit_xor a b))) e ∙ taken ∙ sym (ap (λ m. cond (eqb m 1) a b) e)
  ]
