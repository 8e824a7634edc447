-- A row of the matrix times a column, from two products of lists.
-- Main result: `row_is`.
use Rattle.std.proofs.Common.{◌≡◌, ℕ, ◌+◌, ◌-◌, ◌<◌, List, length, take, drop, sym, ap, ◌∙◌, ap₂, arith}
use Rattle.std.proofs.lemmas.List.{get_or-take, get_or-drop}
use Rattle.field.specs.Rings.{Operations}
use Rattle.field.specs.Convolution.{tabulate, at, coefficient, convolution}
use Rattle.field.proofs.Tables.{length_tabulate, tabulate_ext, get_d_tabulate}
use Rattle.ring.specs.Polynomials.{sum}
use Rattle.divstep.specs.Batches.{row_at, row_times}

module _ {C : Type 0} (O : Operations C) where
  -- coefficient k of what is left of a product without its first m coefficients
  at_rest : (m n k : ℕ) (a b c : List C) → c ≡ convolution O n a b → k + m < n → at O (take (length c - m) (drop m c)) k ≡ coefficient O a b (k + m)
  at_rest m n k a b c e h =
      let long : length c ≡ n = ap length e ∙ length_tabulate n (coefficient O a b) in
      let place : m + k ≡ k + m = omega arith in
      get_or-take (length c - m) (drop m c) k O.zero (omega arith)
      ∙ get_or-drop m c k O.zero
      ∙ ap₂ (at O) e place
      ∙ get_d_tabulate n (coefficient O a b) O.zero (k + m) h

  pub row_is : (m n l r : ℕ) (a b x y c d : List C) → length x ≡ n → l ≡ n + m → r ≡ n + m → c ≡ convolution O l a x → d ≡ convolution O r b y →
      sum O n (take (length c - m) (drop m c)) (take (length d - m) (drop m d)) ≡ row_times O m a b x y
  unfolding sum
  row_is m n l r a b x y c d hx hl hr ec ed =
      tabulate_ext n _ _ (λ k h. ap₂ O.plus (at_rest m l k a x c ec (omega arith)) (at_rest m r k b y d ed (omega arith)))
      ∙ ap (λ i. tabulate i (λ k. row_at O a b x y (k + m))) (sym hx)
