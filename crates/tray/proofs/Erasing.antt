-- The products on their shelves: they leave the entries after them, are erased by zeros, the last first, and what is put over the last one of them.
-- Main results: `denominator_kept`, `erased_one`, `closed_as_defined`.
use Rattle.std.proofs.Common.{Some, is_some, unwrap_or, ◌≡◌, ℕ, zero, suc, ◌+◌, ◌-◌, ◌*◌, ◌<◌, ◌≤◌, List, [], length, drop, replicate, sym, ap, ◌∙◌, subst, ap₂, add-one, arith}
use Rattle.std.proofs.lemmas.List.{length-replicate}
use Rattle.traylaw.specs.Calculus.{Calculus, Polynomial, Lawful}
use Rattle.traylaw.specs.Sheets.{written, room, shelf, shelved, denominator_at, product_at}
use Rattle.refusal.specs.declared.Refusal.TheVariants.{NoInverse}
use Rattle.refusal.specs.Questions.{asked}
use Rattle.divstep.specs.ReadOff.{inversion_steps}
use Rattle.traylaw.specs.Effects.{granted, product, first_uninvertible, with_products, inverse_asked, close_sheet}
use Rattle.tray.proofs.Places.{shelf_within, entry_within, overwritten, rewritten, next_entry, behind, shelf_behind, shelved_length}
use Rattle.tray.proofs.Closings.{product_is, products_none, products_more}

module _ {K : Calculus} (L : Lawful K) (capacity : ℕ) (sheet : List ℕ) (long : room K.degree capacity ≤ length sheet) where
  -- the sheet with its first products is as long, and the entries after them are as they were
  kept : (i : ℕ) → i ≤ capacity → (length (with_products K i sheet) ≡ length sheet) × (drop (3 * i * K.degree) (with_products K i sheet) ≡ drop (3 * i * K.degree) sheet)
  kept zero h = (ap length (products_none K sheet), ap (drop (3 * 0 * K.degree)) (products_none K sheet))
  kept (suc i) h =
      let p = K.degree in
      let within : i < capacity = omega arith in
      let before = kept i (omega arith) in
      let poly = product K (i + 1) sheet in
      let l : length poly ≡ p = (product_is K sheet L i).long in
      let end : 3 * (i + 1) * p ≤ length (with_products K i sheet) = omega (arith, before.0, entry_within p capacity i within, next_entry i p) in
      let fits : (3 * i + 2) * p + p ≤ length (with_products K i sheet) = omega (arith, before.0, shelf_within p capacity (3 * i + 2) (omega arith)) in
      let is : with_products K (suc i) sheet ≡ shelved p (3 * i + 2) poly (with_products K i sheet) = ap (λ n. with_products K n sheet) (sym (add-one i)) ∙ products_more K sheet i in (
        ap length is ∙ shelved_length p (3 * i + 2) poly (with_products K i sheet) l fits ∙ before.0,
        ap (λ n. drop (3 * n * p) (with_products K (suc i) sheet)) (sym (add-one i)) ∙ ap (drop (3 * (i + 1) * p)) is ∙ behind p i poly (with_products K i sheet) sheet l end before.1
            ∙ ap (λ n. drop (3 * n * p) sheet) (add-one i),
      )

  -- so the next denominator is as it was
  pub denominator_kept : (i : ℕ) → i ≤ capacity → denominator_at K.degree i (with_products K i sheet) ≡ denominator_at K.degree i sheet
  denominator_kept i h = shelf_behind K.degree i 1 (with_products K i sheet) sheet (kept i h).1

  -- a list over the last product that was put on its shelf: that product need not have been put there
  over_last : (i : ℕ) → i < capacity → (b : List ℕ) → length b ≡ K.degree →
      shelved K.degree (3 * i + 2) b (with_products K (i + 1) sheet) ≡ shelved K.degree (3 * i + 2) b (with_products K i sheet)
  unfolding shelved
  over_last i h b lb =
      let p = K.degree in
      let before = kept i (omega arith) in
      let poly = product K (i + 1) sheet in
      let l : length poly ≡ p = (product_is K sheet L i).long in
      let fits : (3 * i + 2) * p + p ≤ length (with_products K i sheet) = omega (arith, before.0, shelf_within p capacity (3 * i + 2) (omega arith)) in
      ap (written ((3 * i + 2) * p) b) (products_more K sheet i) ∙ overwritten ((3 * i + 2) * p) poly b (with_products K i sheet) (l ∙ sym lb) (omega arith)

  -- zeros on the last product shelf that was written, where there were zeros before
  pub erased_one : (i : ℕ) → i < capacity → product_at K.degree i sheet ≡ replicate K.degree 0 → shelved K.degree (3 * i + 2) (replicate K.degree 0) (with_products K (i + 1) sheet) ≡ with_products K i sheet
  unfolding shelf shelved
  erased_one i h z =
      let p = K.degree in
      let before = kept i (omega arith) in
      let fits : (3 * i + 2) * p + p ≤ length (with_products K i sheet) = omega (arith, before.0, shelf_within p capacity (3 * i + 2) (omega arith)) in
      over_last i h (replicate p 0) (length-replicate p 0)
      ∙ rewritten p ((3 * i + 2) * p) (replicate p 0) (with_products K i sheet) fits (shelf_behind p i 2 (with_products K i sheet) sheet before.1 ∙ z)

  -- the products of all entries but the last, and on the last product shelf the inverse of the product of all, are what a close leaves
  pub closed_as_defined : (n : ℕ) → 1 ≤ n → n ≤ capacity → (inverse was now : List ℕ) → K.inverse (product K n sheet) ≡ Some inverse →
      was ≡ with_products K (n - 1) sheet → now ≡ shelved K.degree (3 * (n - 1) + 2) inverse was → now ≡ granted (inverse_asked K n sheet) (close_sheet K n sheet) sheet
  closed_as_defined zero some within inverse was now found w e = absurd (omega arith)
  closed_as_defined (suc m) some within inverse was now found w e =
      let p = K.degree in
      let before : suc m - 1 ≡ m = omega arith in
      let next : m + 1 ≡ suc m = omega arith in
      let whole : Polynomial K (product K (suc m) sheet) = subst (λ n. Polynomial K (product K n sheet)) next (product_is K sheet L m) in
      e ∙ ap₂ (λ i s. shelved p (3 * i + 2) inverse s) before (w ∙ ap (λ i. with_products K i sheet) before)
      ∙ sym (over_last m (omega arith) inverse (L.found _ inverse whole found).0.long)
      ∙ ap₂ (λ (b : List ℕ) s. shelved p (3 * m + 2) b s) (sym (ap (λ o. unwrap_or o []) found)) (ap (λ i. with_products K i sheet) next)
      ∙ ap (λ o. granted (asked (NoInverse (first_uninvertible K (suc m) sheet) (inversion_steps p * (first_uninvertible K (suc m) sheet + 1))) (is_some o)) (close_sheet K (suc m) sheet) sheet) (sym found)
