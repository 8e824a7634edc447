-- What the loops of a close keep: products, codes and inverses of the first denominators.
-- Main results: `product_one`, `product_more`; `coded_passing`, `denominator_is`; `first_none`, `first_more`, `first_at`; `products_more`.
use Rattle.std.proofs.Common.{◌≡◌, ℕ, zero, suc, ◌+◌, ◌*◌, ◌<◌, ◌≤◌, true, false, ◌&&◌, List, length, take, is_some, Some, None, Option, sym, refl, ap, ◌∙◌, subst, ap₂, inl, inr, add-one, arith}
use borrow.Author.Tests.{clash}
use Rattle.std.specs.Option.{option_map}
use Rattle.std.proofs.lemmas.Bool.{cases_lt}
use Rattle.field.specs.Meaning.{all_codes}
use Rattle.ring.proofs.Units.{one_times_normal}
use Rattle.traylaw.specs.Calculus.{Calculus, Polynomial, Lawful, times}
use Rattle.traylaw.specs.Sheets.{room, shelved, denominator_at}
use Rattle.tray.proofs.Places.{shelf_within, shelf_long}
use Rattle.tray.proofs.Tests.{passing, passing_more, passes}
use Rattle.tray.specs.Inverses.{Found}
use Rattle.traylaw.specs.Effects.{product, coded_denominators, earlier, unless_found, first_uninvertible, with_products}

-- an inverse is found in the first places of a longer list exactly when such a list is found
pub found_in : (p : ℕ) (o : Option (List ℕ)) {inverse : Option (List ℕ)} → option_map (take p) o ≡ inverse → is_some inverse ≡ is_some o
found_in p None e = ap is_some (sym e)
found_in p (Some b) e = ap is_some (sym e)

module _ (K : Calculus) (sheet : List ℕ) where
  pub product_more : (i : ℕ) → product K (i + 1) sheet ≡ times K (product K i sheet) (denominator_at K.degree i sheet)
  unfolding product
  product_more i = ap (λ n. product K n sheet) (add-one i)

  -- the product of one denominator is that denominator
  pub product_one : Lawful K → Polynomial K (denominator_at K.degree 0 sheet) → product K 1 sheet ≡ denominator_at K.degree 0 sheet
  unfolding product
  product_one L h = one_times_normal L.ring _ (L.normal _ h)

  pub product_is : Lawful K → (i : ℕ) → Polynomial K (product K (i + 1) sheet)
  product_is L i = subst (Polynomial K) (sym (product_more i)) (L.times_is _ _)

  -- a test of each of the first denominators
  pub coded_passing : (n : ℕ) → passing (λ i. all_codes K.size (denominator_at K.degree i sheet)) n ≡ coded_denominators K n sheet
  unfolding coded_denominators
  coded_passing zero = refl
  coded_passing (suc n) =
      ap (passing (λ i. all_codes K.size (denominator_at K.degree i sheet))) (sym (add-one n)) ∙ passing_more _ n
      ∙ ap (λ b. b && all_codes K.size (denominator_at K.degree n sheet)) (coded_passing n)

  -- a denominator that holds codes is a polynomial, where the sheet is long enough
  pub denominator_is : (capacity n i : ℕ) → room K.degree capacity ≤ length sheet → n ≤ capacity → i < n → coded_denominators K n sheet ≡ true → Polynomial K (denominator_at K.degree i sheet)
  denominator_is capacity n i long few h e = record {
    long = shelf_long K.degree (3 * i + 1) sheet (omega (arith, shelf_within K.degree capacity (3 * i + 1) (omega arith)));
    codes = passes (λ k. all_codes K.size (denominator_at K.degree k sheet)) n i h (coded_passing n ∙ e);
  }

  pub first_of_none : first_uninvertible K 0 sheet ≡ 0
  unfolding first_uninvertible
  first_of_none = refl

  found_is : (o : Option (List ℕ)) (i : ℕ) → is_some o ≡ true → unless_found o i ≡ 0
  found_is (Some b) i e = refl
  found_is None i e = absurd (clash e)

  missed_is : (o : Option (List ℕ)) (i : ℕ) → is_some o ≡ false → unless_found o i ≡ i
  missed_is (Some b) i e = absurd (clash (sym e))
  missed_is None i e = refl

  -- no denominator up to entry i + 1 lacks an inverse, or that of entry i + 1 is the first
  pub first_more : (i : ℕ) → first_uninvertible K i sheet ≡ 0 → is_some (K.inverse (denominator_at K.degree i sheet)) ≡ true → first_uninvertible K (i + 1) sheet ≡ 0
  unfolding first_uninvertible
  first_more i e h = ap (λ n. first_uninvertible K n sheet) (add-one i) ∙ ap₂ earlier e (found_is _ (suc i) h)

  -- where the first n denominators have inverses, none of them is named
  pub first_none : (n : ℕ) → Found K sheet n → first_uninvertible K n sheet ≡ 0
  first_none zero h = first_of_none
  first_none (suc n) h = ap (λ m. first_uninvertible K m sheet) (sym (add-one n)) ∙ first_more n (first_none n (λ k l. h k (omega arith))) (h n (omega arith))

  pub first_at : (n i : ℕ) → i < n → first_uninvertible K i sheet ≡ 0 → is_some (K.inverse (denominator_at K.degree i sheet)) ≡ false → first_uninvertible K n sheet ≡ i + 1
  unfolding first_uninvertible
  first_at zero i l e h = absurd (omega arith)
  first_at (suc n) i l e h = elim (cases_lt i n) [
    | inl k ↦ ap (λ j. earlier j (unless_found (K.inverse (denominator_at K.degree n sheet)) (suc n))) (first_at n i k e h ∙ add-one i) ∙ sym (add-one i)
    | inr k ↦
        let same : i ≡ n = omega arith in
        ap (λ j. first_uninvertible K (suc j) sheet) (sym same) ∙ ap₂ earlier e (missed_is _ (suc i) h) ∙ sym (add-one i)
  ]

  pub products_none : with_products K 0 sheet ≡ sheet
  unfolding with_products
  products_none = refl

  pub products_more : (i : ℕ) → with_products K (i + 1) sheet ≡ shelved K.degree (3 * i + 2) (product K (i + 1) sheet) (with_products K i sheet)
  unfolding with_products
  products_more i =
      ap (λ n. with_products K n sheet) (add-one i) ∙ ap (λ n. shelved K.degree (3 * i + 2) (product K n sheet) (with_products K i sheet)) (sym (add-one i))

pub ruleset searched = (found_in, first_of_none, first_more, first_at)
