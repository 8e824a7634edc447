-- The rows of a sheet, the last first: an entry with what its product shelf holds. They stand one after another, the first at the start.
-- Main results: `num_on`, `den_on`, `prod_on`, what the shelves hold; `prod_over`, `row_zeroed`, what a write leaves; `product_is`, `products_on`.
use Rattle.std.proofs.Common.{◌≡◌, ℕ, suc, ◌+◌, ◌*◌, ◌≤◌, true, List, [], ◌∷◌, ◌++◌, map, length, take, drop, replicate, sym, refl, ap, ◌∙◌, ap₂, add-mul, mul-le-mul_left, mul-suc, mul_right_comm, arith}
use Rattle.std.proofs.lemmas.List.{append_assoc, length-append, length-replicate}
use Rattle.std.proofs.lemmas.Bool.{and_from}
use Rattle.field.specs.Meaning.{all_codes}
use Rattle.traylaw.specs.Calculus.{Calculus, Polynomial, one, times, Lawful}
use Rattle.traylaw.specs.Sheets.{written, room, shelf, shelved, zeroed}
use Rattle.traylaw.specs.Effects.{product, coded_denominators, with_products}
use Rattle.traylaw.specs.Runs.{Entry}
use Rattle.traylaw.proofs.Stretches.{read, over}

pub record Row : Type 0 where
  pub num : List ℕ
  pub den : List ℕ
  pub prod : List ℕ

abbrev pub entry_of : Row → Entry
entry_of r = record { num = r.num; den = r.den }

abbrev pub stacked : List Row → List ℕ
stacked [] = []
stacked (r ∷ rs) = stacked rs ++ (r.num ++ (r.den ++ r.prod))

-- a row whose shelves are full and whose entry is two polynomials
pub record Fit (K : Calculus) (r : Row) : Type 0 where
  pub num : Polynomial K r.num
  pub den : Polynomial K r.den
  pub prod : length r.prod ≡ K.degree

abbrev pub AllFit : Calculus → List Row → Type 0
AllFit K [] = Unit {0}
AllFit K (r ∷ rs) = Fit K r × AllFit K rs

abbrev pub with_prod : Row → List ℕ → Row
with_prod r y = record { num = r.num; den = r.den; prod = y }

pub three : (n p : ℕ) → 3 * suc n * p ≡ 3 * n * p + (p + (p + p))
three n p = ap (λ t. t * p) (mul-suc 3 n) ∙ add-mul (3 * n) 3 p ∙ omega arith

module _ (K : Calculus) where
  -- the product of all denominators
  abbrev pub whole : List Row → List ℕ
  whole [] = one K
  whole (r ∷ rs) = times K (whole rs) r.den

  -- each product shelf holds the product of the denominators so far
  abbrev pub Products : List Row → Type 0
  Products [] = Unit {0}
  Products (r ∷ rs) = (r.prod ≡ whole (r ∷ rs)) × Products rs

  -- a closed tray: the last product shelf holds the inverse of the product of all denominators instead
  abbrev pub Ready : List Row → Type 0
  Ready [] = Unit {0}
  Ready (r ∷ rs) = Polynomial K r.prod × (times K (whole (r ∷ rs)) r.prod ≡ one K) × Products rs

  row_length : (r : Row) → Fit K r → length (r.num ++ (r.den ++ r.prod)) ≡ K.degree + (K.degree + K.degree)
  row_length r f = length-append r.num _ ∙ ap₂ ◌+◌ f.num.long (length-append r.den _ ∙ ap₂ ◌+◌ f.den.long f.prod)

  pub stacked_length : (rs : List Row) → AllFit K rs → length (stacked rs) ≡ 3 * length rs * K.degree
  stacked_length [] h = omega arith
  stacked_length (r ∷ rs) h = length-append (stacked rs) _ ∙ ap₂ ◌+◌ (stacked_length rs h.1) (row_length r h.0) ∙ sym (three (length rs) K.degree)

  pub total : (sheet : List ℕ) (rs : List Row) (low : List ℕ) → AllFit K rs → sheet ≡ stacked rs ++ low → length sheet ≡ 3 * length rs * K.degree + length low
  total sheet rs low h e = ap length e ∙ length-append (stacked rs) low ∙ ap (λ n. n + length low) (stacked_length rs h)

  -- rows that are no more than the capacity are within the room
  pub within_room : (n capacity : ℕ) → n ≤ capacity → 3 * n * K.degree ≤ room K.degree capacity
  within_room n capacity h = omega (arith, mul_right_comm 3 n K.degree, mul-le-mul_left (3 * K.degree) h)

  -- the rows under the last one, the last one, and what follows
  abbrev pub Top : List ℕ → List Row → Row → List ℕ → Type 0
  Top sheet rs r low = sheet ≡ stacked rs ++ (r.num ++ (r.den ++ (r.prod ++ low)))

  pub top : (sheet : List ℕ) (rs : List Row) (r : Row) (low : List ℕ) → sheet ≡ stacked (r ∷ rs) ++ low → Top sheet rs r low
  top sheet rs r low e = e ∙ simp append_assoc

  pub restacked : (rs : List Row) (r : Row) (low : List ℕ) → stacked rs ++ (r.num ++ (r.den ++ (r.prod ++ low))) ≡ stacked (r ∷ rs) ++ low
  restacked rs r low = simp append_assoc

  module _ (sheet : List ℕ) (rs : List Row) (r : Row) (low : List ℕ) (fits : AllFit K rs) (fit : Fit K r) (t : Top sheet rs r low) where
    before_num : length (stacked rs) ≡ 3 * length rs * K.degree
    before_num = stacked_length rs fits

    before_den : length (stacked rs ++ r.num) ≡ (3 * length rs + 1) * K.degree
    before_den = length-append (stacked rs) r.num ∙ ap₂ ◌+◌ before_num fit.num.long ∙ sym (add-mul (3 * length rs) 1 K.degree ∙ omega arith)

    before_prod : length (stacked rs ++ (r.num ++ r.den)) ≡ (3 * length rs + 2) * K.degree
    before_prod =
        length-append (stacked rs) _ ∙ ap₂ ◌+◌ before_num (length-append r.num r.den ∙ ap₂ ◌+◌ fit.num.long fit.den.long)
        ∙ sym (add-mul (3 * length rs) 2 K.degree ∙ omega arith)

    at_prod : sheet ≡ (stacked rs ++ (r.num ++ r.den)) ++ (r.prod ++ low)
    at_prod = t ∙ simp append_assoc

    pub num_on : shelf K.degree (3 * length rs) sheet ≡ r.num
    unfolding shelf
    num_on = ap (λ s. take K.degree (drop (3 * length rs * K.degree) s)) t ∙ read (stacked rs) r.num _ _ _ before_num fit.num.long

    pub den_on : shelf K.degree (3 * length rs + 1) sheet ≡ r.den
    unfolding shelf
    den_on =
        ap (λ s. take K.degree (drop ((3 * length rs + 1) * K.degree) s)) (t ∙ sym (append_assoc (stacked rs) r.num _))
        ∙ read (stacked rs ++ r.num) r.den _ _ _ before_den fit.den.long

    pub prod_on : shelf K.degree (3 * length rs + 2) sheet ≡ r.prod
    unfolding shelf
    prod_on =
        ap (λ s. take K.degree (drop ((3 * length rs + 2) * K.degree) s)) at_prod
        ∙ read (stacked rs ++ (r.num ++ r.den)) r.prod low _ _ before_prod fit.prod

    pub prod_over : (y : List ℕ) → length y ≡ K.degree → shelved K.degree (3 * length rs + 2) y sheet ≡ stacked rs ++ (r.num ++ (r.den ++ (y ++ low)))
    unfolding shelved
    prod_over y l =
        ap (written ((3 * length rs + 2) * K.degree) y) at_prod ∙ over (stacked rs ++ (r.num ++ r.den)) r.prod low y _ before_prod (fit.prod ∙ sym l)
        ∙ simp append_assoc

    pub row_zeroed : zeroed K.degree (length rs) sheet ≡ stacked rs ++ (replicate (3 * K.degree) 0 ++ low)
    row_zeroed =
        ap (written (3 * length rs * K.degree) (replicate (3 * K.degree) 0)) (t ∙ simp (← append_assoc) refl)
        ∙ over (stacked rs) (r.num ++ (r.den ++ r.prod)) low _ _ before_num (row_length r fit ∙ omega (arith, length-replicate {A = ℕ} (3 * K.degree) 0))

  -- what a close computes
  pub product_is : (sheet : List ℕ) (rs : List Row) (low : List ℕ) → AllFit K rs → sheet ≡ stacked rs ++ low → product K (length rs) sheet ≡ whole rs
  unfolding product
  product_is sheet [] low h e = refl
  product_is sheet (r ∷ rs) low h e =
      let t = top sheet rs r low e in
      ap₂ (times K) (product_is sheet rs _ h.1 t) (den_on sheet rs r low h.1 h.0 t)

  pub denominators_coded : (sheet : List ℕ) (rs : List Row) (low : List ℕ) → AllFit K rs → sheet ≡ stacked rs ++ low → coded_denominators K (length rs) sheet ≡ true
  unfolding coded_denominators
  denominators_coded sheet [] low h e = refl
  denominators_coded sheet (r ∷ rs) low h e =
      let t = top sheet rs r low e in
      and_from _ _ (denominators_coded sheet rs _ h.1 t) (ap (all_codes K.size) (den_on sheet rs r low h.1 h.0 t) ∙ h.0.den.codes)

  -- the rows with the products of their denominators
  abbrev pub filled : List Row → List Row
  filled [] = []
  filled (r ∷ rs) = with_prod r (whole (r ∷ rs)) ∷ filled rs

  pub filled_length : (rs : List Row) → length (filled rs) ≡ length rs
  filled_length [] = refl
  filled_length (r ∷ rs) = ap suc (filled_length rs)

  pub filled_whole : (rs : List Row) → whole (filled rs) ≡ whole rs
  filled_whole [] = refl
  filled_whole (r ∷ rs) = ap (λ t. times K t r.den) (filled_whole rs)

  pub filled_entries : (rs : List Row) → map entry_of (filled rs) ≡ map entry_of rs
  filled_entries [] = refl
  filled_entries (r ∷ rs) = ap (λ t. entry_of r ∷ t) (filled_entries rs)

  pub filled_products : (rs : List Row) → Products (filled rs)
  filled_products [] = tt
  filled_products (r ∷ rs) = (sym (filled_whole (r ∷ rs)), filled_products rs)

  pub fit_with : (r : Row) (y : List ℕ) → Fit K r → length y ≡ K.degree → Fit K (with_prod r y)
  fit_with r y f l = record { num = f.num; den = f.den; prod = l }

module _ {K : Calculus} (L : Lawful K) where
  pub whole_is : (rs : List Row) → Polynomial K (whole K rs)
  whole_is [] = L.one_is
  whole_is (r ∷ rs) = L.times_is _ _

  pub filled_fit : (rs : List Row) → AllFit K rs → AllFit K (filled K rs)
  filled_fit [] h = tt
  filled_fit (r ∷ rs) h = (fit_with K r _ h.0 (whole_is (r ∷ rs)).long, filled_fit rs h.1)

  pub products_on : (sheet : List ℕ) (rs : List Row) (low : List ℕ) → AllFit K rs → sheet ≡ stacked rs ++ low → with_products K (length rs) sheet ≡ stacked (filled K rs) ++ low
  unfolding with_products
  products_on sheet [] low h e = e
  products_on sheet (r ∷ rs) low h e =
      ap₂ (λ n y. shelved K.degree (3 * n + 2) y (with_products K (length rs) sheet)) (sym (filled_length K rs)) (product_is K sheet (r ∷ rs) low h e)
      ∙ prod_over K _ (filled K rs) r low (filled_fit rs h.1) h.0 (products_on sheet rs _ h.1 (top K sheet rs r low e)) _ (whole_is (r ∷ rs)).long
      ∙ restacked K (filled K rs) (with_prod r (whole K (r ∷ rs))) low
