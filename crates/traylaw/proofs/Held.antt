-- A tray holds these entries: what it uses of its sheet begins with their rows. Every call keeps that.
-- Main results: `kept`, that after a call the tray holds what the call makes of its entries.
use Rattle.std.proofs.Common.{◌≡◌, ℕ, suc, pred, ◌+◌, ◌*◌, ◌<◌, ◌≤◌, true, List, [], ◌∷◌, ◌++◌, map, length, take, drop, replicate, is_some, Some, None, Option, unwrap_or, sym, refl, ap, ◌∙◌, ap₂, add-one, arith}
use borrow.Author.Tests.{clash}
use Rattle.std.proofs.lemmas.List.{append_assoc, length-append, length-drop, length-replicate, length-take-le, take-append-drop}
use Rattle.std.proofs.lemmas.Bool.{ltb-true, leb-true}
use Rattle.refusal.specs.declared.Refusal.{Refusal}
use Rattle.refusal.specs.Questions.{first_no}
use Rattle.field.specs.Meaning.{all_codes}
use Rattle.traylaw.specs.Calculus.{Calculus, Polynomial, one, times, Lawful}
use Rattle.traylaw.specs.Sheets.{written, room, shelved, put_sheet, zeroed}
use Rattle.traylaw.specs.Effects.{Phase, Phase.Open, Phase.Closed, Phase.Burnt, granted, product, with_products, product_before, coded_before, put_before, put_asked, take_back_asked, close_asked, draw_asked, close_sheet, draw_sheet}
use Rattle.traylaw.specs.Runs.{Call, Call.put, Call.take_back, Call.close, Call.draw, Call.burn, Event, Entry, without_last, holding, Tray, Allowed, effect, Shows, laid, Step}
use Rattle.traylaw.proofs.Questions.{yes, each_yes, and_both, equals, passes}
use Rattle.traylaw.proofs.Stretches.{over, begins, unmoved, settled, settled_length}
use Rattle.traylaw.proofs.Quotients.{left_factor}
use Rattle.traylaw.proofs.Rows.{Row, entry_of, stacked, Fit, AllFit, with_prod, three, whole, Products, Ready, stacked_length, total, within_room, top, restacked, den_on, prod_on, prod_over, row_zeroed, product_is, filled, filled_length, filled_whole, filled_entries, filled_products, fit_with, whole_is, filled_fit, products_on}

pub open_closed : Open ≡ Closed → ⊥
open_closed e = let z : ◌≡◌ {A = ℕ} 0 1 = cc in omega arith

open_burnt : Open ≡ Burnt → ⊥
open_burnt e = let z : ◌≡◌ {A = ℕ} 0 1 = cc in omega arith

closed_burnt : Closed ≡ Burnt → ⊥
closed_burnt e = let z : ◌≡◌ {A = ℕ} 0 1 = cc in omega arith

pub record Held (K : Calculus) (capacity : ℕ) (es : List Entry) (ph : Phase) (count : ℕ) (used : List ℕ) : Type 0 where
  pub rows : List Row
  pub entries : map entry_of rows ≡ es
  pub fit : AllFit K rows
  pub size : length used ≡ room K.degree capacity
  pub counted : count ≡ length rows
  pub within : length rows ≤ capacity
  pub low : List ℕ
  pub stands : used ≡ stacked rows ++ low
  pub ready : ph ≡ Closed → Ready K rows

-- what a draw reads, and the rows that it leaves
module _ (K : Calculus) where
  abbrev passed : List ℕ → List Row → List Row
  passed y [] = []
  passed y (r ∷ rs) = with_prod r y ∷ rs

  pub product_on : (sheet : List ℕ) (rs : List Row) (low : List ℕ) → AllFit K rs → sheet ≡ stacked rs ++ low → Products K rs → product_before K (length rs) sheet ≡ whole K rs
  unfolding product_before
  product_on sheet [] low f e p = refl
  product_on sheet (r ∷ rs) low f e p = prod_on K sheet rs r low f.1 f.0 (top K sheet rs r low e) ∙ p.0

  passed_on : (sheet : List ℕ) (rs : List Row) (low y : List ℕ) → AllFit K rs → sheet ≡ stacked rs ++ low → length y ≡ K.degree → put_before K (length rs) y sheet ≡ stacked (passed y rs) ++ low
  unfolding put_before
  passed_on sheet [] low y f e l = e
  passed_on sheet (r ∷ rs) low y f e l = prod_over K sheet rs r low f.1 f.0 (top K sheet rs r low e) y l ∙ restacked K rs (with_prod r y) low

  passed_fit : (y : List ℕ) (rs : List Row) → length y ≡ K.degree → AllFit K rs → AllFit K (passed y rs)
  passed_fit y [] l f = tt
  passed_fit y (r ∷ rs) l f = (fit_with K r y f.0 l, f.1)

  passed_length : (y : List ℕ) (rs : List Row) → length (passed y rs) ≡ length rs
  passed_length y [] = refl
  passed_length y (r ∷ rs) = refl

  passed_entries : (y : List ℕ) (rs : List Row) → map entry_of (passed y rs) ≡ map entry_of rs
  passed_entries y [] = refl
  passed_entries y (r ∷ rs) = refl

module _ {K : Calculus} (L : Lawful K) where
  pub codes_on : (sheet : List ℕ) (rs : List Row) (low : List ℕ) → AllFit K rs → sheet ≡ stacked rs ++ low → Products K rs → coded_before K (length rs) sheet ≡ true
  unfolding coded_before
  codes_on sheet [] low f e p = refl
  codes_on sheet (r ∷ rs) low f e p =
      ap (all_codes K.size) (prod_on K sheet rs r low f.1 f.0 (top K sheet rs r low e) ∙ p.0) ∙ (whole_is L (r ∷ rs)).codes

  passed_ready : (q d : List ℕ) (rs : List Row) → times K (times K (whole K rs) d) q ≡ one K → Products K rs → Ready K (passed K (times K q d) rs)
  passed_ready q d [] e p = tt
  passed_ready q d (r ∷ rs) e p = (L.times_is q d, left_factor L (whole K (r ∷ rs)) d q e, p.1)

module _ (K : Calculus) (capacity : ℕ) where
  pub moved : {es : List Entry} {ph ph2 : Phase} {c c2 : ℕ} {u u2 : List ℕ} → ph2 ≡ ph → c2 ≡ c → u2 ≡ u → Held K capacity es ph c u → Held K capacity es ph2 c2 u2
  moved p q e h = record {
    rows = h.rows;
    entries = h.entries;
    fit = h.fit;
    size = ap length e ∙ h.size;
    counted = q ∙ h.counted;
    within = h.within;
    low = h.low;
    stands = e ∙ h.stands;
    ready = λ k. h.ready (sym p ∙ k);
  }

  module _ {es : List Entry} {ph : Phase} {count : ℕ} {used : List ℕ} (sheet : List ℕ) (H : Held K capacity es ph count used) (S : Shows K capacity used sheet) where
    -- a call that is refused
    kept_refused : Held K capacity es ph count (laid K capacity used sheet)
    kept_refused = moved refl refl (unmoved (room K.degree capacity) used sheet H.size S) H

    -- a sheet that is long enough
    pub long : room K.degree capacity ≤ length sheet → sheet ≡ stacked H.rows ++ (H.low ++ drop (room K.degree capacity) sheet)
    long h =
        begins (room K.degree capacity) used sheet H.size h S ∙ ap (λ t. t ++ drop (room K.degree capacity) sheet) H.stands
        ∙ append_assoc (stacked H.rows) H.low _

  -- a sheet that was changed and begins with rows
  built : (es : List Entry) (ph : Phase) (count : ℕ) (used sheet : List ℕ) (rows : List Row) (low : List ℕ) → map entry_of rows ≡ es → AllFit K rows → count ≡ length rows → length rows ≤ capacity →
      room K.degree capacity ≤ length sheet → sheet ≡ stacked rows ++ low → (ph ≡ Closed → Ready K rows) → Held K capacity es ph count (laid K capacity used sheet)
  built es ph count used sheet rows low e f c w l s r =
      let k : length (stacked rows) ≤ room K.degree capacity = omega (arith, stacked_length K rows f, within_room K (length rows) capacity w) in
      let t = settled (room K.degree capacity) used sheet (stacked rows) low l s k in
      record {
        rows = rows;
        entries = e;
        fit = f;
        size = settled_length (room K.degree capacity) used sheet l;
        counted = c;
        within = w;
        low = t.0;
        stands = t.1;
        ready = r;
      }

  -- the last row gone and its shelves zero
  less : (es : List Entry) (ph : Phase) (count : ℕ) (used sheet : List ℕ) (r : Row) (rs : List Row) (low : List ℕ) → map entry_of rs ≡ es → Fit K r → AllFit K rs → count ≡ length rs → length rs ≤ capacity →
      room K.degree capacity ≤ length sheet → sheet ≡ stacked (r ∷ rs) ++ low → (ph ≡ Closed → Ready K rs) → Held K capacity es ph count (laid K capacity used (zeroed K.degree (length rs) sheet))
  less es ph count used sheet r rs low e f fs c w h s rd =
      let done = row_zeroed K sheet rs r low fs f (top K sheet rs r low s) in
      let z : length (replicate {A = ℕ} (3 * K.degree) 0) ≡ 3 * K.degree = length-replicate (3 * K.degree) 0 in
      built es ph count used _ rs (replicate (3 * K.degree) 0 ++ low) e fs c w
      (omega (arith, total K _ rs _ fs done, total K sheet (r ∷ rs) low (f, fs) s, length-append (replicate (3 * K.degree) 0) low, three (length rs) K.degree)) done rd

  module _ (es : List Entry) (count : ℕ) (used sheet num den : List ℕ) (H : Held K capacity es Open count used) (S : Shows K capacity used sheet) where
    new : Row
    new = record { num = num; den = den; prod = replicate K.degree 0 }

    abbrev row : List ℕ
    row = num ++ (den ++ replicate K.degree 0)

    put_there : room K.degree capacity ≤ length sheet → Polynomial K num → Polynomial K den → count < capacity →
        Held K capacity (record { num = num; den = den } ∷ es) Open (count + 1) (laid K capacity used (put_sheet K.degree count sheet num den))
    unfolding new
    put_there h n d c =
        let w : length H.rows < capacity = omega (arith, H.counted) in
        let lows : List ℕ = H.low ++ drop (room K.degree capacity) sheet in
        let s : sheet ≡ stacked H.rows ++ lows = long sheet H S h in
        let z : length (replicate {A = ℕ} K.degree 0) ≡ K.degree = length-replicate K.degree 0 in
        let l : length row ≡ K.degree + (K.degree + K.degree) = length-append num _ ∙ ap₂ ◌+◌ n.long (length-append den _ ∙ ap₂ ◌+◌ d.long z) in
        let tot = total K sheet H.rows lows H.fit s in
        let big : length row ≤ length lows = omega (arith, within_room K (suc (length H.rows)) capacity w, three (length H.rows) K.degree) in
        let cut : sheet ≡ stacked H.rows ++ (take (length row) lows ++ drop (length row) lows) = s ∙ ap (λ t. stacked H.rows ++ t) (sym (take-append-drop (length row) lows)) in
        let at : length (stacked H.rows) ≡ 3 * count * K.degree = stacked_length K H.rows H.fit ∙ ap (λ k. 3 * k * K.degree) (sym H.counted) in
        let done : put_sheet K.degree count sheet num den ≡ stacked (new ∷ H.rows) ++ drop (length row) lows =
        ap (written (3 * count * K.degree) row) cut
        ∙ over (stacked H.rows) (take (length row) lows) (drop (length row) lows) row _ at (length-take-le (length row) lows big)
        ∙ sym (append_assoc (stacked H.rows) row _) in
        let fits : AllFit K (new ∷ H.rows) = (record { num = n; den = d; prod = z }, H.fit) in
        built _ Open (count + 1) used _ (new ∷ H.rows) (drop (length row) lows) (ap (λ t. record { num = num; den = den } ∷ t) H.entries) fits
        (add-one count ∙ ap suc H.counted) w
        (omega (arith, total K _ (new ∷ H.rows) _ fits done, length-drop (length row) lows, three (length H.rows) K.degree)) done (λ e. absurd (open_closed e))

    kept_put : (r : Option Refusal) → first_no (put_asked K capacity count sheet num den) ≡ r →
        Held K capacity (holding (put num den) r es) Open (granted r (count + 1) count) (laid K capacity used (granted r (put_sheet K.degree count sheet num den) sheet))
    kept_put (Some x) e = kept_refused sheet H S
    kept_put None e =
        let q = each_yes (put_asked K capacity count sheet num den) e in
        let l = (and_both _ _ (equals (length num) K.degree) (equals (length den) K.degree)).0 (yes _ _ q.1.0) in
        let k = (and_both _ _ (passes (all_codes K.size num)) (passes (all_codes K.size den))).0 (yes _ _ q.1.1.0) in
        put_there (leb-true _ _ (yes _ _ q.0)) (record { long = l.0; codes = k.0 }) (record { long = l.1; codes = k.1 }) (ltb-true _ _ (yes _ _ q.1.1.1.0))

  module _ (es : List Entry) (count : ℕ) (used sheet : List ℕ) (H : Held K capacity es Open count used) (S : Shows K capacity used sheet) where
    taken : (rows : List Row) (low : List ℕ) → map entry_of rows ≡ es → AllFit K rows → count ≡ length rows → length rows ≤ capacity → room K.degree capacity ≤ length sheet → sheet ≡ stacked rows ++ low → 0 < count →
        Held K capacity (without_last es) Open (pred count) (laid K capacity used (zeroed K.degree (pred count) sheet))
    taken [] low e f c w h s n = absurd (omega arith)
    taken (r ∷ rs) low e f c w h s n =
        let k : pred count ≡ length rs = ap pred c in
        moved refl k (ap (λ i. laid K capacity used (zeroed K.degree i sheet)) k)
        (less (without_last es) Open (length rs) used sheet r rs low (ap without_last e) f.0 f.1 refl (omega arith) h s (λ x. absurd (open_closed x)))

    kept_take : (r : Option Refusal) → first_no (take_back_asked K.degree capacity count sheet) ≡ r →
        Held K capacity (holding take_back r es) Open (granted r (pred count) count) (laid K capacity used (granted r (zeroed K.degree (pred count) sheet) sheet))
    kept_take (Some x) e = kept_refused sheet H S
    kept_take None e =
        let q = each_yes (take_back_asked K.degree capacity count sheet) e in
        let h = leb-true _ _ (yes _ _ q.0) in
        taken H.rows _ H.entries H.fit H.counted H.within h (long sheet H S h) (ltb-true _ _ (yes _ _ q.1.0))

module _ {K : Calculus} (L : Lawful K) (capacity : ℕ) where
  module _ (es : List Entry) (count : ℕ) (used sheet : List ℕ) (H : Held K capacity es Open count used) (S : Shows K capacity used sheet) where
    shut : (rows : List Row) (low : List ℕ) → map entry_of rows ≡ es → AllFit K rows → count ≡ length rows → length rows ≤ capacity → room K.degree capacity ≤ length sheet → sheet ≡ stacked rows ++ low → 0 < count →
        (o : Option (List ℕ)) → K.inverse (product K count sheet) ≡ o → is_some o ≡ true →
        Held K capacity es Closed count (laid K capacity used (shelved K.degree (3 * pred count + 2) (unwrap_or o []) (with_products K count sheet)))
    shut [] low e f c w h s n o i j = absurd (omega arith)
    shut (r ∷ rs) low e f c w h s n None i j = absurd (clash j)
    shut (r ∷ rs) low e f c w h s n (Some b) i j =
        let k : pred count ≡ length (filled K rs) = ap pred c ∙ sym (filled_length K rs) in
        let p : product K count sheet ≡ whole K (r ∷ rs) = ap (λ m. product K m sheet) c ∙ product_is K sheet (r ∷ rs) low f s in
        let g = L.found (whole K (r ∷ rs)) b (whole_is L (r ∷ rs)) (ap K.inverse (sym p) ∙ i) in
        let fs : AllFit K (with_prod r b ∷ filled K rs) = (fit_with K r b f.0 g.0.long, filled_fit L rs f.1) in
        let r1 : Row = with_prod r (whole K (r ∷ rs)) in
        let all : with_products K count sheet ≡ stacked (r1 ∷ filled K rs) ++ low = ap (λ m. with_products K m sheet) c ∙ products_on L sheet (r ∷ rs) low f s in
        let done : shelved K.degree (3 * pred count + 2) b (with_products K count sheet) ≡ stacked (with_prod r b ∷ filled K rs) ++ low =
        ap (λ m. shelved K.degree (3 * m + 2) b (with_products K count sheet)) k
        ∙ prod_over K _ (filled K rs) r1 low fs.1 (fit_with K r _ f.0 (whole_is L (r ∷ rs)).long) (top K _ (filled K rs) r1 low all) b g.0.long
        ∙ restacked K (filled K rs) (with_prod r b) low in
        let sl : length (filled K rs) ≡ length rs = filled_length K rs in
        built K capacity es Closed count used _ (with_prod r b ∷ filled K rs) low (ap (λ t. entry_of r ∷ t) (filled_entries K rs) ∙ e) fs (c ∙ ap suc (sym sl)) (omega arith)
        (omega (arith, total K _ (with_prod r b ∷ filled K rs) low fs done, total K sheet (r ∷ rs) low f s, ap (λ m. 3 * suc m * K.degree) sl)) done
        (λ _. (g.0, ap (λ t. times K (times K t r.den) b) (filled_whole K rs) ∙ g.1, filled_products K rs))

    kept_close : (scratch : ℕ) (r : Option Refusal) → first_no (close_asked K capacity count sheet scratch) ≡ r →
        Held K capacity (holding (close scratch) r es) (granted r Closed Open) count (laid K capacity used (granted r (close_sheet K count sheet) sheet))
    kept_close scratch (Some x) e = kept_refused K capacity sheet H S
    kept_close scratch None e =
        let q = each_yes (close_asked K capacity count sheet scratch) e in
        let h = leb-true _ _ (yes _ _ q.0) in
        shut H.rows _ H.entries H.fit H.counted H.within h (long K capacity sheet H S h) (ltb-true _ _ (yes _ _ q.1.1.0)) (K.inverse (product K count sheet)) refl (yes _ _ q.1.1.1.1.0)

  module _ (es : List Entry) (count : ℕ) (used sheet : List ℕ) (H : Held K capacity es Closed count used) (S : Shows K capacity used sheet) where
    gone : (rows : List Row) (low : List ℕ) → map entry_of rows ≡ es → AllFit K rows → Ready K rows → count ≡ length rows → length rows ≤ capacity → room K.degree capacity ≤ length sheet → sheet ≡ stacked rows ++ low → 0 < count →
        Held K capacity (without_last es) Closed (pred count) (laid K capacity used (draw_sheet K (pred count) sheet))
    gone [] low e f rd c w h s n = absurd (omega arith)
    gone (r ∷ rs) low e f rd c w h s n =
        let k : pred count ≡ length rs = ap pred c in
        let t = top K sheet rs r low s in
        let z : List ℕ = times K r.prod r.den in
        let lz : length z ≡ K.degree = (L.times_is r.prod r.den).long in
        let fs : AllFit K (passed K z rs) = passed_fit K z rs lz f.1 in
        let pl : length (passed K z rs) ≡ length rs = passed_length K z rs in
        let sheet2 : List ℕ = put_before K (length rs) z sheet in
        let at2 : sheet2 ≡ stacked (r ∷ passed K z rs) ++ low = passed_on K sheet rs _ z f.1 t lz ∙ restacked K (passed K z rs) r low in
        let both : draw_sheet K (pred count) sheet ≡ zeroed K.degree (length (passed K z rs)) sheet2 =
        ap (λ i. draw_sheet K i sheet) k
        ∙ ap (λ (m : List ℕ). zeroed K.degree (length rs) (put_before K (length rs) m sheet)) (ap₂ (times K) (prod_on K sheet rs r low f.1 f.0 t) (den_on K sheet rs r low f.1 f.0 t))
        ∙ ap (λ i. zeroed K.degree i sheet2) (sym pl) in
        moved K capacity refl (k ∙ sym pl) (ap (laid K capacity used) both)
        (less K capacity (without_last es) Closed (length (passed K z rs)) used sheet2 r (passed K z rs) low (passed_entries K z rs ∙ ap without_last e) f.0 fs refl (omega arith)
        (omega (arith, total K sheet2 (r ∷ passed K z rs) low (f.0, fs) at2, total K sheet (r ∷ rs) low f s, ap (λ m. 3 * suc m * K.degree) pl)) at2
        (λ _. passed_ready L r.prod r.den rs rd.1 rd.2))

    kept_draw : (out : List ℕ) (scratch : ℕ) (r : Option Refusal) → first_no (draw_asked K capacity count sheet out scratch) ≡ r →
        Held K capacity (holding (draw out scratch) r es) Closed (granted r (pred count) count) (laid K capacity used (granted r (draw_sheet K (pred count) sheet) sheet))
    kept_draw out scratch (Some x) e = kept_refused K capacity sheet H S
    kept_draw out scratch None e =
        let q = each_yes (draw_asked K capacity count sheet out scratch) e in
        let h = leb-true _ _ (yes _ _ q.0) in
        gone H.rows _ H.entries H.fit (H.ready refl) H.counted H.within h (long K capacity sheet H S h) (ltb-true _ _ (yes _ _ q.1.1.1.0))

  -- one call
  pub kept : (es : List Entry) (ph : Phase) (count : ℕ) (used sheet : List ℕ) → Held K capacity es ph count used → Shows K capacity used sheet → (c : Call) → Allowed c ph →
      ((effect K capacity count sheet c).phase ≡ Burnt → ⊥) →
      Held K capacity (holding c (effect K capacity count sheet c).refusal es) (effect K capacity count sheet c).phase (effect K capacity count sheet c).count (laid K capacity used (effect K capacity count sheet c).sheet)
  kept es ph count used sheet H S (put num den) a b = kept_put K capacity es count used sheet num den (moved K capacity (sym a) refl refl H) S _ refl
  kept es ph count used sheet H S take_back a b = kept_take K capacity es count used sheet (moved K capacity (sym a) refl refl H) S _ refl
  kept es ph count used sheet H S (close scratch) a b = kept_close es count used sheet (moved K capacity (sym a) refl refl H) S scratch _ refl
  kept es ph count used sheet H S (draw out scratch) a b = kept_draw es count used sheet (moved K capacity (sym a) refl refl H) S out scratch _ refl
  kept es ph count used sheet H S burn a b = absurd (b refl)

-- no call is made on a burnt tray
live : (c : Call) (ph : Phase) → Allowed c ph → ph ≡ Burnt → ⊥
live (put num den) ph a e = open_burnt (sym a ∙ e)
live take_back ph a e = open_burnt (sym a ∙ e)
live (close scratch) ph a e = open_burnt (sym a ∙ e)
live (draw out scratch) ph a e = closed_burnt (sym a ∙ e)
live burn ph a e = a e

pub step_live : {K : Calculus} {capacity : ℕ} {was now : Tray} {e : Event} → Step K capacity was e now → was.phase ≡ Burnt → ⊥
step_live {K} {capacity} {was} {now} {e} s = live e.call was.phase s.allowed
