-- A close with an entry and enough memory is refused exactly when some denominator has no inverse, and names the first such entry.
-- Main results: `closes`, `names_first`.
use Rattle.std.proofs.Common.{◌≡◌, ℕ, suc, ◌+◌, ◌*◌, ◌<◌, ◌≤◌, Bool, true, false, ◌⊎◌, ◌↔◌, List, [], ◌∷◌, ◌++◌, map, length, is_some, Some, None, Option, sym, refl, ap, ◌∙◌, subst, inl, inr, add-one, arith}
use borrow.Author.Tests.{clash}
use Rattle.std.proofs.lemmas.List.{length-map}
use Rattle.std.proofs.lemmas.Bool.{lt-ltb, le-leb}
use Rattle.refusal.specs.declared.Refusal.{Refusal}
use Rattle.refusal.specs.declared.Refusal.TheVariants.{NoInverse}
use Rattle.refusal.specs.Questions.{asked}
use Rattle.ring.proofs.Units.{one_times_normal, inverse_left, inverse_right, inverse_times}
use Rattle.divstep.specs.ReadOff.{inversion_steps}
use Rattle.traylaw.specs.Calculus.{Calculus, Polynomial, one, times, Lawful}
use Rattle.traylaw.specs.Sheets.{room, shelf}
use Rattle.traylaw.specs.Effects.{product, coded_denominators, unless_found, first_uninvertible, earlier, inverse_asked}
use Rattle.traylaw.specs.Runs.{Entry, effect}
use Rattle.traylaw.specs.Law.{held, Refused, Uninvertible, SomeUninvertible, FirstUninvertible, Closing}
use Rattle.traylaw.proofs.Questions.{yes, says_yes, passed, last_asked}
use Rattle.traylaw.proofs.Rows.{Row, entry_of, stacked, AllFit, whole, top, den_on, product_is, denominators_coded, whole_is}
use Rattle.traylaw.proofs.Held.{long}
use Rattle.traylaw.proofs.Kept.{Before, stood_before}

module _ {K : Calculus} (L : Lawful K) where
  -- b is an inverse of the product of all denominators
  record WholeInverse (rs : List Row) : Type 0 where
    b : List ℕ
    polynomial : Polynomial K b
    inverts : times K (whole K rs) b ≡ one K

  -- either the product of all denominators has an inverse, or some denominator has none
  one_more : (r : Row) (rs : List Row) → Polynomial K r.den → (o : Option (List ℕ)) → K.inverse r.den ≡ o →
      WholeInverse rs ⊎ SomeUninvertible K (map entry_of rs) → WholeInverse (r ∷ rs) ⊎ SomeUninvertible K (map entry_of (r ∷ rs))
  one_more r rs p None e s = inr (inl (λ b h k. L.missed r.den b p e h k))
  one_more r rs p (Some c) e (inl t) = inl (record {
    b = times K t.b c;
    polynomial = L.times_is _ _;
    inverts = inverse_times L.ring (whole K rs) r.den t.b c t.inverts (L.found r.den c p e).1;
  })
  one_more r rs p (Some c) e (inr t) = inr (inr t)

  either : (rs : List Row) → AllFit K rs → WholeInverse rs ⊎ SomeUninvertible K (map entry_of rs)
  either [] f = inl (record { b = one K; polynomial = L.one_is; inverts = one_times_normal L.ring (one K) L.ring.one_normal })
  either (r ∷ rs) f = one_more r rs f.0.den (K.inverse r.den) refl (either rs f.1)

  not_both : (rs : List Row) (b : List ℕ) → times K (whole K rs) b ≡ one K → SomeUninvertible K (map entry_of rs) → ⊥
  not_both [] b e s = s
  not_both (r ∷ rs) b e (inl u) = u (times K (whole K rs) b) (L.times_is _ _) (inverse_right L.ring (whole K rs) r.den b e)
  not_both (r ∷ rs) b e (inr s) = not_both rs (times K r.den b) (inverse_left L.ring (whole K rs) r.den b e) s

  -- the search for the inverse of the product says which
  decides : (rs : List Row) → AllFit K rs → (o : Option (List ℕ)) → K.inverse (whole K rs) ≡ o → (is_some o ≡ true → ⊥) ↔ SomeUninvertible K (map entry_of rs)
  decides rs f None e = (
    (λ h. elim (either rs f) [ inl t ↦ absurd (L.missed (whole K rs) t.b (whole_is L rs) e t.polynomial t.inverts) | inr s ↦ s ]),
    λ s h. clash h,
  )
  decides rs f (Some b) e = ((λ h. absurd (h refl)), λ s h. not_both rs b (L.found (whole K rs) b (whole_is L rs) e).1 s)

  some_row : (rows : List Row) → (map entry_of rows ≡ [] → ⊥) → 0 < length rows
  some_row [] h = absurd (h refl)
  some_row (r ∷ rs) h = omega arith

  refused_by : (x : Refusal) (b : Bool) (P : Type 0) (r : Option Refusal) → r ≡ asked x b → (b ≡ true → ⊥) ↔ P → (r ≡ None → ⊥) ↔ P
  refused_by x b P r e d = ((λ h. d.0 (λ k. h (e ∙ says_yes x b k))), λ p k. d.1 p (yes x b (sym e ∙ k)))

  -- a close with an entry and enough memory comes to the last question
  record Reached (c : Closing K) : Type 0 where
    now : Before L c.at.capacity c.at.before c.at.event c.at.tray
    low : List ℕ
    stands : now.step.sheet ≡ stacked now.holds.rows ++ low
    answer : c.at.event.refusal ≡ inverse_asked K now.was.count now.step.sheet

  reached : (c : Closing K) → Reached c
  reached c =
      let m = c.at in
      let b = stood_before L m.capacity m.run in
      let n = b.was.count in
      let sheet = b.step.sheet in
      let H = b.holds in
      let big : room K.degree m.capacity ≤ length sheet = omega (arith, c.enough_sheet, b.step.lent) in
      let s = long K m.capacity sheet H b.step.shows big in
      let some : 0 < n = omega (arith, H.counted, some_row H.rows (λ e. c.entry (sym H.entries ∙ e))) in
      let coded = ap (λ k. coded_denominators K k sheet) H.counted ∙ denominators_coded K sheet H.rows _ H.fit s in
      record {
        now = b;
        low = _;
        stands = s;
        answer =
            b.step.refusal ∙ ap (λ x. (effect K m.capacity n sheet x).refusal) c.call ∙ passed _ _ _ (le-leb _ _ big) ∙ passed _ _ _ (le-leb _ _ c.enough_scratch)
            ∙ passed _ _ _ (lt-ltb _ _ some) ∙ passed _ _ _ coded ∙ last_asked _ _;
      }

  pub closes : (c : Closing K) → Refused c.at.event ↔ SomeUninvertible K (held c.at)
  closes c =
      let a = reached c in
      let H = a.now.holds in
      let n = a.now.was.count in
      let sheet = a.now.step.sheet in
      let is = ap (λ k. K.inverse (product K k sheet)) H.counted ∙ ap K.inverse (product_is K sheet H.rows _ H.fit a.stands) in
      let d = decides H.rows H.fit (K.inverse (product K n sheet)) (sym is) in
      refused_by _ _ _ _ a.answer (subst (λ (es : List Entry). (is_some (K.inverse (product K n sheet)) ≡ true → ⊥) ↔ SomeUninvertible K es) H.entries d)

  -- the first entry whose denominator has no inverse, by its number
  record FirstAt (es : List Entry) (j : ℕ) : Type 0 where
    later : List Entry
    entry : Entry
    before : List Entry
    place : es ≡ later ++ entry ∷ before
    none : Uninvertible K entry.den
    first : SomeUninvertible K before → ⊥
    number : j ≡ suc (length before)

  -- or there is none, and the number is 0
  abbrev FirstIf : List Entry → ℕ → Type 0
  FirstIf es j = FirstAt es j ⊎ ((j ≡ 0) × (SomeUninvertible K es → ⊥))

  first_more : (r : Row) (rs : List Row) (j : ℕ) → Polynomial K r.den → (o : Option (List ℕ)) → K.inverse r.den ≡ o →
      FirstIf (map entry_of rs) j → FirstIf (map entry_of (r ∷ rs)) (earlier j (unless_found o (suc (length rs))))
  first_more r rs j p o e (inl t) = inl (record {
    later = entry_of r ∷ t.later;
    entry = t.entry;
    before = t.before;
    place = ap (λ l. entry_of r ∷ l) t.place;
    none = t.none;
    first = t.first;
    number = ap (λ k. earlier k (unless_found o (suc (length rs)))) t.number;
  })
  first_more r rs j p None e (inr t) = inl (record {
    later = [];
    entry = entry_of r;
    before = map entry_of rs;
    place = refl;
    none = λ b h k. L.missed r.den b p e h k;
    first = t.1;
    number = ap (λ k. earlier k (suc (length rs))) t.0 ∙ ap suc (sym (length-map rs entry_of));
  })
  first_more r rs j p (Some b) e (inr t) = inr (
    ap (λ k. earlier k 0) t.0,
    λ s. elim s [ inl u ↦ u b (L.found r.den b p e).0 (L.found r.den b p e).1 | inr k ↦ t.1 k ],
  )

  first_on : (sheet : List ℕ) (rs : List Row) (low : List ℕ) → AllFit K rs → sheet ≡ stacked rs ++ low → FirstIf (map entry_of rs) (first_uninvertible K (length rs) sheet)
  unfolding first_uninvertible
  first_on sheet [] low f s = inr (refl, λ b. b)
  first_on sheet (r ∷ rs) low f s =
      let t = top K sheet rs r low s in
      first_more r rs (first_uninvertible K (length rs) sheet) f.0.den (K.inverse (shelf K.degree (3 * length rs + 1) sheet)) (ap K.inverse (sym (den_on K sheet rs r low f.1 f.0 t)))
      (first_on sheet rs _ f.1 t)

  names : (es : List Entry) (r : Option Refusal) (b : Bool) (j : ℕ) → SomeUninvertible K es → FirstIf es j →
      r ≡ asked (NoInverse j (inversion_steps K.degree * (j + 1))) b → (r ≡ None → ⊥) → FirstUninvertible K es r
  names es r b j s (inr t) e h = absurd (t.1 s)
  names es r true j s (inl t) e h = absurd (h e)
  names es r false j s (inl t) e h = record {
    later = t.later;
    entry = t.entry;
    before = t.before;
    place = t.place;
    none = t.none;
    first = t.first;
    answered = e ∙ ap (λ k. Some (NoInverse k (inversion_steps K.degree * (k + 1)))) (t.number ∙ sym (add-one (length t.before)));
  }

  pub names_first : (c : Closing K) → Refused c.at.event → FirstUninvertible K (held c.at) c.at.event.refusal
  names_first c h =
      let a = reached c in
      let H = a.now.holds in
      let n = a.now.was.count in
      let sheet = a.now.step.sheet in
      names (held c.at) c.at.event.refusal _ (first_uninvertible K n sheet) ((closes c).0 h)
      (subst (λ (es : List Entry). FirstIf es (first_uninvertible K n sheet)) H.entries
      (subst (λ (k : ℕ). FirstIf (map entry_of H.rows) (first_uninvertible K k sheet)) (sym H.counted) (first_on sheet H.rows _ H.fit a.stands)))
      a.answer h
