-- A draw with an entry and enough memory gives the quotient of the last entry.
-- Main results: `drawn`, `same`.
use Rattle.std.proofs.Common.{◌≡◌, ℕ, pred, ◌<◌, ◌≤◌, true, ◌↔◌, List, [], ◌∷◌, ◌++◌, map, length, None, sym, ap, ◌∙◌, subst, ap₂, arith}
use Rattle.std.proofs.lemmas.Bool.{lt-ltb, le-leb, eq-eqb, and_from}
use Rattle.refusal.specs.Questions.{first_no}
use Rattle.field.specs.Meaning.{all_codes}
use Rattle.traylaw.specs.Calculus.{Calculus, one, times, Lawful}
use Rattle.traylaw.specs.Sheets.{room, numerator_at}
use Rattle.traylaw.specs.Effects.{Phase.Closed, granted, coded_last, last_inverse, draw_asked}
use Rattle.traylaw.specs.Runs.{Call, Entry, Allowed, effect}
use Rattle.traylaw.specs.Law.{Accepted, Quotient, Drawing, quotient}
use Rattle.traylaw.proofs.Questions.{says_yes, from_each}
use Rattle.traylaw.proofs.Quotients.{right_factor, quotient_is, same_quotient}
use Rattle.traylaw.proofs.Rows.{Row, entry_of, stacked, AllFit, whole, Ready, top, num_on, den_on, prod_on}
use Rattle.traylaw.proofs.Held.{long, product_on, codes_on}
use Rattle.traylaw.proofs.Kept.{stood_before}

-- what a draw computes
abbrev drawn_from : Calculus → ℕ → List ℕ → List ℕ
drawn_from K i sheet = times K (numerator_at K.degree i sheet) (last_inverse K i sheet)

module _ {K : Calculus} (L : Lawful K) where
  -- what a draw finds
  record Found (last : Entry) (count : ℕ) (sheet : List ℕ) : Type 0 where
    some : 0 < count
    codes : coded_last K (pred count) sheet ≡ true
    quotient : Quotient K last.num last.den (drawn_from K (pred count) sheet)
    inverse : List ℕ
    inverts : times K last.den inverse ≡ one K

  finds : (count : ℕ) (sheet : List ℕ) (last : Entry) (others : List Entry) (rows : List Row) (low : List ℕ) → map entry_of rows ≡ last ∷ others → AllFit K rows → Ready K rows →
      count ≡ length rows → sheet ≡ stacked rows ++ low → Found last count sheet
  finds count sheet last others [] low e f rd c s = absurd (let z : ◌≡◌ {A = ℕ} 0 1 = cc in omega arith)
  finds count sheet last others (r ∷ rs) low e f rd c s =
      let en : entry_of r ≡ last = cc in
      let k : pred count ≡ length rs = ap pred c in
      let t = top K sheet rs r low s in
      let n = num_on K sheet rs r low f.1 f.0 t in
      let d = den_on K sheet rs r low f.1 f.0 t in
      let q = prod_on K sheet rs r low f.1 f.0 t in
      let i : List ℕ = times K r.prod (whole K rs) in
      let ok : times K r.den i ≡ one K = right_factor L (whole K rs) r.den r.prod rd.1 in
      let coded : coded_last K (length rs) sheet ≡ true =
      and_from _ _ (ap (all_codes K.size) n ∙ f.0.num.codes)
      (and_from _ _ (ap (all_codes K.size) d ∙ f.0.den.codes) (and_from _ _ (ap (all_codes K.size) q ∙ rd.0.codes) (codes_on L sheet rs _ f.1 t rd.2))) in
      let out_is : drawn_from K (pred count) sheet ≡ times K r.num i =
      ap (λ m. drawn_from K m sheet) k ∙ ap₂ (times K) n (ap₂ (times K) q (product_on K sheet rs _ f.1 t rd.2)) in
      record {
        some = omega arith;
        codes = ap (λ m. coded_last K m sheet) k ∙ coded;
        quotient = subst (λ (z : List ℕ). Quotient K last.num last.den z) (sym out_is)
            (subst (λ (x : Entry). Quotient K x.num x.den (times K r.num i)) en (quotient_is L r.num r.den i f.0.num ok));
        inverse = i;
        inverts = ap (λ (x : Entry). times K x.den i) (sym en) ∙ ok;
      }

  record Drawn (d : Drawing K) : Type 0 where
    accepted : Accepted d.at.event
    divides : Quotient K d.last.num d.last.den (quotient d)
    inverse : List ℕ
    inverts : times K d.last.den inverse ≡ one K

  draws : (d : Drawing K) → Drawn d
  draws d =
      let m = d.at in
      let b = stood_before L m.capacity m.run in
      let n = b.was.count in
      let sheet = b.step.sheet in
      let ph : b.was.phase ≡ Closed = subst (λ (c : Call). Allowed c b.was.phase) d.call b.step.allowed in
      let big : room K.degree m.capacity ≤ length sheet = omega (arith, d.enough_sheet, b.step.lent) in
      let H = b.holds in
      let F = finds n sheet d.last d.others H.rows _ (H.entries ∙ d.entry) H.fit (H.ready ph) H.counted (long K m.capacity sheet H b.step.shows big) in
      let granting : first_no (draw_asked K m.capacity n sheet d.given d.scratch) ≡ None =
      from_each (draw_asked K m.capacity n sheet d.given d.scratch) (
        says_yes _ _ (le-leb _ _ big),
        (says_yes _ _ (le-leb _ _ d.enough_scratch), (says_yes _ _ (eq-eqb _ _ d.enough_output), (says_yes _ _ (lt-ltb _ _ F.some), (says_yes _ _ F.codes, tt)))),
      ) in
      let out : m.event.out ≡ drawn_from K (pred n) sheet =
      b.step.out ∙ ap (λ c. (effect K m.capacity n sheet c).out) d.call ∙ ap (λ r. granted r (drawn_from K (pred n) sheet) d.given) granting in
      record {
        accepted = b.step.refusal ∙ ap (λ c. (effect K m.capacity n sheet c).refusal) d.call ∙ granting;
        divides = subst (λ (z : List ℕ). Quotient K d.last.num d.last.den z) (sym out) F.quotient;
        inverse = F.inverse;
        inverts = F.inverts;
      }

  pub drawn : (d : Drawing K) → Accepted d.at.event × Quotient K d.last.num d.last.den (quotient d)
  drawn d = ((draws d).accepted, (draws d).divides)

  pub same : (c d : Drawing K) → (quotient c ≡ quotient d) ↔ (times K c.last.num d.last.den ≡ times K d.last.num c.last.den)
  same c d =
      let x = draws c in
      let y = draws d in
      same_quotient L _ _ _ _ _ _ _ _ x.divides y.divides x.inverts y.inverts
