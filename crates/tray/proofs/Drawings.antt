-- The entry before the last one: its product shelf, which counts as 1 where there is no such entry.
-- Main results: `entry_before`, what it is in either case; `inverse_first`.
use Rattle.std.proofs.Common.{◌≡◌, ℕ, zero, suc, ◌+◌, ◌-◌, ◌*◌, ◌≤◌, true, List, ap, ◌∙◌, arith}
use Rattle.field.specs.Meaning.{all_codes}
use Rattle.ring.proofs.Units.{one_times_normal}
use Rattle.traylaw.specs.Calculus.{Calculus, Polynomial, Lawful, times}
use Rattle.traylaw.specs.Sheets.{shelved, product_at}
use Rattle.traylaw.specs.Effects.{product_before, coded_before, put_before, last_inverse}

module _ (K : Calculus) (i : ℕ) (sheet : List ℕ) where
  pub coded_first : i ≡ 0 → coded_before K i sheet ≡ true
  unfolding coded_before
  coded_first e = ap (λ n. coded_before K n sheet) e

  pub put_first : (poly : List ℕ) → i ≡ 0 → put_before K i poly sheet ≡ sheet
  unfolding put_before
  put_first poly e = ap (λ n. put_before K n poly sheet) e

  pub inverse_first : Lawful K → Polynomial K (product_at K.degree i sheet) → i ≡ 0 → last_inverse K i sheet ≡ product_at K.degree i sheet
  unfolding product_before
  inverse_first L h e = ap (λ n. times K (product_at K.degree i sheet) (product_before K n sheet)) e ∙ L.ring.times_comm _ _ ∙ one_times_normal L.ring _ (L.normal _ h)

module _ (K : Calculus) where
  pub coded_later : (i : ℕ) (sheet : List ℕ) → 1 ≤ i → coded_before K i sheet ≡ all_codes K.size (product_at K.degree (i - 1) sheet)
  unfolding coded_before
  coded_later zero sheet h = absurd (omega arith)
  coded_later (suc i) sheet h = let e : i ≡ suc i - 1 = omega arith in ap (λ n. all_codes K.size (product_at K.degree n sheet)) e

  pub put_later : (i : ℕ) (sheet poly : List ℕ) → 1 ≤ i → put_before K i poly sheet ≡ shelved K.degree (3 * (i - 1) + 2) poly sheet
  unfolding put_before
  put_later zero sheet poly h = absurd (omega arith)
  put_later (suc i) sheet poly h = let e : i ≡ suc i - 1 = omega arith in ap (λ n. shelved K.degree (3 * n + 2) poly sheet) e

  pub product_later : (i : ℕ) (sheet : List ℕ) → 1 ≤ i → product_before K i sheet ≡ product_at K.degree (i - 1) sheet
  unfolding product_before
  product_later zero sheet h = absurd (omega arith)
  product_later (suc i) sheet h = let e : i ≡ suc i - 1 = omega arith in ap (λ n. product_at K.degree n sheet) e

pub ruleset entry_before = (coded_first, coded_later, put_first, put_later, product_later)
