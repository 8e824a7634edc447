-- Quotients of polynomials by those that have an inverse.
-- Main results: `quotient_is`, that n·i is the quotient n/d where i is the inverse of d; `same_quotient`, that n/d = m/e exactly when n·e = m·d.
use Rattle.std.proofs.Common.{◌≡◌, ℕ, ◌↔◌, List, sym, ap, ◌∙◌}
use Rattle.ring.proofs.Units.{one_times_normal, inverse_left, inverse_right, inverse_times}
use Rattle.traylaw.specs.Calculus.{Calculus, Polynomial, one, times, Lawful}
use Rattle.traylaw.specs.Law.{Quotient}

module _ {K : Calculus} (L : Lawful K) where
  times_one : (a : List ℕ) → Polynomial K a → times K a (one K) ≡ a
  times_one a h = L.ring.times_comm a (one K) ∙ one_times_normal L.ring a (L.normal a h)

  -- b undoes a
  back : (a b c : List ℕ) → Polynomial K c → times K a b ≡ one K → times K (times K c a) b ≡ c
  back a b c h e = L.ring.times_assoc c a b ∙ ap (times K c) e ∙ times_one c h

  -- c is an inverse of a·b
  pub left_factor : (a b c : List ℕ) → times K (times K a b) c ≡ one K → times K a (times K c b) ≡ one K
  left_factor a b c e = ap (times K a) (L.ring.times_comm c b) ∙ inverse_left L.ring a b c e

  pub right_factor : (a b c : List ℕ) → times K (times K a b) c ≡ one K → times K b (times K c a) ≡ one K
  right_factor a b c e = ap (times K b) (L.ring.times_comm c a) ∙ inverse_right L.ring a b c e

  pub quotient_is : (n d i : List ℕ) → Polynomial K n → times K d i ≡ one K → Quotient K n d (times K n i)
  quotient_is n d i h e = record {
    polynomial = L.times_is n i;
    product = L.ring.times_assoc n i d ∙ ap (times K n) (L.ring.times_comm i d ∙ e) ∙ times_one n h;
    only = λ y g k. sym (back d i y g e) ∙ ap (λ t. times K t i) k;
  }

  -- i is an inverse of d, and j of e
  pub same_quotient : (n d y m e z i j : List ℕ) → Quotient K n d y → Quotient K m e z → times K d i ≡ one K → times K e j ≡ one K → (y ≡ z) ↔ (times K n e ≡ times K m d)
  same_quotient n d y m e z i j hy hz ei ej =
      let left : times K n e ≡ times K y (times K d e) = ap (λ t. times K t e) (sym hy.product) ∙ L.ring.times_assoc y d e in
      let right : times K m d ≡ times K z (times K d e) =
      ap (λ t. times K t d) (sym hz.product) ∙ L.ring.times_assoc z e d ∙ ap (times K z) (L.ring.times_comm e d) in (
        (λ k. left ∙ ap (λ t. times K t (times K d e)) k ∙ sym right),
        λ k. sym (undo y hy.polynomial) ∙ ap (λ t. times K t (times K i j)) (sym left ∙ k ∙ right) ∙ undo z hz.polynomial,
      )
    where
      undo : (c : List ℕ) → Polynomial K c → times K (times K c (times K d e)) (times K i j) ≡ c
      undo c h = back (times K d e) (times K i j) c h (inverse_times L.ring d e i j ei ej)
