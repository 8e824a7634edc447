-- What an inversion answers, from where its steps ended.
-- Main results: `answers_none`, `answers_read`, `answers_right`.
use Rattle.std.proofs.Common.{◌≡◌, ℕ, zero, suc, ◌≤◌, true, false, cond, ◌≢◌, List, length, get_or, ℤ, pos, negsuc, None, Option, refl, ap, ◌∙◌, sym, subst, arith}
use Rattle.field.specs.Meaning.{Arithmetic, ArithmeticLaws, ReciprocalLaws, code, coded, all_codes}
use Rattle.field.specs.Convolution.{at}
use Rattle.field.proofs.Codes.{code_of, all_codes_at}
use Rattle.ring.specs.Laws.{Polynomial}
use Rattle.divstep.specs.ReadOff.{is_zero, divided, read_off, inverse_of, Answers}
use Rattle.divstep.proofs.ReadOff.{inverse_read_off}

other : (d : ℤ) → d ≢ pos 0 → is_zero d ≡ false
other (pos zero) h = absurd (h refl)
other (pos (suc n)) h = refl
other (negsuc n) h = refl

module _ (A : Arithmetic) (recip : ℕ → Option ℕ) (p : ℕ) (a : List ℕ) where
  pub answers_none : (divided A p a).δ ≢ pos 0 → inverse_of A p recip a ≡ None
  unfolding inverse_of
  answers_none h = ap (λ b. cond b (read_off A p (recip (at (coded A) (divided A p a).f 0)) (divided A p a).v) None) (other (divided A p a).δ h)

  module _ (laws : ArithmeticLaws A) (reciprocals : ReciprocalLaws A recip) (big : 2 ≤ p) (long : length a ≡ p) (codes : all_codes A.size a ≡ true) where
    given : Polynomial A p a
    given = record { long = long; codes = λ k h. all_codes_at A.size a codes k (omega arith) }

    -- what is read off is the inverse, and nothing is only where there is none
    pub answers_right : (o : Option (List ℕ)) → inverse_of A p recip a ≡ o → Answers A p a o
    answers_right o e = subst (Answers A p a) e (inverse_read_off A laws recip reciprocals p big a given).answers

    -- o is what the field answers at the constant of f
    pub answers_read : (f : List ℕ) (o : Option ℕ) → (divided A p a).δ ≡ pos 0 → f ≡ (divided A p a).f → o ≡ recip (code A.size (get_or f 0 0)) → inverse_of A p recip a ≡ read_off A p o (divided A p a).v
    unfolding inverse_of coded
    answers_read f o ends f_is o_is =
        let is_code = (inverse_read_off A laws recip reciprocals p big a given).constant_code ends in
        ap (λ z. cond (is_zero z) (read_off A p (recip (get_or (divided A p a).f 0 0)) (divided A p a).v) None) ends
        ∙ ap (λ r. read_off A p r (divided A p a).v) (sym (o_is ∙ ap (λ l. recip (code A.size (get_or l 0 0))) f_is ∙ ap recip (code_of A.size _ is_code)))
