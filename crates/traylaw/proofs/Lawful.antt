-- What the layers below promise of the polynomials of a field and a degree.
-- Main results: `lawful`.
use Rattle.std.proofs.Common.{◌≡◌, ℕ, ◌≤◌, List, Some, None, Option, subst, arith}
use Rattle.field.specs.Meaning.{Arithmetic, ArithmeticLaws, ReciprocalLaws}
use Rattle.field.proofs.Codes.{all_codes_at, all_codes_from}
use Rattle.ring.specs.Laws.{Polynomial as EachCode}
use Rattle.ring.proofs.Laws.{coded_polynomials, product_polynomial, polynomial_normal, normal_polynomial}
use Rattle.divstep.specs.ReadOff.{inverse_of, Answers}
use Rattle.divstep.proofs.ReadOff.{inverse_read_off}
use Rattle.traylaw.specs.Calculus.{calculus, Polynomial, Lawful}

-- p numbers of which each is a code, and p numbers that pass the test for codes
module _ (A : Arithmetic) (recip : ℕ → Option ℕ) (p : ℕ) (a : List ℕ) where
  tested : EachCode A p a → Polynomial (calculus A recip p) a
  tested h = record { long = h.long; codes = all_codes_from A.size a (λ k l. h.codes k (omega arith)) }

  each : Polynomial (calculus A recip p) a → EachCode A p a
  each h = record { long = h.long; codes = λ k l. all_codes_at A.size a h.codes k (omega arith) }

pub lawful : (A : Arithmetic) → ArithmeticLaws A → (recip : ℕ → Option ℕ) → ReciprocalLaws A recip → (p : ℕ) → 2 ≤ p → Lawful (calculus A recip p)
lawful A laws recip reciprocals p big = record {
  ring = coded_polynomials A laws p big;
  one_is = tested A recip p _ (normal_polynomial A laws p _ (coded_polynomials A laws p big).one_normal);
  times_is = λ a b. tested A recip p _ (product_polynomial A laws p big a b);
  normal = λ a h. polynomial_normal A laws p a (each A recip p a h);
  found = λ a b h e. let r : Answers A p a (Some b) = answers a (Some b) h e in (tested A recip p b r.0, r.1);
  missed = λ a b h e k i. answers a None h e (record { inverse = b; polynomial = each A recip p b k; inverts = i });
}
  where
    answers : (a : List ℕ) (o : Option (List ℕ)) → Polynomial (calculus A recip p) a → inverse_of A p recip a ≡ o → Answers A p a o
    answers a o h e = subst (Answers A p a) e (inverse_read_off A laws recip reciprocals p big a (each A recip p a h)).answers
