-- Which texts are numbers in decimal, and what they write.
-- Main results: `writing`; `short_value`, `long_value`.
use Rattle.std.proofs.Common.{◌≡◌, ℕ, zero, suc, ◌+◌, ◌*◌, ◌%◌, ◌<◌, ◌≤◌, true, false, eqb, List, [], ◌∷◌, length, get_or, decimal, refl, sym, ap, ◌∙◌, ap₂, ⊎_elim, arith}
use Rattle.std.specs.Char.{digit_value}
use Rattle.std.specs.Int.{IsInRange}
use Rattle.std.specs.List.{fold}
use Rattle.std.specs.Str.{all_ascii_digits}
use Rattle.std.specs.Str.Parse.{digits_value, digits_value_after}
use Rattle.std.proofs.lemmas.Bool.{eqb-true, eqb-false, ne_eqb, cases_Bool, cond-true, cond-false}
use Rattle.std.proofs.lemmas.Fmt.{decimal-digits_value, length-decimal-le, decimal_digit, first_decimal, digits_decimal, digits_value-decimal}
use Rattle.std.proofs.lemmas.List.{nil_from_length}
use Rattle.std.proofs.lemmas.Str.{digit_value_digit}
use Rattle.std.proofs.lemmas.Str.Parse.{IsNumeralModel, numerals_by_value, tells_all_ascii_digits, digit_at, digits_value_short}
use Rattle.keytext.specs.Numbers.{is_decimal}

own : IsNumeralModel (λ ds. all_ascii_digits ds ≡ true) (digits_value 10)
own = numerals_by_value _ tells_all_ascii_digits

pub digit_within : (ds : List ℕ) (i : ℕ) → all_ascii_digits ds ≡ true → i < length ds → IsInRange 48 57 (get_or ds i 0)
digit_within ds i e h = digit_at ds i (own.to ds e) h

-- a number in decimal is digits, and a zero in front is all of it
record Parts (ds : List ℕ) : Type 0 where
  digits : all_ascii_digits ds ≡ true
  some : 0 < length ds
  zero_alone : get_or ds 0 0 ≡ 48 → length ds ≡ 1

parts : (ds : List ℕ) → is_decimal ds ≡ true → Parts ds
parts [] e = absurd cc
parts (d ∷ ds) e = ⊎_elim alone others (cases_Bool (eqb d 48))
  where
    alone : eqb d 48 ≡ true → Parts (d ∷ ds)
    alone z =
        let none : length ds ≡ 0 = eqb-true (length ds) 0 (sym (cond-true (eqb d 48) _ _ z) ∙ e) in
        record {
          digits = ap₂ (λ x xs. all_ascii_digits (x ∷ xs)) (eqb-true d 48 z) (nil_from_length ds none);
          some = omega arith;
          zero_alone = λ is. omega arith;
        }

    others : eqb d 48 ≡ false → Parts (d ∷ ds)
    others z = record { digits = sym (cond-false (eqb d 48) _ _ z) ∙ e; some = omega arith; zero_alone = λ is. absurd (eqb-false d 48 z is) }

from_digits : (ds : List ℕ) → all_ascii_digits ds ≡ true → 48 < get_or ds 0 0 → is_decimal ds ≡ true
from_digits [] e h = absurd (omega arith)
from_digits (d ∷ ds) e h = cond-false (eqb d 48) _ _ (ne_eqb d 48 (λ z. omega arith)) ∙ e

-- a text in decimal writes one number, and a number is written in one way
pub writing_value : (ds : List ℕ) (x : ℕ) → is_decimal ds ≡ true → x ≡ digits_value 10 ds → x < 4591 → ds ≡ decimal x
writing_value ds x is e small =
    let p = parts ds is in
    sym (decimal-digits_value own ds p.digits p.some p.zero_alone (omega arith)) ∙ ap decimal (sym e)

pub value_of_decimal : (x : ℕ) → x < 4591 → digits_value 10 (decimal x) ≡ x
value_of_decimal x h = digits_value-decimal own x (omega arith)

pub digits_of_decimal : (x : ℕ) → x < 4591 → all_ascii_digits (decimal x) ≡ true
digits_of_decimal x h = digits_decimal own x (omega arith)

pub decimal_is : (x : ℕ) → x < 4591 → is_decimal (decimal x) ≡ true
decimal_is zero h = ap is_decimal (decimal_digit 0 (omega arith))
decimal_is (suc x) h = from_digits (decimal (suc x)) (digits_of_decimal (suc x) h) (first_decimal (suc x) (omega arith) (omega arith))

pub ruleset writing = (writing_value, value_of_decimal, decimal_is)

-- a digit after those of n, in 16 bits
abbrev pub read_on : ℕ → ℕ → ℕ
read_on n d = (n * 10 % 65536 + d % 16) % 65536

read_after : (n : ℕ) (ds : List ℕ) → all_ascii_digits ds ≡ true → fold read_on (n % 65536) ds ≡ digits_value_after 10 n ds % 65536
read_after n [] e = refl
read_after n (d ∷ ds) e =
    let here = tells_all_ascii_digits.parts d ds e in
    let more : read_on (n % 65536) d ≡ (n * 10 + digit_value d) % 65536 = omega (arith, here.0, digit_value_digit d here.0) in
    ap (λ m. fold read_on m ds) more ∙ read_after (n * 10 + digit_value d) ds here.1

-- a number in decimal of at most four digits, read one after another, and one of more
module _ (ds : List ℕ) (is : is_decimal ds ≡ true) where
  pub short_value : length ds ≤ 4 → fold read_on 0 ds ≡ digits_value 10 ds
  short_value h =
      let digits = (parts ds is).digits in
      omega (arith, read_after 0 ds digits, digits_value_short own ds 4 digits h)

  pub long_value : 5 ≤ length ds → 10000 ≤ digits_value 10 ds
  long_value h =
      let p = parts ds is in
      let fails : digits_value 10 ds < 10000 → ⊥ = λ small.
      omega (arith, ap length (decimal-digits_value own ds p.digits p.some p.zero_alone (omega arith)), length-decimal-le 4 (digits_value 10 ds) (omega arith) (omega arith) (omega arith)) in
      omega arith
