-- The lines of a key's text, written out.
-- Main definitions: `trit_line`, `number_line`; `IsTritLine`, `IsNumberLine`, `NoneOf`.
use Rattle.std.specs.Prelude.{◌≡◌, ℕ, ◌+◌, true, List, ◌∷◌, map, length, Some, None, decimal, Option}
use Rattle.std.specs.List.{flat_map}
use Rattle.field.specs.Meaning.{all_codes}
use Rattle.keytext.specs.declared.malformed.Line.{Line}
use Rattle.keytext.specs.declared.malformed.Line.TheVariants.{G, F, V, H}
use Rattle.keytext.specs.declared.malformed.Malformed.{Malformed}
use Rattle.keytext.specs.declared.malformed.Malformed.TheVariants.{Missing, WrongLabel, WrongCount, NotANumber, OutOfRange, TrailingText}

-- a line begins with its letter
abbrev pub letter_of : Line → ℕ
letter_of G = 103
letter_of F = 102
letter_of V = 118
letter_of H = 104

-- the line that a refusal speaks of
abbrev pub line_of : Malformed → Option Line
line_of (Missing l) = Some l
line_of (WrongLabel l) = Some l
line_of (WrongCount l) = Some l
line_of (NotANumber l k) = Some l
line_of (OutOfRange l k) = Some l
line_of TrailingText = None

-- the digit of a trit
abbrev pub digit : ℕ → ℕ
digit t = t + 48

-- the letter, a space and the digits of the trits
abbrev pub trit_line : ℕ → List ℕ → List ℕ
trit_line letter xs = letter ∷ 32 ∷ map digit xs

-- a space and a number in decimal
abbrev pub spaced : ℕ → List ℕ
spaced x = 32 ∷ decimal x

-- the letter, and each number after its space
abbrev pub number_line : ℕ → List ℕ → List ℕ
number_line letter xs = letter ∷ flat_map spaced xs

-- the text is the line of these codes
pub record IsTritLine (letter : ℕ) (text xs : List ℕ) : Type 0 where
  pub codes : all_codes 3 xs ≡ true
  pub written : text ≡ trit_line letter xs

pub record IsNumberLine (letter : ℕ) (text xs : List ℕ) : Type 0 where
  pub codes : all_codes 4591 xs ≡ true
  pub written : text ≡ number_line letter xs

-- of no list of n numbers
abbrev pub NoneOf : ℕ → (List ℕ → Type 0) → Type 0
NoneOf n P = (xs : List ℕ) → length xs ≡ n → P xs → ⊥
