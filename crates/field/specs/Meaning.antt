-- What a field on numbers means.
-- A field has s elements, and its codes are the numbers 0 to s - 1: each code stands for one element, code 0 for zero and code 1 for one.
-- Main definitions: `Arithmetic` and `ArithmeticLaws`, `ReciprocalLaws`; `code` and `coded`, how numbers that are no codes are read.
use Rattle.std.specs.Prelude.{◌≡◌, ℕ, ◌<◌, ◌≤◌, Bool, true, cond, ◌&&◌, ◌≢◌, List, [], ◌∷◌, Some, None, Option, nat_lt}
use Rattle.field.specs.Rings.{Operations}

-- the size s, and the sum, the difference and the product of two codes
pub record Arithmetic : Type 0 where
  pub size : ℕ
  pub plus : ℕ → ℕ → ℕ
  pub minus : ℕ → ℕ → ℕ
  pub times : ℕ → ℕ → ℕ

abbrev pub Code : Arithmetic → ℕ → Type 0
Code A a = a < A.size

-- The laws of a commutative ring, of codes only. One differs from zero since 0 and 1 are two codes.
pub record ArithmeticLaws (A : Arithmetic) : Type 0 where
  pub size_least : 2 ≤ A.size
  pub size_most : A.size ≤ 16384
  pub plus_code : (a b : ℕ) → Code A a → Code A b → Code A (A.plus a b)
  pub minus_code : (a b : ℕ) → Code A a → Code A b → Code A (A.minus a b)
  pub times_code : (a b : ℕ) → Code A a → Code A b → Code A (A.times a b)
  pub plus_comm : (a b : ℕ) → Code A a → Code A b → A.plus a b ≡ A.plus b a
  pub plus_assoc : (a b c : ℕ) → Code A a → Code A b → Code A c → A.plus (A.plus a b) c ≡ A.plus a (A.plus b c)
  pub times_comm : (a b : ℕ) → Code A a → Code A b → A.times a b ≡ A.times b a
  pub times_assoc : (a b c : ℕ) → Code A a → Code A b → Code A c → A.times (A.times a b) c ≡ A.times a (A.times b c)
  pub times_plus : (a b c : ℕ) → Code A a → Code A b → Code A c → A.times a (A.plus b c) ≡ A.plus (A.times a b) (A.times a c)
  pub plus_zero : (a : ℕ) → Code A a → A.plus a 0 ≡ a
  pub times_one : (a : ℕ) → Code A a → A.times a 1 ≡ a
  pub plus_minus : (a b : ℕ) → Code A a → Code A b → A.minus (A.plus a b) b ≡ a
  pub minus_plus : (a b : ℕ) → Code A a → Code A b → A.plus (A.minus a b) b ≡ a

-- an answer that is a code whose product with a is one
abbrev pub IsReciprocal : Arithmetic → ℕ → Option ℕ → Type 0
IsReciprocal A a None = ⊥
IsReciprocal A a (Some b) = Code A b × (A.times a b ≡ 1)

-- zero alone has no reciprocal
pub record ReciprocalLaws (A : Arithmetic) (reciprocal : ℕ → Option ℕ) : Type 0 where
  pub of_zero : reciprocal 0 ≡ None
  pub of_others : (a : ℕ) → Code A a → a ≢ 0 → IsReciprocal A a (reciprocal a)

-- a number that is no code of a field with s elements is read as 0
abbrev pub code : ℕ → ℕ → ℕ
code s n = cond (nat_lt n s) n 0

-- the operations on all numbers, each read as a code
unfoldable pub coded : Arithmetic → Operations ℕ
coded A = record {
  zero = 0;
  one = 1;
  plus = λ a b. A.plus (code A.size a) (code A.size b);
  minus = λ a b. A.minus (code A.size a) (code A.size b);
  times = λ a b. A.times (code A.size a) (code A.size b);
}

-- is each number of a list a code?
unfoldable pub all_codes : ℕ → List ℕ → Bool
all_codes s [] = true
all_codes s (x ∷ xs) = nat_lt x s && all_codes s xs
