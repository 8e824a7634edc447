-- Codes, and the ring that they are: a number that is no code is read as 0, so the laws of codes become laws of all numbers.
-- Main results: `code_of`, `code_below`, `all_codes_at`, `coded_ring`.
use Rattle.std.proofs.Common.{◌≡◌, ℕ, zero, suc, ◌+◌, ◌<◌, ◌≤◌, Bool, true, false, ◌&&◌, ltb, List, [], ◌∷◌, ◌++◌, length, get_or, take, sym, refl, ap, ◌∙◌, subst, ap₂, arith}
use Rattle.std.proofs.lemmas.List.{take_more}
use Rattle.std.proofs.lemmas.Bool.{lt-ltb, cond-true, cond_both, ltb-true}
use Rattle.field.specs.Rings.{CommutativeRing, Normal}
use Rattle.field.specs.Meaning.{Arithmetic, Code, ArithmeticLaws, code, coded, all_codes}

and_true : (b : Bool) → (b && true) ≡ b
and_true true = refl
and_true false = refl

and_assoc : (a b c : Bool) → ((a && b) && c) ≡ (a && (b && c))
and_assoc true b c = refl
and_assoc false b c = refl

and_left : (a b : Bool) → (a && b) ≡ true → a ≡ true
and_left true b e = refl
and_left false b e = e

and_right : (a b : Bool) → (a && b) ≡ true → b ≡ true
and_right true b e = e
and_right false b e = absurd (let z : ◌≡◌ {A = ℕ} 0 1 = cc in omega arith)

pub code_of : (s n : ℕ) → n < s → code s n ≡ n
code_of s n h = cond-true (ltb n s) n 0 (lt-ltb n s h)

pub code_below : (s n : ℕ) → 0 < s → code s n < s
code_below s n h = cond_both (ltb n s) n 0 (λ x. x < s) (λ e. ltb-true n s e) (λ e. h)

pub code_zero : (s : ℕ) → code s 0 ≡ 0
code_zero s = cond_both (ltb 0 s) 0 0 (λ x. x ≡ 0) (λ e. refl) (λ e. refl)

pub code_code : (s n : ℕ) → code s (code s n) ≡ code s n
code_code s n = cond_both (ltb n s) n 0 (λ x. code s x ≡ x) (λ e. cond-true (ltb n s) n 0 e) (λ e. code_zero s)

-- one number more
pub all_codes_more : (s : ℕ) (xs : List ℕ) (i : ℕ) → i < length xs → all_codes s (take (i + 1) xs) ≡ (all_codes s (take i xs) && ltb (get_or xs i 0) s)
unfolding all_codes
all_codes_more s xs i h = ap (all_codes s) (take_more xs i 0 h) ∙ push (take i xs) (get_or xs i 0)
  where
    push : (ys : List ℕ) (y : ℕ) → all_codes s (ys ++ y ∷ []) ≡ (all_codes s ys && ltb y s)
    push [] y = and_true (ltb y s)
    push (x ∷ ys) y = ap (λ b. ltb x s && b) (push ys y) ∙ sym (and_assoc (ltb x s) (all_codes s ys) (ltb y s))

-- the test says that each number is a code
pub all_codes_at : (s : ℕ) (xs : List ℕ) → all_codes s xs ≡ true → (k : ℕ) → k < length xs → get_or xs k 0 < s
unfolding all_codes
all_codes_at s [] e k h = absurd (omega arith)
all_codes_at s (x ∷ xs) e zero h = ltb-true x s (and_left (ltb x s) (all_codes s xs) e)
all_codes_at s (x ∷ xs) e (suc k) h = all_codes_at s xs (and_right (ltb x s) (all_codes s xs) e) k (omega arith)

pub all_codes_from : (s : ℕ) (xs : List ℕ) → ((k : ℕ) → k < length xs → get_or xs k 0 < s) → all_codes s xs ≡ true
unfolding all_codes
all_codes_from s [] h = refl
all_codes_from s (x ∷ xs) h = ap₂ ◌&&◌ (lt-ltb x s (h 0 (omega arith))) (all_codes_from s xs (λ k l. h (suc k) (omega arith)))

same_truth : (a b : Bool) → (a ≡ true → b ≡ true) → (b ≡ true → a ≡ true) → a ≡ b
same_truth true b f g = sym (f refl)
same_truth false true f g = g refl
same_truth false false f g = refl

-- a test that passes exactly where each number is a code
pub all_codes_is : (s : ℕ) (xs : List ℕ) (b : Bool) → (b ≡ true → (k : ℕ) → k < length xs → get_or xs k 0 < s) → (((k : ℕ) → k < length xs → get_or xs k 0 < s) → b ≡ true) → b ≡ all_codes s xs
all_codes_is s xs b f g = same_truth b (all_codes s xs) (λ e. all_codes_from s xs (f e)) (λ e. g (all_codes_at s xs e))

module _ {A : Arithmetic} (L : ArithmeticLaws A) where
  pub read_code : (n : ℕ) → Code A (code A.size n)
  read_code n = let h : 2 ≤ A.size = L.size_least in code_below A.size n (omega arith)

  zero_code : Code A 0
  zero_code = let h : 2 ≤ A.size = L.size_least in omega arith

  one_code : Code A 1
  one_code = let h : 2 ≤ A.size = L.size_least in omega arith

  zero_plus : (a : ℕ) → Code A a → A.plus 0 a ≡ a
  zero_plus a h = L.plus_comm 0 a zero_code h ∙ L.plus_zero a h

  -- x = 0·a is its own double
  zero_product : (a : ℕ) → Code A a → A.times 0 a ≡ 0
  zero_product a h =
      let x : ℕ = A.times a 0 in
      let c : Code A x = L.times_code a 0 h zero_code in
      let twice : A.plus x x ≡ x = sym (L.times_plus a 0 0 h zero_code zero_code) ∙ ap (A.times a) (L.plus_zero 0 zero_code) in
      let self : A.minus x x ≡ 0 = ap (λ y. A.minus y x) (sym (zero_plus x c)) ∙ L.plus_minus 0 x zero_code c in
      L.times_comm 0 a zero_code h ∙ sym (L.plus_minus x x c c) ∙ ap (λ y. A.minus y x) twice ∙ self

  pub coded_plus : (a b : ℕ) → Code A a → Code A b → (coded A).plus a b ≡ A.plus a b
  unfolding coded
  coded_plus a b h k = ap₂ A.plus (code_of _ a h) (code_of _ b k)

  pub coded_minus : (a b : ℕ) → Code A a → Code A b → (coded A).minus a b ≡ A.minus a b
  unfolding coded
  coded_minus a b h k = ap₂ A.minus (code_of _ a h) (code_of _ b k)

  pub coded_times : (a b : ℕ) → Code A a → Code A b → (coded A).times a b ≡ A.times a b
  unfolding coded
  coded_times a b h k = ap₂ A.times (code_of _ a h) (code_of _ b k)

  -- every answer is a code
  pub plus_is_code : (a b : ℕ) → Code A ((coded A).plus a b)
  unfolding coded
  plus_is_code a b = L.plus_code _ _ (read_code a) (read_code b)

  pub minus_is_code : (a b : ℕ) → Code A ((coded A).minus a b)
  unfolding coded
  minus_is_code a b = L.minus_code _ _ (read_code a) (read_code b)

  pub times_is_code : (a b : ℕ) → Code A ((coded A).times a b)
  unfolding coded
  times_is_code a b = L.times_code _ _ (read_code a) (read_code b)

  -- the normal form of a number is the code that it is read as, so the codes are the normal numbers
  pub normal_form : (a : ℕ) → (coded A).plus 0 a ≡ code A.size a
  unfolding coded
  normal_form a = ap₂ A.plus (code_zero A.size) refl ∙ zero_plus _ (read_code a)

  pub code_normal : (a : ℕ) → Code A a → Normal (coded A) a
  unfolding coded
  code_normal a h = normal_form a ∙ code_of _ a h

  pub normal_code : (a : ℕ) → Normal (coded A) a → Code A a
  unfolding coded
  normal_code a e = subst (Code A) e (plus_is_code 0 a)

  pub coded_ring : CommutativeRing (coded A)
  unfolding coded
  coded_ring = record {
    plus_comm = λ a b. L.plus_comm _ _ (read_code a) (read_code b);
    plus_assoc = λ a b c.
        ap₂ A.plus (code_of _ _ (plus_is_code a b)) refl ∙ L.plus_assoc _ _ _ (read_code a) (read_code b) (read_code c)
        ∙ ap (A.plus _) (sym (code_of _ _ (plus_is_code b c)));
    times_comm = λ a b. L.times_comm _ _ (read_code a) (read_code b);
    times_assoc = λ a b c.
        ap₂ A.times (code_of _ _ (times_is_code a b)) refl ∙ L.times_assoc _ _ _ (read_code a) (read_code b) (read_code c)
        ∙ ap (A.times _) (sym (code_of _ _ (times_is_code b c)));
    times_plus = λ a b c.
        ap (A.times _) (code_of _ _ (plus_is_code b c)) ∙ L.times_plus _ _ _ (read_code a) (read_code b) (read_code c)
        ∙ ap₂ A.plus (sym (code_of _ _ (times_is_code a b))) (sym (code_of _ _ (times_is_code a c)));
    zero_times = λ a. ap₂ A.times (code_zero A.size) refl ∙ zero_product _ (read_code a);
    one_times = λ a.
        ap₂ A.times (code_of _ 1 one_code) refl ∙ L.times_comm 1 _ one_code (read_code a) ∙ L.times_one _ (read_code a) ∙ sym (normal_form a);
    minus_plus = λ a b. ap₂ A.plus (code_of _ _ (minus_is_code a b)) refl ∙ L.minus_plus _ _ (read_code a) (read_code b) ∙ sym (normal_form a);
    one_normal = code_normal 1 one_code;
    plus_normal = λ a b. code_normal _ (plus_is_code a b);
    minus_normal = λ a b. code_normal _ (minus_is_code a b);
    times_normal = λ a b. code_normal _ (times_is_code a b);
  }
