-- The residues modulo any q keep the laws of a commutative ring.
-- It is in specs/, since an implementation of a trait cannot cite the proofs of its own crate.
-- Main result: `residues_lawful`.
use Rattle.std.specs.Prelude.{◌≡◌, ℕ, ◌+◌, ◌-◌, ◌*◌, ◌/◌, ◌%◌, ◌<◌, ◌≤◌}
use Rattle.std.proofs.Common.{sym, ap, ◌∙◌, add-zero, mul-one, add_comm, add_assoc, mul_comm, mul_assoc, mul-add, add-mul, mod-lt, mod-eq_of_lt, arith}
use Rattle.std.proofs.Math.Nat.{mod-add-mod, add-mod-mod, add-mod_right, add-mul-mod_self_left, mod-add-div}
use Rattle.field.specs.Meaning.{ArithmeticLaws}
use Rattle.residues.specs.Residues.{residues}

-- a factor may be reduced
pub mod_mul_mod : (a b q : ℕ) → (a % q * b) % q ≡ (a * b) % q
mod_mul_mod a b q =
    sym
    (ap (λ x. (x * b) % q) (sym (mod-add-div a q))
    ∙ ap (λ x. x % q) (add-mul (a % q) (q * (a / q)) b ∙ ap (λ x. a % q * b + x) (mul_assoc q (a / q) b))
    ∙ add-mul-mod_self_left (a % q * b) q (a / q * b))

pub mul_mod_mod : (a b q : ℕ) → (a * (b % q)) % q ≡ (a * b) % q
mul_mod_mod a b q = ap (λ x. x % q) (mul_comm a (b % q)) ∙ mod_mul_mod b a q ∙ ap (λ x. x % q) (mul_comm b a)

-- q more is no more
round : (q a x y : ℕ) → a < q → x + y ≡ q → ((a + x) % q + y) % q ≡ a
round q a x y h e =
    mod-add-mod (a + x) q y ∙ ap (λ z. z % q) (add_assoc a x y ∙ ap (λ z. a + z) e) ∙ add-mod_right a q ∙ mod-eq_of_lt h

pub residues_lawful : (q : ℕ) → 2 ≤ q → q ≤ 16384 → ArithmeticLaws (residues q)
residues_lawful q least most = record {
  size_least = least;
  size_most = most;
  plus_code = λ a b h k. mod-lt _ (omega arith);
  minus_code = λ a b h k. mod-lt _ (omega arith);
  times_code = λ a b h k. mod-lt _ (omega arith);
  plus_comm = λ a b h k. ap (λ x. x % q) (add_comm a b);
  plus_assoc = λ a b c h k l. mod-add-mod (a + b) q c ∙ ap (λ x. x % q) (add_assoc a b c) ∙ sym (add-mod-mod a (b + c) q);
  times_comm = λ a b h k. ap (λ x. x % q) (mul_comm a b);
  times_assoc = λ a b c h k l. mod_mul_mod (a * b) c q ∙ ap (λ x. x % q) (mul_assoc a b c) ∙ sym (mul_mod_mod a (b * c) q);
  times_plus = λ a b c h k l.
      mul_mod_mod a (b + c) q ∙ ap (λ x. x % q) (mul-add a b c) ∙ sym (mod-add-mod (a * b) q (a * c % q) ∙ add-mod-mod (a * b) (a * c) q);
  plus_zero = λ a h. ap (λ x. x % q) (add-zero a) ∙ mod-eq_of_lt h;
  times_one = λ a h. ap (λ x. x % q) (mul-one a) ∙ mod-eq_of_lt h;
  plus_minus = λ a b h k. round q a b (q - b) h (omega arith);
  minus_plus = λ a b h k. round q a (q - b) b h (omega arith);
}
