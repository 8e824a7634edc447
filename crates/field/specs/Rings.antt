-- Commutative rings over any carrier: the operations, and the laws that they keep.
-- Main definitions: `Operations`, `CommutativeRing`, `Normal`.
use Rattle.std.specs.Prelude.{◌≡◌}

pub record Operations (C : Type 0) : Type 0 where
  pub zero : C
  pub one : C
  pub plus : C → C → C
  pub minus : C → C → C
  pub times : C → C → C

-- The laws hold for every value of the carrier, though some values may stand for the same element: `plus zero a` is the normal form of a.
-- So no law has a premise. The codes of a field are such a ring on all numbers, where a number that is no code has the normal form 0;
-- in the integers each value is normal; and the polynomials over a ring are one on all lists.
pub record CommutativeRing {C : Type 0} (O : Operations C) : Type 0 where
  pub plus_comm : (a b : C) → O.plus a b ≡ O.plus b a
  pub plus_assoc : (a b c : C) → O.plus (O.plus a b) c ≡ O.plus a (O.plus b c)
  pub times_comm : (a b : C) → O.times a b ≡ O.times b a
  pub times_assoc : (a b c : C) → O.times (O.times a b) c ≡ O.times a (O.times b c)
  pub times_plus : (a b c : C) → O.times a (O.plus b c) ≡ O.plus (O.times a b) (O.times a c)
  pub zero_times : (a : C) → O.times O.zero a ≡ O.zero
  pub one_times : (a : C) → O.times O.one a ≡ O.plus O.zero a
  pub minus_plus : (a b : C) → O.plus (O.minus a b) b ≡ O.plus O.zero a
  pub one_normal : O.plus O.zero O.one ≡ O.one
  pub plus_normal : (a b : C) → O.plus O.zero (O.plus a b) ≡ O.plus a b
  pub minus_normal : (a b : C) → O.plus O.zero (O.minus a b) ≡ O.minus a b
  pub times_normal : (a b : C) → O.plus O.zero (O.times a b) ≡ O.times a b

abbrev pub Normal : {C : Type 0} → Operations C → C → Type 0
Normal O a = O.plus O.zero a ≡ a
