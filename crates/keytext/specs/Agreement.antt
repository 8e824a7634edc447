-- How far the lists of a key agree with one another.
-- Main definitions: `lifted`, `tripled`, `agreeing`, `EqualAtAll`; `lists_asked`.
use Rattle.std.specs.Prelude.{◌≡◌, ℕ, ◌*◌, ◌%◌, cond, ◌&&◌, List, [], ◌∷◌, map, length, Option, ◌==◌, count_by}
use Rattle.std.specs.List.{zip}
use Rattle.refusal.specs.declared.Refusal.{Refusal}
use Rattle.refusal.specs.declared.Refusal.TheVariants.{Length, NotACode}
use Rattle.refusal.specs.Questions.{asked}
use Rattle.field.specs.Meaning.{all_codes}
use Rattle.ring.specs.Asked.{degree_asked}

-- a trit as a code of Z_4591: 2 stands for -1
abbrev pub lift : ℕ → ℕ
lift t = cond (t == 2) 4590 t

abbrev pub lifted : List ℕ → List ℕ
lifted xs = map lift xs

-- three times the trits, as codes of Z_4591
abbrev pub triple : ℕ → ℕ
triple t = 3 * lift t % 4591

abbrev pub tripled : List ℕ → List ℕ
tripled xs = map triple xs

-- at how many places two lists hold the same number
abbrev pub agreeing : List ℕ → List ℕ → ℕ
agreeing xs ys = count_by (λ p. p.0 == p.1) (zip xs ys)

-- a count n of all p places says that the lists are equal
abbrev pub EqualAtAll : ℕ → List ℕ → List ℕ → ℕ → Type 0
EqualAtAll p xs ys n = n ≡ p → xs ≡ ys

-- the questions of a call on g, f and h, in the order in which the ring asks
abbrev pub lists_asked : ℕ → List ℕ → List ℕ → List ℕ → List (Option Refusal)
lists_asked p g f h =
    degree_asked p
    ∷ asked Length (length g == p && length f == p && length h == p)
    ∷ asked (NotACode 0) (all_codes 3 g && all_codes 3 f && all_codes 4591 h)
    ∷ []
