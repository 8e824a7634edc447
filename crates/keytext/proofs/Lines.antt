-- Lines of trits and of numbers, as their readers meet them.
use Rattle.std.proofs.Common.{◌≡◌, ℕ, ◌+◌, ◌-◌, ◌<◌, ◌≤◌, ◌≢◌, true, ltb, List, [], ◌∷◌, ◌++◌, map, length, get_or, take, drop, set, decimal, sym, refl, ap, ◌∙◌, subst, ap₂, arith, Some, Result, Ok, Err, MatchResult}
use Rattle.std.specs.Result.{IsErrAnd}
use Rattle.std.specs.List.{flat_map}
use Rattle.std.specs.Str.{all_ascii_digits}
use Rattle.std.proofs.lemmas.List.Elements.{All-from_get_or}
use Rattle.std.proofs.lemmas.List.{append_assoc, length-set, take_more, take_more_set, take-set, take_all, drop_more, map_push, get_or-map, get_or-set_same, flat_map_more}
use Rattle.std.proofs.lemmas.Bool.{and_from, lt-ltb}
use Rattle.field.specs.Meaning.{all_codes}
use Rattle.field.proofs.Codes.{all_codes_more, all_codes_at}
use Rattle.keytext.specs.declared.malformed.Line.{Line}
use Rattle.keytext.specs.declared.malformed.Malformed.{Malformed}
use Rattle.keytext.specs.declared.malformed.Unread.{Unread}
use Rattle.keytext.specs.Cuts.{Lacks, Stops, IsCut}
use Rattle.keytext.specs.Lines.{line_of, digit, spaced, IsTritLine, IsNumberLine}
use Rattle.keytext.proofs.Cutting.{same_cut}
use Rattle.keytext.proofs.Decimals.{digit_within, digits_of_decimal}

-- the rest of a list, as the pattern `[_, rest @ ..]` gives it
pub first_and_rest : (xs : List ℕ) → 1 ≤ length xs → xs ≡ get_or xs 0 0 ∷ take (length xs - 1) (drop 1 xs)
first_and_rest [] some = absurd (omega arith)
first_and_rest (x ∷ xs) some = ap (λ ys. x ∷ ys) (sym (take_all _ xs (omega arith)))

-- what is said of a number that is not read, at its place in a line
pub at_place : {T : Type 0} (l : Line) (N : Type 0) (P : T → Type 0) (r : Result T Unread) (s : Result T Malformed) (calls : Unread → Malformed → Type 0)
    → MatchResult r (λ x. s ≡ Ok x) (λ e. IsErrAnd s (calls e)) → ((e : Unread) (y : Malformed) → calls e y → line_of y ≡ Some l)
    → MatchResult r P (λ _. N) → MatchResult s P (λ y. (line_of y ≡ Some l) × N)
at_place l N P (Ok x) s calls is says h = rw is h
at_place l N P (Err e) (Ok x) calls is says h = absurd is
at_place l N P (Err e) (Err y) calls is says h = (says e y is, h)

-- one code more
pub codes_more : (s : ℕ) (xs : List ℕ) (k x : ℕ) → k < length xs → x < s → all_codes s (take k xs) ≡ true → all_codes s (take (k + 1) (set xs k x)) ≡ true
codes_more s xs k x h small so_far =
    let within : k < length (set xs k x) = omega (arith, length-set xs k x) in
    all_codes_more s (set xs k x) k within
    ∙ and_from _ _ (ap (all_codes s) (take-set xs k x) ∙ so_far) (ap (λ y. ltb y s) (get_or-set_same xs k x 0 h) ∙ lt-ltb x s small)

-- trits: the digits after the space
module _ (letter : ℕ) (text rest xs : List ℕ) (is : IsTritLine letter text xs) (begins : text ≡ letter ∷ rest) where
  trits_rest : rest ≡ 32 ∷ map digit xs
  trits_rest = let e = is.written in cc

  pub trits_digits : (s : ℕ) (digits : List ℕ) → rest ≡ s ∷ digits → digits ≡ map digit xs
  trits_digits s digits e = let f = trits_rest in cc

  -- a digit of no trit
  pub no_trit : (s : ℕ) (digits : List ℕ) (k : ℕ) → rest ≡ s ∷ digits → k < length xs → ((t : ℕ) → t < 3 → get_or digits k 0 ≡ digit t → ⊥) → ⊥
  no_trit s digits k e h none =
      none (get_or xs k 0) (all_codes_at 3 xs is.codes k h) (ap (λ ds. get_or ds k 0) (trits_digits s digits e) ∙ get_or-map digit xs k 0 0 h)

pub trits_more : (digits xs : List ℕ) (k t : ℕ) → k < length digits → k < length xs → get_or digits k 0 ≡ digit t → take k digits ≡ map digit (take k xs) → take (k + 1) digits ≡ map digit (take (k + 1) (set xs k t))
trits_more digits xs k t h i e so_far =
    take_more digits k 0 h ∙ ap₂ (λ ds d. ds ++ d ∷ []) so_far e ∙ sym (map_push digit (take k xs) t) ∙ ap (map digit) (sym (take_more_set xs k t i))

-- numbers: each is cut at the next space
pub joined_stops : (xs : List ℕ) → Stops 32 (flat_map spaced xs)
joined_stops [] = tt
joined_stops (x ∷ xs) = refl

lacks_digits : (c : ℕ) (ds : List ℕ) → c < 48 → all_ascii_digits ds ≡ true → Lacks c ds
lacks_digits c ds l e = All-from_get_or (λ d. d ≢ c) ds 0 (λ i h z. omega (arith, digit_within ds i e h))

pub lacks_decimal : (c x : ℕ) → c < 48 → x < 4591 → Lacks c (decimal x)
lacks_decimal c x l h = lacks_digits c (decimal x) l (digits_of_decimal x h)

pub code_cut : (x : ℕ) (ds u w : List ℕ) → x < 4591 → Lacks 32 ds → Stops 32 u → Stops 32 w → ds ++ u ≡ decimal x ++ w → (ds ≡ decimal x) × (u ≡ w)
code_cut x ds u w h l su sw e = same_cut 32 ds (decimal x) u w l (lacks_decimal 32 x (omega arith) h) su sw e

-- a text that begins with a space
pub after_space : (text rest : List ℕ) (s : ℕ) → Stops 32 text → text ≡ s ∷ rest → text ≡ 32 ∷ rest
after_space text rest s stops begins = begins ∙ ap (λ x. x ∷ rest) (subst (Stops 32) begins stops)

-- and goes on with what is the decimal of no code
pub no_code : (text codes front back : List ℕ) → text ≡ 32 ∷ codes → IsCut 32 codes front back → ((x : ℕ) → x < 4591 → front ≡ decimal x → ⊥) → (x : ℕ) (u : List ℕ) → x < 4591 → Stops 32 u → text ≡ 32 ∷ (decimal x ++ u) → ⊥
no_code text codes front back begins cut none x u small stop e =
    let tails : front ++ back ≡ decimal x ++ u = cc in
    none x small (code_cut x front back u small cut.lacks cut.stops stop tails).0

-- what is left of a line of numbers, before its number k
module _ (letter : ℕ) (text rest xs : List ℕ) (k : ℕ) (is : IsNumberLine letter text xs) (left : rest ≡ flat_map spaced (drop k xs)) (within : k < length xs) where
  pub number_small : get_or xs k 0 < 4591
  number_small = all_codes_at 4591 xs is.codes k within

  pub number_next : rest ≡ 32 ∷ (decimal (get_or xs k 0) ++ flat_map spaced (drop (k + 1) xs))
  number_next = left ∙ ap (flat_map spaced) (drop_more xs k 0 within)

  pub number_after : (x : ℕ) (after : List ℕ) → x < 4591 → Stops 32 after → rest ≡ 32 ∷ (decimal x ++ after) → after ≡ flat_map spaced (drop (k + 1) xs)
  number_after x after h s e =
      let f = number_next in
      let tails : decimal x ++ after ≡ decimal (get_or xs k 0) ++ flat_map spaced (drop (k + 1) xs) = cc in
      (code_cut (get_or xs k 0) (decimal x) after _ number_small (lacks_decimal 32 x (omega arith) h) s (joined_stops (drop (k + 1) xs)) tails).1

pub numbers_more : (text rest after xs : List ℕ) (letter k x : ℕ) → k < length xs → text ≡ letter ∷ (flat_map spaced (take k xs) ++ rest) → rest ≡ 32 ∷ (decimal x ++ after) → text ≡ letter ∷ (flat_map spaced (take (k + 1) (set xs k x)) ++ after)
numbers_more text rest after xs letter k x h so_far e =
    let front : List ℕ = flat_map spaced (take k xs) in
    let more : front ++ spaced x ≡ flat_map spaced (take (k + 1) (set xs k x)) = flat_map_more spaced [] (take k xs) x ∙ ap (flat_map spaced) (sym (take_more_set xs k x h)) in
    so_far ∙ ap (λ t. letter ∷ (front ++ t)) e ∙ ap (λ t. letter ∷ t) (sym (append_assoc front (spaced x) after)) ∙ ap (λ t. letter ∷ (t ++ after)) more
