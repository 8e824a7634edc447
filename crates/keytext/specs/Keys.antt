-- The text of a key.
-- Main definitions: `key_text`, `IsKey`.
use Rattle.std.specs.Prelude.{◌≡◌, ℕ, ◌<◌, true, ◌⊎◌, List, [], ◌∷◌, ◌++◌, length}
use Rattle.field.specs.Meaning.{all_codes}
use Rattle.keytext.specs.Lines.{trit_line, number_line}

-- the lines g, f, v and h, with a newline between each two
abbrev pub key_text : List ℕ → List ℕ → List ℕ → List ℕ → List ℕ
key_text g f v h = trit_line 103 g ++ 10 ∷ (trit_line 102 f ++ 10 ∷ (trit_line 118 v ++ 10 ∷ number_line 104 h))

-- the text is t, with a newline at its end or without
abbrev pub Ended : List ℕ → List ℕ → Type 0
Ended t text = (text ≡ t) ⊎ (text ≡ t ++ 10 ∷ [])

-- the text is that of these codes
pub record IsKey (text g f v h : List ℕ) : Type 0 where
  pub g_codes : all_codes 3 g ≡ true
  pub f_codes : all_codes 3 f ≡ true
  pub v_codes : all_codes 3 v ≡ true
  pub h_codes : all_codes 4591 h ≡ true
  pub written : Ended (key_text g f v h) text

-- the text is that of no four lists of codes with these lengths
abbrev pub NoKey : ℕ → ℕ → ℕ → ℕ → List ℕ → Type 0
NoKey ng nf nv nh text = (g f v h : List ℕ) → length g ≡ ng → length f ≡ nf → length v ≡ nv → length h ≡ nh → IsKey text g f v h → ⊥

-- the text begins with the line of the trits xs and a newline, and u follows
pub record TritsThen (letter : ℕ) (text xs u : List ℕ) : Type 0 where
  pub codes : all_codes 3 xs ≡ true
  pub written : text ≡ trit_line letter xs ++ 10 ∷ u

-- what reading such a line of n trits out of a text leaves: the trits, and what follows, in the one way there is
pub record TritsRead (letter n : ℕ) (text out rest : List ℕ) : Type 0 where
  pub reads : 0 < length rest → TritsThen letter text out rest
  pub only : (xs u : List ℕ) → length xs ≡ n → TritsThen letter text xs u → u ≡ rest

abbrev pub NoTrits : ℕ → ℕ → List ℕ → Type 0
NoTrits letter n text = (xs u : List ℕ) → length xs ≡ n → TritsThen letter text xs u → ⊥

-- the text is the line h of these codes, and at most a newline
pub record IsLast (text xs : List ℕ) : Type 0 where
  pub codes : all_codes 4591 xs ≡ true
  pub written : Ended (number_line 104 xs) text
