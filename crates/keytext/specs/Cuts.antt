-- Texts that are cut at the first byte of a kind.
use Rattle.std.specs.Prelude.{◌≡◌, ℕ, List, [], ◌∷◌, ◌++◌, ◌≢◌, All}

-- the byte c is nowhere in the text
abbrev pub Lacks : ℕ → List ℕ → Type 0
Lacks c xs = All (λ x. x ≢ c) xs

-- the text is empty or begins with the byte c
abbrev pub Stops : ℕ → List ℕ → Type 0
Stops c [] = Unit {0}
Stops c (x ∷ xs) = x ≡ c

-- the text is cut before its first byte c, or at its end where there is none
pub record IsCut (c : ℕ) (text front back : List ℕ) : Type 0 where
  pub whole : text ≡ front ++ back
  pub lacks : Lacks c front
  pub stops : Stops c back
