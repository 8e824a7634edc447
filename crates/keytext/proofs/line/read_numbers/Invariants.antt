use Rattle.std.proofs.Common.{◌≡◌, ℕ, true, List, ◌∷◌, ◌++◌, length, take, drop}
use Rattle.std.specs.List.{flat_map}
use Rattle.field.specs.Meaning.{all_codes}
use Rattle.keytext.specs.Cuts.{Stops}
use Rattle.keytext.specs.Lines.{letter_of, spaced, IsNumberLine}
use Rattle.keytext.proofs.line.read_numbers.Given as goal

abbrev pub invariant-loop-k : goal.invariant-loop-k
invariant-loop-k l =
    Stops 32 l.rest
    × (all_codes 4591 (take l.k-counter l.out) ≡ true)
    × (l.text ≡ letter_of l.line ∷ (flat_map spaced (take l.k-counter l.out) ++ l.rest))
    × ((xs : List ℕ) → length xs ≡ length l.out → IsNumberLine (letter_of l.line) l.text xs → l.rest ≡ flat_map spaced (drop l.k-counter xs))
