-- A text is cut in one way at the first byte of a kind.
-- Main result: `same_cut`.
use Rattle.std.proofs.Common.{◌≡◌, ℕ, ◌≢◌, List, [], ◌∷◌, ◌++◌, sym, refl, subst}
use Rattle.std.proofs.lemmas.List.Elements.{All-head, All-tail}
use Rattle.keytext.specs.Cuts.{Lacks, Stops}

-- two fronts without the byte c, each before the end or a byte c, are one
pub same_cut : (c : ℕ) (a b u w : List ℕ) → Lacks c a → Lacks c b → Stops c u → Stops c w → a ++ u ≡ b ++ w → (a ≡ b) × (u ≡ w)
same_cut c [] [] u w la lb su sw e = (refl, e)
same_cut c [] (y ∷ b) u w la lb su sw e = absurd (All-head (λ z. z ≢ c) y b lb (subst (Stops c) e su))
same_cut c (x ∷ a) [] u w la lb su sw e = absurd (All-head (λ z. z ≢ c) x a la (subst (Stops c) (sym e) sw))
same_cut c (x ∷ a) (y ∷ b) u w la lb su sw e =
    let tails : a ++ u ≡ b ++ w = cc in
    let rest = same_cut c a b u w (All-tail (λ z. z ≢ c) x a la) (All-tail (λ z. z ≢ c) y b lb) su sw tails in
    let fronts : a ≡ b = rest.0 in
    let heads : x ≡ y = cc in
    (cc, rest.1)
