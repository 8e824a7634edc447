use Rattle.std.proofs.Common.{◌≡◌, ℕ, List, ◌+◌, ◌*◌, ◌%◌, ◌^◌, ◌++◌, get_or, map, ap, ap₂, ◌∙◌, arith, lit<, mod-eq_of_lt}
use Rattle.std.proofs.lemmas.Simd.{get_or-zip2}
use Rattle.residues.proofs.Picks.{pick_own, by_two}
use Rattle.residues.proofs.wide.neighbour_sums.Goals as goal

pub returns : goal.returns
returns c l h =
    let x : List ℕ = c.args.x in
    let evens : List ℕ = map (λ k. get_or (x ++ x) k 0) (by_two 0 32) in
    let odds : List ℕ = map (λ k. get_or (x ++ x) k 0) (by_two 1 32) in
    let even : get_or evens l 0 ≡ get_or x (2 * l) 0 = pick_own x 0 l h (lit< tt) c.fits-x.0 ∙ ap (λ k. get_or x k 0) (omega arith) in
    let odd : get_or odds l 0 ≡ get_or x (2 * l + 1) 0 = pick_own x 1 l h (lit< tt) c.fits-x.0 ∙ ap (λ k. get_or x k 0) (omega arith) in
    get_or-zip2 (λ a b. (a + b) % 2 ^ 32) evens odds l 0 0 0 h h ∙ ap₂ (λ a b. (a + b) % 2 ^ 32) even odd ∙ mod-eq_of_lt (c.requires l h)
