use Rattle.std.proofs.Common.{◌≡◌, ℕ, List, ◌%◌, ◌≤◌, length, get_or, take, replicate, sym, ap, ◌∙◌, rules, arith}
use Rattle.std.proofs.lemmas.List.{get_or-take, length-take-le}
use Rattle.field.specs.Meaning.{code}
use Rattle.field.proofs.Tables.{tabulate_is, replicate_at}
use Rattle.residues.specs.ResiduesLemmas.{residues_lawful}
use Rattle.residues.specs.declared.wide.TheConstants.{ROWS, SUMS, NUMBERS}
use Rattle.residues.specs.Sums.{nat_coef, AllZero}
use Rattle.residues.proofs.Coefficients.{coef_natural}
use Rattle.residues.proofs.Groups.{front_codes, front_coef}
use Rattle.residues.proofs.wide.product.Goals as goal
use Rattle.residues.proofs.wide.product.Goals.{After-evened}
use Rattle.residues.proofs.wide.product.Given.{Over}

pub new-pairs-requires : goal.new-pairs-requires
new-pairs-requires g c = let zeros : AllZero (replicate NUMBERS 0) = replicate_at NUMBERS 0 in search rules

pub codes-requires-clause-zeros : goal.codes-requires-clause-zeros
codes-requires-clause-zeros g c = replicate_at {C = ℕ} ROWS 0

few : (g : Over) (c : After-evened g) → c.evened.result ≤ length c.codes.new.rows
few g c = omega (arith, c.evened.ensures.most, c.codes.auto.rows)

pub add_groups-requires : goal.add_groups-requires
add_groups-requires g c =
    let q : ℕ = g.row.Q in
    let m : ℕ = c.evened.result in
    let rows : List ℕ = c.codes.new.rows in
    let fits : m ≤ length rows = few g (goal.at.add_groups-requires g c).After-evened in
    let long : length (take m rows) ≡ m = length-take-le m rows fits in
    let most : length (take m rows) ≤ ROWS = omega (arith, long, fits, c.codes.auto.rows) in
    let even : length (take m rows) % 2 ≡ 0 = ap (λ z. z % 2) long ∙ c.evened.ensures.even in
    let codes : (k : ℕ) → code q (get_or (take m rows) k 0) ≡ get_or (take m rows) k 0 =
    front_codes q m rows c.args.a.now c.codes.ensures c.evened.ensures.enough fits in
    let zeros : AllZero (replicate SUMS 0) = replicate_at SUMS 0 in
    search rules

pub returns : goal.returns
returns g c =
    let q = g.row.Q in
    let xs = c.args.a.now in
    let ys = c.args.b.now in
    let n = length c.args.out.now in
    let m = c.evened.result in
    let rows = c.codes.new.rows in
    tabulate_is n _ c.copy_from_slice.new.self 0 c.copy_from_slice.ensures.len
    (λ k h.
    ap (λ z. get_or z k 0) c.copy_from_slice.ensures.after
    ∙ get_or-take n c.add_groups.new.sums k 0 h
    ∙ c.add_groups.ensures k
    ∙ ap (λ z. nat_coef q (take m rows) z k % q) c.new-pairs.ensures
    ∙ ap (λ z. z % q) (front_coef q m rows xs c.codes.ensures c.evened.ensures.enough (few g (goal.at.returns g c).After-evened) ys k)
    ∙ sym (coef_natural q (residues_lawful q (search rules) (search rules)) xs ys k))
