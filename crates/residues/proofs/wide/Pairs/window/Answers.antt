use Rattle.std.proofs.Common.{◌≡◌, ℕ, ◌+◌, ◌-◌, ◌*◌, ◌<◌, ◌≤◌, length, get_or, drop, refl, ap, ◌∙◌, inl, inr, zero-add, arith, lit≤}
use Rattle.std.proofs.lemmas.Bool.{cases_lt}
use Rattle.std.proofs.lemmas.List.{get_or_past}
use Rattle.std.proofs.lemmas.Simd.{get_or-replicate}
use Rattle.residues.specs.Sums.{pair_sum}
use Rattle.residues.proofs.Picks.{by_parity}
use Rattle.residues.proofs.Pairs.{at_most_chunk, pair_bound, pair_end, pair_low, pair_skip, window_step}
use Rattle.residues.proofs.wide.Pairs.window.Given.{Over}
use Rattle.residues.proofs.wide.Pairs.window.Goals as goal
use Rattle.residues.proofs.wide.Pairs.window.Goals.{After-end_pair-m-end, After-pair_products, After-loop-m}

pub loop-m-init : goal.loop-m-init
loop-m-init g c k h =
    let xs = c.args.rows.now in
    let p = c.args.self.now in
    let at : ℕ = 32 * c.args.i in
    let lo : ℕ = c.first_pair-m.result in
    let low : (0 < lo) → length p.b.now + 2 * lo ≤ at + 1 = c.first_pair-m.ensures in
    let most : 2 * lo ≤ length xs = grind (arith, low, c.requires.near) in
    let sum : ℕ = pair_sum (drop (2 * lo) xs) p.numbers.now (190 + (at + k) - 2 * lo) in
    ap (λ n. n + sum) (get_or-replicate {A = ℕ} 32 k 0 0 h)
    ∙ zero-add sum
    ∙ pair_skip g.row.Q lo p.b.now xs p.numbers.now (190 + (at + k)) p.spread (λ y. omega (arith, low y)) most

pub pair_products-requires : goal.pair_products-requires
pair_products-requires g c = record {
  left = at_most_chunk 4590 (2 * (32 * c.args.i) + 4 * (95 - c.loop-m.m)) 64 c.args.self.now.numbers.now 32767 (lit≤ tt) c.args.self.now.small;
  right = λ k. elim (cases_lt k 64) [
    | inl h ↦ by_parity (λ k. get_or c.in_turn.result k 0 ≤ 32767) 32
        (λ l i. omega (arith, c.in_turn.ensures.even l i, c.requires.group.small (2 * c.loop-m.m)))
        (λ l i. omega (arith, c.in_turn.ensures.odd l i, c.requires.group.small (2 * c.loop-m.m + 1)))
        k h
    | inr h ↦ omega (arith, get_or_past c.in_turn.result k 0 (omega arith))
  ];
}

-- one more pair of rows
step : (g : Over) (c : After-pair_products g) (k : ℕ) → k < 32 →
    (get_or c.loop-m.sums k 0 + get_or c.pair_products.result k 0) + pair_sum (drop (2 * (c.loop-m.m + 1)) c.args.rows.now) c.args.self.now.numbers.now (190 + (32 * c.args.i + k) - 2 * (c.loop-m.m + 1))
    ≡ pair_sum c.args.rows.now c.args.self.now.numbers.now (190 + (32 * c.args.i + k))
step g c k h =
    let near : c.loop-m.m < c.end_pair-m-end.result = c.loop-m-test.true in
    window_step c.loop-m.m k (32 * c.args.i) c.args.rows.now c.args.self.now.numbers.now c.loop-m.sums c.pair_products.result c.in_turn.result
    (omega (arith, near, c.end_pair-m-end.ensures.most, c.requires.group.few)) h (omega (arith, near, c.end_pair-m-end.ensures.most)) (c.in_turn.ensures.even k h) (c.in_turn.ensures.odd k h) (c.pair_products.ensures k h)
    (c.loop-m.invariant k h)

pub plus-sums-requires : goal.plus-sums-requires
plus-sums-requires g c k h =
    let p = c.args.self.now in
    omega (arith, step g c k h, pair_bound 21068100 4590 c.args.rows.now p.numbers.now (190 + (32 * c.args.i + k)) c.requires.group.small p.small refl, c.requires.group.few)

pub loop-m-preserved : goal.loop-m-preserved
loop-m-preserved g c k h =
    ap (λ n. n + pair_sum (drop (2 * (c.loop-m.m + 1)) c.args.rows.now) c.args.self.now.numbers.now (190 + (32 * c.args.i + k) - 2 * (c.loop-m.m + 1))) (c.plus-sums.ensures k h)
    ∙ step g (goal.at.loop-m-preserved g c).After-pair_products k h

total : (g : Over) (c : After-loop-m g) (k : ℕ) → k < 32 → get_or c.loop-m.sums k 0 ≡ pair_sum c.args.rows.now c.args.self.now.numbers.now (190 + (32 * c.args.i + k))
total g c k h =
    let xs = c.args.rows.now in
    let p = c.args.self.now in
    let at : ℕ = 32 * c.args.i in
    let lo : ℕ = c.first_pair-m.result in
    let hi : ℕ = c.end_pair-m-end.result in
    let low : (0 < lo) → length p.b.now + 2 * lo ≤ at + 1 = c.first_pair-m.ensures in
    let enough : (2 * hi + 1 < length xs) → at + 32 ≤ 2 * hi = c.end_pair-m-end.ensures.enough in
    let order : lo ≤ hi = grind (arith, low, enough, c.requires.near, c.requires.group.even, c.end_pair-m-end.ensures.most) in
    let e : c.loop-m.m ≡ hi = omega (arith, c.loop-m-test.false, c.loop-m.auto.m-end order) in
    let none : pair_sum (drop (2 * hi) xs) p.numbers.now (190 + (at + k) - 2 * hi) ≡ 0 =
    elim (cases_lt (2 * hi + 1) (length xs)) [
      | inl y ↦ pair_low g.row.Q p.b.now (drop (2 * hi) xs) p.numbers.now (190 + (at + k) - 2 * hi) p.spread (omega (arith, enough y))
      | inr y ↦ pair_end xs p.numbers.now (2 * hi) (190 + (at + k) - 2 * hi) (omega (arith, c.requires.group.even))
    ] in
    omega (arith, c.loop-m.invariant k h, ap (λ m. pair_sum (drop (2 * m) xs) p.numbers.now (190 + (at + k) - 2 * m)) e, none)

pub returns : goal.returns
returns g c = record {
  value = total g c;
  bound = λ k. elim (cases_lt k 32) [
    | inl h ↦ omega (
      arith,
      total g c k h,
      pair_bound 21068100 4590 c.args.rows.now c.args.self.now.numbers.now (190 + (32 * c.args.i + k)) c.requires.group.small c.args.self.now.small refl,
      c.requires.group.few,
    )
    | inr h ↦ omega (arith, get_or_past c.loop-m.sums k 0 (omega (arith, c.loop-m.auto.sums.0)))
  ];
}
