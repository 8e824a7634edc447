use Rattle.std.proofs.Common.{◌≡◌, ℕ, List, ◌+◌, ◌-◌, ◌*◌, ◌%◌, ◌<◌, ◌≤◌, ◌++◌, length, get_or, take, drop, min, sym, ap, ◌∙◌, rules, arith}
use Rattle.std.proofs.lemmas.List.{places, length-drop}
use Rattle.std.proofs.lemmas.Simd.{get_or-chunk, length-chunk}
use Rattle.std.specs.Iterator.Adapters.{enumerate_source, enumerate_count}
use Rattle.std.specs.Slice.Iter.{chunks_rest}
use lib.Lanes.{chunk}
use borrow.Rule.Slice.PartMut.{put_mid}
use Rattle.residues.specs.declared.wide.TheConstants.{GROUP}
use Rattle.residues.specs.Sums.{nat_coef, pair_sum}
use Rattle.residues.proofs.Groups.{chunk_taken, chunk_rest, group_step}
use Rattle.residues.proofs.wide.Pairs.add_groups.Goals as goal

pub loop-i-preserved : goal.loop-i-preserved
loop-i-preserved g c =
    let q : ℕ = g.row.Q in
    let rows : List ℕ = c.args.rows.now in
    let ys : List ℕ = c.args.self.now.b.now in
    let bs : List ℕ = c.args.self.now.numbers.now in
    let part : List ℕ = c.in-Some.group.now in
    let left : List ℕ = chunks_rest (enumerate_source c.next.new.self) in
    let start : ℕ = GROUP * c.in-Some.i in
    let room : ℕ = 32 * c.windows.result in
    let old : List ℕ = c.loop-i.sums in
    let new : List ℕ = put_mid start (start + room - start) old c.add_rows.new.out in
    -- the group is cut off the front of what was left of the rows
    let turn = c.in-Some.ensures.steps in
    let count : c.in-Some.i ≡ enumerate_count c.loop-i.i-iterator = turn.1 in
    let was : chunks_rest (enumerate_source c.loop-i.i-iterator) ≡ drop start rows = c.loop-i.invariant.rest ∙ ap (λ z. drop (GROUP * z) rows) (sym count) in
    let cut : drop start rows ≡ part ++ left = sym was ∙ turn.0.1.0 in
    let long : length part ≡ min GROUP (length (drop start rows)) =
    turn.0.1.1 ∙ ap (λ z. min z (length (chunks_rest (enumerate_source c.loop-i.i-iterator)))) c.loop-i.invariant.size ∙ ap (λ z. min GROUP (length z)) was in
    let begins : start < length rows = omega (arith, turn.0.1.2, ap length was, length-drop start rows) in
    -- its windows are the part of the sums from there on
    let fits : start + room ≤ length old = omega (arith, long, begins, length-drop start rows, c.windows.ensures.most, c.requires.most, c.args.self.now.short, c.requires.room) in
    let parts : length (chunk start (start + room - start) old) ≡ room = length-chunk start (start + room - start) old (omega arith) ∙ omega arith in
    let within : (j : ℕ) → j < room → get_or new (start + j) 0 ≡ (get_or old (start + j) 0 + pair_sum part bs (190 + j)) % q =
    λ j h. let put : get_or new (start + j) 0 ≡ get_or c.add_rows.new.out j 0 = search (rules, places) in
    put ∙ c.add_rows.ensures j (omega (arith, parts)) ∙ ap (λ z. (z + pair_sum part bs (190 + j)) % q) (get_or-chunk start (start + room - start) old j 0 (omega arith)) in
    let below : (j : ℕ) → j < start → get_or new j 0 ≡ get_or old j 0 = λ j h. search (rules, places) in
    let above : (j : ℕ) → start + room ≤ j → get_or new j 0 ≡ get_or old j 0 = λ j h. search (rules, places) in
    let before : (k : ℕ) → get_or old k 0 ≡ nat_coef q (take start rows) ys k % q =
    λ k. c.loop-i.invariant.sums k ∙ ap (λ z. nat_coef q (take (GROUP * z) rows) ys k % q) (sym count) in
    let even : length part % 2 ≡ 0 = omega (arith, long, length-drop start rows, c.requires.even) in
    let more : c.in-Some.i + 1 ≡ enumerate_count c.next.new.self = omega arith in record {
      size = turn.0.0 ∙ c.loop-i.invariant.size;
      rest = chunk_rest GROUP c.in-Some.i rows part left cut long ∙ ap (λ z. drop (GROUP * z) rows) more;
      sums = λ k.
          group_step q rows c.requires.codes start part left cut (omega arith) c.windows.result ys bs old new even c.args.self.now.spread c.windows.ensures.enough within below above before k
          ∙ ap (λ z. nat_coef q z ys k % q) (chunk_taken GROUP c.in-Some.i rows part left cut long ∙ ap (λ z. take (GROUP * z) rows) more);
    }
