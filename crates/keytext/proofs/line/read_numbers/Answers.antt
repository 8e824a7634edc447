use Rattle.std.proofs.Common.{◌≡◌, ◌<◌, length, get_or, drop, refl, ◌∙◌, arith, rules, length-set}
use Rattle.std.specs.List.{flat_map}
use Rattle.std.proofs.lemmas.Result.{err_from_is_err_and, MatchResult-at_ok, MatchResult-at_err}
use Rattle.field.specs.Meaning.{all_codes}
use Rattle.keytext.specs.Lines.{spaced}
use Rattle.keytext.proofs.Lines.{at_place, codes_more, joined_stops, number_small, number_next, number_after, numbers_more}
use Rattle.keytext.proofs.line.read_numbers.Goals as goal

pub returns-in_err-rest : goal.returns-in_err-rest
returns-in_err-rest c =
    let p = err_from_is_err_and c.from_residual.result c.from_residual.ensures.1 in
    rw (p.1, p.2) (c.in_err-rest.ensures.0, λ xs long is. c.in_err-rest.ensures.1 (flat_map spaced xs) (joined_stops xs) is.written)

pub loop-k-init : goal.loop-k-init
unfolding all_codes
loop-k-init c =
    (c.in_ok-rest.ensures.1, refl, c.in_ok-rest.ensures.0, λ xs long is. let e = c.in_ok-rest.ensures.0 in let f = is.written in cc)

pub returns-in_err-x : goal.returns-in_err-x
returns-in_err-x c =
    let one = at_place c.args.line _ _ c.next_code.result c.map_err.result _ c.map_err.ensures.cases (λ e y called. search rules) c.next_code.ensures in
    let none = MatchResult-at_err _ _ _ c.in_err-x.was one in
    let p = err_from_is_err_and c.from_residual-in_err-x.result c.from_residual-in_err-x.ensures.1 in
    rw (p.1, p.2) (
      none.0,
      λ xs long is.
          let text = c.args.text.now in
          let rest = c.loop-k.rest.now in
          let left : rest ≡ flat_map spaced (drop c.loop-k.k-counter xs) = c.loop-k.invariant.3 xs (omega arith) is in
          let within : c.loop-k.k-counter < length xs = omega arith in
          none.1 (get_or xs c.loop-k.k-counter 0) _
          (number_small _ text rest xs c.loop-k.k-counter is left within)
          (joined_stops _)
          (number_next _ text rest xs c.loop-k.k-counter is left within),
    )

pub loop-k-preserved : goal.loop-k-preserved
loop-k-preserved c =
    let one = at_place c.args.line _ _ c.next_code.result c.map_err.result _ c.map_err.ensures.cases (λ e y called. search rules) c.next_code.ensures in
    let next = MatchResult-at_ok _ _ _ c.in_ok-x.was one in
    let code = c.in_ok-x.field-0-0 in (
      next.2,
      codes_more 4591 c.loop-k.out c.loop-k.k-counter code (omega arith) next.0 c.loop-k.invariant.1,
      numbers_more c.args.text.now c.loop-k.rest.now c.in_ok-x.field-0-1.now c.loop-k.out _ c.loop-k.k-counter code (omega arith) c.loop-k.invariant.2 next.1,
      λ xs long is.
          let same = long ∙ length-set c.loop-k.out c.loop-k.k-counter code in
          number_after _ c.args.text.now c.loop-k.rest.now xs c.loop-k.k-counter is (c.loop-k.invariant.3 xs same is) (omega arith) code _ next.0 next.2 next.1,
    )
