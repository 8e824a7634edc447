use Rattle.std.proofs.Common.{◌∷◌, map, refl, arith, rules}
use Rattle.std.proofs.lemmas.Result.{err_from_is_err_and, MatchResult-at_ok, MatchResult-at_err}
use Rattle.field.specs.Meaning.{all_codes}
use Rattle.keytext.specs.Lines.{digit}
use Rattle.keytext.proofs.Lines.{first_and_rest, at_place, codes_more, no_trit, trits_more}
use Rattle.keytext.proofs.line.read_trits.Goals as goal

pub returns-in_err-after_letter : goal.returns-in_err-after_letter
returns-in_err-after_letter c =
    let p = err_from_is_err_and c.from_residual.result c.from_residual.ensures.1 in
    rw (p.1, p.2) (c.in_err-after_letter.ensures.0, λ xs long is. c.in_err-after_letter.ensures.1 (32 ∷ map digit xs) refl is.written)

pub loop-k-init : goal.loop-k-init
unfolding all_codes
loop-k-init c = (refl, refl)

pub returns-in_err-x : goal.returns-in_err-x
returns-in_err-x c =
    let one = at_place c.args.line _ _ c.read_trit.result c.map_err.result _ c.map_err.ensures.cases (λ e y called. search rules) c.read_trit.ensures in
    let none = MatchResult-at_err _ _ _ c.in_err-x.was one in
    let p = err_from_is_err_and c.from_residual-in_err-x.result c.from_residual-in_err-x.ensures.1 in
    let rest = c.in_ok-after_letter.field-0.now in
    rw (p.1, p.2) (
      none.0,
      λ xs long is. no_trit _ c.args.text.now rest xs is c.in_ok-after_letter.ensures.0 _ _ c.loop-k.k-counter (first_and_rest rest c.in-len1-up.len_at_least) (omega arith) none.1,
    )

pub loop-k-preserved : goal.loop-k-preserved
loop-k-preserved c =
    let one = at_place c.args.line _ _ c.read_trit.result c.map_err.result _ c.map_err.ensures.cases (λ e y called. search rules) c.read_trit.ensures in
    let trit = MatchResult-at_ok _ _ _ c.in_ok-x.was one in (
      codes_more 3 c.loop-k.out c.loop-k.k-counter c.in_ok-x.field-0 (omega arith) trit.0 c.loop-k.invariant.0,
      trits_more _ c.loop-k.out c.loop-k.k-counter c.in_ok-x.field-0 (omega arith) (omega arith) trit.1 c.loop-k.invariant.1,
    )
