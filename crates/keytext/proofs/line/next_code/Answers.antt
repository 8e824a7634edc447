use Rattle.std.proofs.lemmas.Option.{MatchOption-at_some}
use Rattle.std.proofs.lemmas.Result.{MatchResult-from_err}
use Rattle.keytext.proofs.Lines.{after_space, no_code}
use Rattle.keytext.proofs.line.next_code.Goals as goal

pub returns-in_err-read_code : goal.returns-in_err-read_code
returns-in_err-read_code c =
    let begins = MatchOption-at_some _ _ _ c.in_ok-codes.ensures.ok_part c.split_first.ensures.cases in
    let text = after_space c.args.text.now c.in_ok-codes.codes.now _ c.requires begins.0 in
    MatchResult-from_err _ _ _ c.from_residual-in_err-read_code.ensures.0
    (λ _. no_code c.args.text.now c.in_ok-codes.codes.now _ _ text c.cut.ensures c.in_err-read_code.ensures)
