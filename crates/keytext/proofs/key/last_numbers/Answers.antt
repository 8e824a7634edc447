use Rattle.std.proofs.Common.{arith}
use Rattle.std.proofs.lemmas.Result.{MatchResult-from_err}
use Rattle.keytext.proofs.Keys.{last_none, last_trailing}
use Rattle.keytext.proofs.key.last_numbers.Goals as goal

pub returns-in_err-read_numbers : goal.returns-in_err-read_numbers
returns-in_err-read_numbers c =
    MatchResult-from_err _ _ _ c.from_residual-in_err-read_numbers.ensures.0
    (λ _. last_none c.args.text.now _ _ c.in_ok-front.ensures _ c.in_err-read_numbers.ensures.1)

pub returns-in_default : goal.returns-in_default
returns-in_default c = last_trailing c.args.text.now _ _ c.in_ok-front.ensures _ (omega arith)
