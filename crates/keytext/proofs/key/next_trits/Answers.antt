use Rattle.std.proofs.Common.{[], ◌∷◌}
use Rattle.std.proofs.lemmas.Bool.Decides.{Decides-eqb}
use Rattle.std.proofs.lemmas.Result.{MatchResult-from_err}
use Rattle.std.proofs.lemmas.Slice.Eq.{strip_prefix_is}
use Rattle.keytext.proofs.Keys.{past_newline, trits_read, trits_none}
use Rattle.keytext.proofs.key.next_trits.Goals as goal

pub returns-in_err-read_trits : goal.returns-in_err-read_trits
returns-in_err-read_trits c =
    MatchResult-from_err _ _ _ c.from_residual-in_err-read_trits.ensures.0
    (λ _. trits_none c.args.text.now _ _ c.in_ok-front.ensures c.args.line _ c.in_err-read_trits.ensures.1)

pub returns : goal.returns
returns c =
    let cut = c.in_ok-front.ensures in
    let stripped = strip_prefix_is Decides-eqb c.in_ok-front.back.now (10 ∷ []) c.strip_prefix.result c.strip_prefix.ensures.cases in
    let below = past_newline c.in_ok-front.back c.strip_prefix.result cut.stops stripped in
    rw c.unwrap_or.ensures (trits_read c.args.text.now _ _ cut c.args.line _ c.read_trits.new.out _ c.in_ok-read_trits.ensures below)
