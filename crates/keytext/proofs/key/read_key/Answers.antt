use Rattle.std.proofs.lemmas.Result.{MatchResult-weaker}
use Rattle.keytext.proofs.Keys.{no_h, key_read}
use Rattle.keytext.proofs.key.read_key.Goals as goal

pub returns : goal.returns
returns c =
    MatchResult-weaker c.last_numbers.result c.last_numbers.ensures
    (λ _ last. key_read _ _ _ 0 c.args.text.now _ _ c.in_ok-below_g.ensures _ _ c.in_ok-below_f.ensures _ _ c.in_ok-below_v.ensures _ last)
    (λ _ none. no_h _ _ _ _ c.args.text.now _ _ c.in_ok-below_g.ensures _ _ c.in_ok-below_f.ensures _ _ c.in_ok-below_v.ensures none)
