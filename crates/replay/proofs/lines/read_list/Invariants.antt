use Rattle.std.proofs.Common.{◌≡◌, map, take, vec_items}
use Rattle.std.specs.Str.Parse.{digits_value}
use Rattle.replay.proofs.lines.read_list.Given as goal

abbrev pub invariant-loop-word : goal.invariant-loop-word
invariant-loop-word l = vec_items l.list ≡ map (λ word. digits_value 10 word.now) (take l.word-index l.words)
