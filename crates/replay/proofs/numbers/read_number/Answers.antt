use Rattle.std.proofs.Common.{ℕ, List, length, arith}
use Rattle.std.proofs.lemmas.Grind.{common_steps}
use Rattle.std.proofs.lemmas.Str.{IsUtf8-from_ascii}
use Rattle.std.proofs.lemmas.Str.Ascii.{IsAscii-from_reads}
use Rattle.std.proofs.lemmas.Str.Parse.{digit_at}
use Rattle.std.specs.Str.{IsUtf8}
use Rattle.std.specs.Str.Parse.{IsNumeral}
use Rattle.replay.proofs.numbers.read_number.Goals as goal

-- a numeral is ASCII
IsUtf8-from_numeral : (word : List ℕ) → IsNumeral 10 word → IsUtf8 word
IsUtf8-from_numeral word numeral = IsUtf8-from_ascii word (IsAscii-from_reads word (length word) (omega arith) (λ k h. omega (arith, digit_at word k numeral.1 h)))

pub returns-in_err-ok : goal.returns-in_err-ok
returns-in_err-ok c = rw c.from_residual.ensures (λ numeral. let text = IsUtf8-from_numeral c.args.word.now numeral in grind (arith, common_steps))
