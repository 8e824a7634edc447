use Rattle.std.proofs.Common.{◌≡◌, ◌&&◌, sym, refl, ◌∙◌, rules, tests}
use Rattle.std.specs.Char.{is_ascii_digit}
use Rattle.std.specs.List.{list_all}
use Rattle.std.specs.Str.{all_ascii_digits}
use Rattle.std.proofs.lemmas.Iterator.{YieldsList-from_slice}
use Rattle.std.proofs.lemmas.Iterator.Search.{all_from_yields_List}
use Rattle.std.proofs.lemmas.List.Recursion.{same_from_clauses}
use Rattle.keytext.proofs.number.is_decimal.Goals as goal

pub returns-in_default : goal.returns-in_default
returns-in_default c =
    let xs = c.args.digits.now in
    let by_all = all_from_yields_List is_ascii_digit _ _ c.all.result c.all.ensures.ran (YieldsList-from_slice xs cc) (λ x b q k. search (rules, tests)) in
    let by_spec = same_from_clauses all_ascii_digits (list_all is_ascii_digit) (λ x b. is_ascii_digit x && b) refl (λ _ _. refl) (λ _ _. refl) xs in
    let all : c.all.result ≡ all_ascii_digits xs = by_all ∙ sym by_spec in
    search rules
