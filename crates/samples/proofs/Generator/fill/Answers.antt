use Rattle.std.proofs.Common.{◌<◌, rules}
use Rattle.std.specs.List.{All}
use Rattle.std.proofs.lemmas.Fn.{chained_keeps}
use Rattle.std.proofs.lemmas.List.Elements.{All-nil, All-push}
use Rattle.samples.proofs.Generator.fill.Goals as goal

pub returns : goal.returns
returns g c =
    let ran = c.fill_with.ensures.ran in
    chained_keeps _ (λ xs _. All (λ x. x < g.F.Field.arithmetic.size) xs)
    (λ xs q x v so_far called. All-push (λ x. x < g.F.Field.arithmetic.size) xs x so_far (search rules))
    c.fill_with.new.self _ ran.0 (All-nil (λ x. x < g.F.Field.arithmetic.size)) ran.1
