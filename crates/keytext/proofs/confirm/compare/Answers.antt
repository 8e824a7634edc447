use Rattle.std.proofs.Common.{sym, ◌∙◌, rules}
use Rattle.field.specs.Meaning.{coded}
use Rattle.ring.proofs.Polynomials.{length_product}
use Rattle.keytext.proofs.Agreement.{full_agreement}
use Rattle.keytext.proofs.confirm.compare.Goals as goal

pub returns-clause-all_is_equal : goal.returns-clause-all_is_equal
returns-clause-all_is_equal g c all =
    let long = length_product (coded g.F.Field.arithmetic) c.args.p c.args.a.now c.args.b.now in
    full_agreement _ c.args.expected.now (long ∙ sym c.requires) (search rules ∙ all ∙ sym long)
