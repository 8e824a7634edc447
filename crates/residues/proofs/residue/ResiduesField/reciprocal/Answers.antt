use Rattle.std.proofs.Common.{◌≡◌, ℕ, ◌≤◌, ◌<◌, Some, not, sym, ap, ◌∙◌, inl, inr, rules, arith}
use Rattle.std.proofs.lemmas.Bool.{cases_eq, eq-eqb, ne_eqb}
use Rattle.std.specs.Bool.{then_some}
use Rattle.field.specs.Meaning.{code}
use Rattle.field.proofs.Codes.{code_below}
use Rattle.residues.specs.Residues.{reciprocal_mod}
use Rattle.residues.specs.Reciprocals.{reciprocal_zero, table_entry}
use Rattle.residues.proofs.residue.ResiduesField.reciprocal.Goals as goal

pub returns : goal.returns
returns g c =
    let q : ℕ = g.row.Q in
    let k : ℕ = c.read-place.result in
    let least : 2 ≤ q = search rules in
    let is : k ≡ code q c.args.a = c.read-place.ensures in
    let below : k < q = omega (arith, is, code_below q c.args.a (omega (arith, least))) in
    c.then_some.ensures
    ∙ elim (cases_eq k 0) [
      | inl e ↦ ap (λ b. then_some (not b) c.scan.result) (eq-eqb k 0 e) ∙ sym (ap (reciprocal_mod q) (sym is ∙ e) ∙ reciprocal_zero q least)
      | inr ne ↦
          ap (λ b. then_some (not b) c.scan.result) (ne_eqb k 0 ne)
          ∙ ap Some c.scan.ensures
          ∙ sym (table_entry q least c.reciprocals.result.now c.reciprocals.ensures k below ne)
          ∙ ap (reciprocal_mod q) is
    ]
