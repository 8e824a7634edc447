use Rattle.std.proofs.Common.{◌∙◌}
use Rattle.std.proofs.lemmas.List.{with_items_is}
use Rattle.traylaw.specs.Calculus.{calculus}
use Rattle.script.proofs.Turns.{drew}
use Rattle.script.proofs.perform.draw.Goals as goal

pub returns : goal.returns
returns g c =
    let did = c.draw-answer.ensures in
    record {
      turn =
          drew (calculus g.F.Field.arithmetic g.F.Field.recip c.args.tray.p) _ _ _ _ _ _ _ _ _ _ _ _ _ _ (c.deref_mut.ensures.value ∙ c.in-Ok.ensures.0) (c.deref_mut-2.ensures.len ∙ c.in-Ok.ensures.1)
          c.outcome_of-outcome.ensures did.refused_as_asked (with_items_is c.in-Ok.lists.0 c.draw-answer.new.out (c.draw-answer.auto.out ∙ c.deref_mut.ensures.len) ∙ did.out_is_quotient)
          did.degree_stays did.capacity_stays did.entry_removed did.sheet_drawn c.draw-answer.auto.sheet;
      degree = did.degree_stays;
      capacity = did.capacity_stays;
    }
