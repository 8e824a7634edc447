use Rattle.std.proofs.Common.{List, [], ◌∷◌, ◌++◌, take, sym, refl, ap, ◌∙◌, arith}
use Rattle.std.proofs.lemmas.List.{take_all, take_more}
use Rattle.script.specs.declared.scripts.Call.{Call}
use Rattle.script.proofs.Performances.{started, again}
use Rattle.script.proofs.replays.perform_all.Goals as goal

pub loop-call-init : goal.loop-call-init
loop-call-init g c = record { performed = started _ _ _ _ _ c.requires.just_opened c.new-answers.ensures.items; degree = refl; capacity = refl }

pub loop-call-preserved : goal.loop-call-preserved
loop-call-preserved g c =
    let inv = c.loop-call.invariant in
    let did = c.perform-next.ensures in
    let script : List Call = c.args.script.now in
    let i = c.loop-call.call-index in
    let cut = take_more script i c.call-item.result (omega arith) ∙ ap (λ (x : Call). take i script ++ x ∷ []) (sym c.call-item.is) in
    record {
      performed = again _ _ _ _ _ script i _ _ _ _ _ _ _ _ cut inv.degree inv.capacity c.loop-call.auto.sheet inv.performed did c.in_default.ensures;
      degree = did.degree ∙ inv.degree;
      capacity = did.capacity ∙ inv.capacity;
    }

pub returns-clause-performed : goal.returns-clause-performed
returns-clause-performed g c = rw (take_all _ _ c.loop-call-test.false) at c.loop-call.invariant.performed
