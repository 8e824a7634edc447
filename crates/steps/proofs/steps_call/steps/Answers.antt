use Rattle.std.proofs.Common.{rules, ◌≡◌, ℕ, ◌+◌, sym, ◌∙◌, arith}
use Rattle.field.specs.Meaning.{coded}
use Rattle.field.proofs.Codes.{coded_ring}
use Rattle.divstep.specs.Steps.{after, not_zero}
use Rattle.divstep.proofs.Beginnings.{zeros_are, one_is}
use Rattle.divstep.proofs.Divided.{tested_pair, run_is}
use Rattle.steps.specs.Held.{state_in}
use Rattle.steps.proofs.steps_call.steps.Goals as goal

pub returns-clause-after_n_steps : goal.returns-clause-after_n_steps
returns-clause-after_n_steps g c =
    let A = g.F.Field.arithmetic in
    let laws = g.met.F.Field.lawful in
    let n : ℕ = c.args.n in
    let f = c.args.f.now in
    let g' = c.args.g.now in
    let may = c.in_ok-ask_steps.ensures.allowed in
    let made : state_in c.run.new.self ≡ after (coded A) not_zero n c.args.delta f g' = c.run.ensures.state
    ∙ run_is (coded_ring laws) not_zero n c.args.delta f g' (tested_pair laws f g' (sym may.long) may.codes_f may.codes_g) _ _ _ _ _ (search rules)
    (c.set_one.ensures ∙ one_is A (n + 1) _ (omega (arith, may.long_u)))
    (c.fill.ensures.after (λ y e. e) ∙ zeros_are A (n + 1) _ may.long_v)
    (c.fill-2.ensures.after (λ y e. e) ∙ zeros_are A (n + 1) _ may.long_q)
    (c.set_one-2.ensures ∙ one_is A (n + 1) _ (omega (arith, may.long_r))) in
    search rules ∙ made
