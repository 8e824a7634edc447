use Rattle.std.proofs.Common.{ℕ, ◌+◌, length, ap, ◌∙◌, arith, below_more}
use Rattle.std.proofs.lemmas.List.{get_or-set_same, get_or-set_other}
use Rattle.field.specs.Meaning.{coded}
use Rattle.field.specs.Convolution.{at}
use Rattle.field.proofs.Codes.{coded_ring}
use Rattle.field.proofs.Tables.{tabulate_is}
use Rattle.ring.specs.Polynomials.{fold}
use Rattle.ring.proofs.Polynomials.{fold_at_carried}
use Rattle.ring.proofs.multiplication.fold.Goals as goal

pub loop-k-preserved : goal.loop-k-preserved
unfolding coded
loop-k-preserved g c =
    let O = coded g.F.Field.arithmetic in
    let p : ℕ = length c.args.out.now in
    let k : ℕ = c.loop-k.k in
    record {
      folded =
          below_more _ _
          (λ j h. get_or-set_other c.loop-k.out k j _ 0 (omega arith) ∙ c.loop-k.invariant.folded j h)
          (get_or-set_same c.loop-k.out k _ 0 (omega arith)
          ∙ c.folded.ensures
          ∙ fold_at_carried (coded_ring g.met.F.Field.lawful) p (at O c.args.plain.now) k c.loop-k.carried c.loop-k.invariant.first c.loop-k.invariant.later);
      first = λ e. absurd (omega (arith, e));
      later = λ i e. ap (λ n. at O c.args.plain.now (p + n)) (omega (arith, e));
    }

pub returns : goal.returns
unfolding fold coded
returns g c = tabulate_is _ _ c.loop-k.out 0 c.loop-k.auto.out (λ k h. c.loop-k.invariant.folded k (omega arith))
