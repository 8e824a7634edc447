use Rattle.std.proofs.Common.{rules, ◌∙◌}
use Rattle.keytext.specs.Agreement.{lift, triple}
use Rattle.keytext.proofs.Agreement.{mapped, ring_asked}
use Rattle.keytext.proofs.confirm.confirm_h.Goals as goal

pub returns : goal.returns
returns c =
    let triples = mapped triple _ (λ x y called. search rules) c.args.f.now c.map_to.new.out c.map_to.ensures in
    let lifts = mapped lift _ (λ x y called. search rules) c.args.g.now c.map_to-2.new.out c.map_to-2.ensures in
    let asked = ring_asked c.args.p c.args.g.now c.args.f.now c.args.h.now c.in_ok-degree.ensures.refused_as_asked in
    record {
      refused_as_asked = (rw (triples, c.in_ok-degree.ensures.degree) at c.compare.ensures.refused_as_asked) ∙ asked;
      counts = rw (triples, lifts, c.in_ok-degree.ensures.degree) at c.compare.ensures.counts;
      all_is_equal = rw (triples, lifts, c.in_ok-degree.ensures.degree) at c.compare.ensures.all_is_equal;
    }
