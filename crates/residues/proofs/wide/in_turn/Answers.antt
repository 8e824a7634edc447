use Rattle.residues.proofs.Picks.{turn_even, turn_odd}
use Rattle.residues.proofs.wide.in_turn.Goals as goal

pub returns : goal.returns
returns c = record {
  even = λ l h. turn_even c.args.first c.args.second 32 l h;
  odd = λ l h. turn_odd c.args.first c.args.second 32 l h;
}
