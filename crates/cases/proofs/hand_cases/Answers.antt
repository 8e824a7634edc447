-- Each row is computed.
use Rattle.std.proofs.Common.{rules}
use Rattle.field.specs.Meaning.{coded, all_codes}
use Rattle.field.specs.Convolution.{tabulate}
use Rattle.residues.specs.Residues.{last_below}
use Rattle.ring.specs.Polynomials.{horner, truncated, zeros, unit, sum, scaled, times_x, product}
use Rattle.divstep.specs.ReadOff.{divided, inverse_of}
use Rattle.divstep.specs.Steps.{step, steps}
use Rattle.traylaw.specs.Sheets.{shelf, shelved}
use Rattle.traylaw.specs.Effects.{product as product_of, coded_denominators, first_uninvertible, with_products, product_before, coded_before, put_before}
use Rattle.cases.proofs.hand_cases.Goals as goal

pub returns : goal.returns
unfolding coded all_codes tabulate last_below horner truncated zeros unit sum scaled times_x product divided inverse_of step steps shelf shelved product_of coded_denominators first_uninvertible with_products product_before coded_before put_before
returns c = search rules
