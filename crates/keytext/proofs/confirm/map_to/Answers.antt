use Rattle.std.proofs.Common.{◌<◌, length, arith}
use Rattle.std.proofs.lemmas.List.{take_more, take_more_set}
use Rattle.std.proofs.lemmas.Slice.Zip.{all_zipped_more}
use Rattle.keytext.proofs.confirm.map_to.Goals as goal

pub loop-k-preserved : goal.loop-k-preserved
loop-k-preserved g c =
    let in_a : c.loop-k.k < length c.args.a.now = omega arith in
    let in_out : c.loop-k.k < length c.loop-k.out = omega arith in
    rw (take_more c.args.a.now c.loop-k.k 0 in_a, take_more_set c.loop-k.out c.loop-k.k c.change.result in_out)
    (all_zipped_more _ _ _ _ _ c.loop-k.invariant c.change.ensures)
