use Rattle.std.proofs.Common.{length, ap, ◌∙◌, arith}
use Rattle.views.proofs.Listing.{marked_more, marked_all}
use Rattle.views.proofs.hands.count_marked.Goals as goal

pub overflow_add-count : goal.overflow_add-count
overflow_add-count c =
    let more = marked_more c.args.marks.now c.loop-mark.mark-index c.told-marks c.loop-mark-test.true in
    omega (arith, more, c.from-count.ensures)

pub loop-mark-preserved : goal.loop-mark-preserved
loop-mark-preserved c =
    let more = marked_more c.args.marks.now c.loop-mark.mark-index c.told-marks c.loop-mark-test.true in
    (omega (arith, more, c.from-count.ensures), omega (arith, more, c.from-count.ensures))

pub returns : goal.returns
returns c = c.loop-mark.invariant.1 ∙ ap length (marked_all c.args.marks.now c.loop-mark.mark-index (omega (arith, c.told-marks)))
