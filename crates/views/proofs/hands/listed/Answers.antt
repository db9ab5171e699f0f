use Rattle.std.proofs.Common.{◌∙◌, arith}
use Rattle.views.proofs.Listing.{listed_yes, listed_full, listed_no}
use Rattle.views.proofs.hands.listed.Goals as goal
use Rattle.views.proofs.hands.listed.Goals.{then-mark+then-count, else-mark, else-mark-via-then-mark+else-count, else-mark-via-else-mark}

pub loop-number-preserved : goal.loop-number-preserved
loop-number-preserved g c =
    let marks = c.args.marks.now in
    let i = c.loop-number.number in
    let count = c.loop-number.count in
    let numbers = c.loop-number.numbers in
    let sofar = c.loop-number.invariant in
    elim c.if-mark.branch [
      | then-mark+then-count w ↦
          let more = listed_yes g.row.N marks i count numbers (omega (arith, c.told-marks)) sofar w.if-mark.true w.if-count.true in
          (w.count-is ∙ more.0, w.numbers-is ∙ more.1)
      | else-mark w ↦ elim w.else-mark.branch [
        | else-mark-via-then-mark+else-count v ↦
            let more = listed_full g.row.N marks i count numbers (omega (arith, c.told-marks)) sofar v.if-mark.true v.if-count.false in
            (w.count-is ∙ more.0, w.numbers-is ∙ more.1)
        | else-mark-via-else-mark v ↦
            let more = listed_no g.row.N marks i count numbers (omega (arith, c.told-marks)) sofar v.if-mark.false in
            (w.count-is ∙ more.0, w.numbers-is ∙ more.1)
      ]
    ]
