use Rattle.std.proofs.Common.{ap, ◌∙◌, arith}
use Rattle.series.specs.Rows.{are_rows}
use Rattle.series.proofs.Counting.{row_at, counted-more}
use Rattle.series.proofs.lists.Sheet.tally.Goals as goal

pub invariant_of-with_row : goal.invariant_of-with_row
invariant_of-with_row c =
    let sheet = c.args.self.now in
    let items = c.deref-row-items.ensures in
    record {
      early = omega (arith, items.len, sheet.few, c.loop-i-test.true);
      valid = row_at _ _ _ (ap are_rows items.value ∙ sheet.valid) c.loop-i-test.true;
    }

pub loop-i-preserved : goal.loop-i-preserved
loop-i-preserved c =
    let after = c.with_row-tally.ensures in
    counted-more _ _ _ _ _ _ _ c.loop-i.invariant c.loop-i-test.true after.points after.won after.lost after.defended after.low after.high
