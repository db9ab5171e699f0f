use Rattle.std.proofs.Common.{ap, ◌∙◌}
use Rattle.series.specs.Rows.{are_rows}
use Rattle.series.proofs.Counting.{row_at}
use Rattle.series.proofs.lists.Sheet.write_rows.Goals as goal

pub row_bytes-requires : goal.row_bytes-requires
row_bytes-requires c = row_at _ _ _ (ap are_rows c.deref-row-items.ensures.value ∙ c.args.self.now.valid) c.loop-i-test.true
