use Rattle.series.proofs.Raws.{FrontRead}
use Rattle.series.proofs.reading.read_rows.Given as goal

abbrev pub invariant-loop-bytes : goal.invariant-loop-bytes
invariant-loop-bytes l = FrontRead l.rows_bytes l.bytes-index l.rows.items
