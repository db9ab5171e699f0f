use Rattle.std.proofs.Common.{◌≡◌, ◌*◌, ◌++◌, take, drop}
use Rattle.std.specs.List.{flat_map}
use Rattle.series.specs.Format.{row_bytes}
use Rattle.series.proofs.lists.Sheet.write_rows.Given as goal

abbrev pub invariant-loop-i : goal.invariant-loop-i
invariant-loop-i l = l.buffer ≡ flat_map row_bytes (take l.i l.row-items) ++ drop (4 * l.i) l.initial.buffer
