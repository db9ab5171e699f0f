use Rattle.std.proofs.Common.{◌≡◌, map, vec_items}
use Rattle.std.specs.List.{range_with_len}
use Rattle.series.specs.Rows.{places_number}
use Rattle.ranking.specs.Reports.{entry_for}
use Rattle.ranking.proofs.places.entries.Given as goal

abbrev pub invariant-loop-place : goal.invariant-loop-place
invariant-loop-place l =
    l.entries.items ≡ map (entry_for (places_number l.list.sheet.places) (vec_items l.list.sheet.rows)) (range_with_len 0 l.place)
