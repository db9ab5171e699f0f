use Rattle.std.proofs.Common.{◌≡◌, vec_items, string_bytes}
use Rattle.std.specs.List.{range_with_len, flat_map}
use Rattle.series.specs.Rows.{places_number}
use Rattle.ranking.specs.Reports.{place_text}
use Rattle.ranking.proofs.reports.lines.Given as goal

abbrev pub invariant-loop-place : goal.invariant-loop-place
invariant-loop-place l = string_bytes l.text ≡ flat_map (place_text (places_number l.list.sheet.places) (vec_items l.list.sheet.rows)) (range_with_len 0 l.place-counter)
