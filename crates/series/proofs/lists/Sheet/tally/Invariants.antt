use Rattle.series.specs.Rows.{places_number}
use Rattle.series.proofs.Counting.{Counted}
use Rattle.series.proofs.lists.Sheet.tally.Given as goal

abbrev pub invariant-loop-i : goal.invariant-loop-i
invariant-loop-i l = Counted (places_number l.places) l.place l.row-items l.i l.tally
