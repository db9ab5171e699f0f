use Rattle.views.proofs.Listing.{Listed}
use Rattle.views.proofs.hands.listed.Given as goal

abbrev pub invariant-loop-number : goal.invariant-loop-number
invariant-loop-number g l = Listed g.row.N l.marks l.number l.count l.numbers
