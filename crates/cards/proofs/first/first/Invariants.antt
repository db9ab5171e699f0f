use Rattle.cards.proofs.Scan.{Best}
use Rattle.cards.proofs.first.first.Given as goal

abbrev pub invariant-loop-i : goal.invariant-loop-i
invariant-loop-i g l = Best (g.O.Order.ahead l.order) l.items l.i l.best
