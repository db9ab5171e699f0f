use Rattle.cards.proofs.Numbering.{Noted}
use Rattle.cards.proofs.cutting.named_cards.Given as goal

abbrev pub invariant-loop-i : goal.invariant-loop-i
invariant-loop-i l = Noted l.numbers l.i l.cards l.seen
