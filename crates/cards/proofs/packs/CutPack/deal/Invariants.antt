use Rattle.cards.proofs.Handing.{Sent}
use Rattle.cards.proofs.packs.CutPack.deal.Given as goal

abbrev pub invariant-loop-position : goal.invariant-loop-position
invariant-loop-position l = Sent l.card-items l.position l.dealt
