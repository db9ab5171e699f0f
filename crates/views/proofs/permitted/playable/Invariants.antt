use Rattle.rules.specs.Piles.{holding}
use Rattle.views.specs.Permitted.{is_playable}
use Rattle.views.proofs.Permitting.{Gathered}
use Rattle.views.proofs.permitted.playable.Given as goal

abbrev pub invariant-loop-number : goal.invariant-loop-number
invariant-loop-number g l = Gathered (is_playable (g.K.Kind.meaning l.kind) (holding l.seat l.piles) l.fn.class) l.number l.bits
