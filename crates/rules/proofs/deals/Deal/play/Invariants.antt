use Rattle.std.proofs.Common.{◌≡◌, ◌++◌, map, take, drop}
use Rattle.rules.specs.Steps.{gathered}
use Rattle.rules.proofs.deals.Deal.play.Given as goal

abbrev pub invariant-loop-pile : goal.invariant-loop-pile
invariant-loop-pile g l = l.pile-items ≡ map (gathered l.by_declarer) (take l.pile-index l.initial.pile-items) ++ drop l.pile-index l.initial.pile-items
