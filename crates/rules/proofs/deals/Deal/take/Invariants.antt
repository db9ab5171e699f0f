use Rattle.std.proofs.Common.{◌≡◌, ◌++◌, map, take, drop}
use Rattle.rules.specs.Steps.{lifted}
use Rattle.rules.proofs.deals.Deal.take.Given as goal

abbrev pub invariant-loop-pile : goal.invariant-loop-pile
invariant-loop-pile l = l.pile-items ≡ map (lifted l.seat) (take l.pile-index l.initial.pile-items) ++ drop l.pile-index l.initial.pile-items
