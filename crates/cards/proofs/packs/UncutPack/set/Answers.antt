use Rattle.std.proofs.Common.{ap, ◌∙◌}
use Rattle.cards.specs.Deck.{card_number}
use Rattle.cards.specs.Packs.{times}
use Rattle.cards.proofs.packs.UncutPack.set.Goals as goal

pub invariant_of-result-clause-once : goal.invariant_of-result-clause-once
invariant_of-result-clause-once c =
    let named = c.in-Ok.ensures in
    λ card. ap (times (card_number card)) named.1 ∙ named.2 card
