use Rattle.std.proofs.Common.{◌≡◌, ◌-◌, ◌++◌, length, map, replicate}
use Rattle.cards.specs.Deck.{card_at}
use Rattle.rules.proofs.announcing.twelve_cards.Given as goal

abbrev pub invariant-loop-place : goal.invariant-loop-place
invariant-loop-place l = l.twelve ≡ map (λ item. item.1.1.now) l.yielded ++ replicate (12 - length l.yielded) (card_at 0)
