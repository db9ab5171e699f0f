use Rattle.std.proofs.Common.{map, ap, ◌∙◌}
use Rattle.cards.specs.Deck.{card_number}
use Rattle.cards.specs.Packs.{times}
use Rattle.cards.proofs.Tallies.{times_cut}
use Rattle.cards.proofs.packs.UncutPack.cut.Goals as goal

pub invariant_of-result : goal.invariant_of-result
invariant_of-result c = record {
  once = λ card.
      ap (λ cards. times (card_number card) (map card_number cards)) c.rotate_left.ensures.after
      ∙ (times_cut card_number (card_number card) _ c.args.self.cards ∙ c.args.self.once card);
}
