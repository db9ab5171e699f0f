use Rattle.std.proofs.Common.{eqb, ◌∙◌, rules, tests}
use Rattle.std.proofs.lemmas.Iterator.{YieldsList-from_slice}
use Rattle.std.proofs.lemmas.Iterator.Search.{any_from_yields_List}
use Rattle.cards.specs.declared.deck.Card.{Card}
use Rattle.cards.specs.Deck.{card_number}
use Rattle.worth.proofs.Fronts.{among_same}
use Rattle.worth.proofs.tops.is_among.Goals as goal

pub returns : goal.returns
returns c =
    any_from_yields_List (λ (other : Card). eqb (card_number other) (card_number c.args.card)) _ _ _ c.any.ensures.ran
    (YieldsList-from_slice c.args.cards.now c.iter.ensures.rest) (λ x b q k. search (rules, tests))
    ∙ among_same c.args.cards.now c.args.card
