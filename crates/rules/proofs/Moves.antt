-- The third card of a trick moves the deal as its call says, for `play`.
use Rattle.std.proofs.Common.{◌≡◌, ℕ, Bool, List, map, set, sym, ap, ◌∙◌}
use Rattle.cards.specs.declared.deck.Card.{Card}
use Rattle.cards.specs.declared.seats.Seat.{Seat}
use Rattle.cards.specs.Deck.{card_number, card_at}
use Rattle.cards.proofs.Cardinals.{card_back}
use Rattle.kinds.specs.Meanings.{Meaning}
use Rattle.rules.specs.declared.calls.Call.TheVariants.{Play}
use Rattle.rules.specs.declared.deals.Common.{Common}
use Rattle.rules.specs.declared.deals.Deal.{Deal}
use Rattle.rules.specs.declared.deals.Pile.{Pile}
use Rattle.rules.specs.declared.deals.Pile.TheVariants.{InTrick}
use Rattle.rules.specs.declared.deals.Trick.TheVariants.{Two}
use Rattle.rules.specs.Board.{is_declarer, taker_of}
use Rattle.rules.specs.Steps.{fills, plays, next, gathered, laid, moved, step}

module _ (m : Meaning) (deal : Deal) (seat : Seat) (card a b : Card) (on : deal.common.board.trick ≡ Two a b) where
  abbrev before : Common
  before = deal.common

  abbrev number : ℕ
  number = card_number card

  named : card ≡ card_at number
  named = sym (card_back card)

  abbrev laid_to : List Pile
  laid_to = set deal.piles number InTrick

  pub filled : (common : Common) (piles : List Pile) (place : ℕ) → place ≡ number → (taker : Seat) → taker ≡ taker_of m before.board.leader a b card → (ours : Bool) → ours ≡ is_declarer before.contract taker → piles ≡ map (gathered ours) (set deal.piles place InTrick) → common ≡ fills m before taker a b card → ◌≡◌ {A = Deal} (record { common = common; piles = piles; twelve = deal.twelve }) (step m deal seat (Play number))
  unfolding next moved
  filled common piles place at taker takes ours is gathers fill = λ i. record {
    common =
        (fill
        ∙ (ap (λ t. fills m before t a b card) takes
        ∙ (ap (λ k. plays m before seat k (Two a b)) named
        ∙ ap (plays m before seat (card_at number)) (sym on)))) i;
    piles =
        (gathers
        ∙ (ap (λ p. map (gathered ours) (set deal.piles p InTrick)) at
        ∙ (ap (λ o. map (gathered o) laid_to) (is ∙ ap (is_declarer before.contract) (takes ∙ ap (taker_of m before.board.leader a b) named))
        ∙ ap (λ t. laid m before number t deal.piles) (sym on)))) i;
    twelve = deal.twelve;
  }
