-- A deal newly set from a cut pack.
use Rattle.std.specs.Prelude.{◌≡◌, ℕ, suc, cond, List, [], ◌∷◌, map, length, None, ◌==◌}
use Rattle.cards.specs.declared.dealing.Dealt.{Dealt}
use Rattle.cards.specs.declared.dealing.Dealt.TheVariants.{Hand, Skat}
use Rattle.cards.specs.declared.deck.Card.{Card}
use Rattle.cards.specs.declared.seats.Seat.TheVariants.{Middlehand}
use Rattle.cards.specs.Deck.{card_number}
use Rattle.cards.specs.Dealing.{receiver}
use Rattle.cards.specs.Packs.{times}
use Rattle.rules.specs.declared.deals.Common.{Common}
use Rattle.rules.specs.declared.deals.Contract.TheVariants.{Undecided}
use Rattle.rules.specs.declared.deals.Deal.{Deal}
use Rattle.rules.specs.declared.deals.Pair.TheVariants.{MiddlehandToForehand}
use Rattle.rules.specs.declared.deals.Pile.{Pile}
use Rattle.rules.specs.declared.deals.Pile.TheVariants.{InHand, InSkat}
use Rattle.rules.specs.declared.moments.Moment.TheVariants.{Bidding}
use Rattle.rules.specs.Bidding.{fresh_board}
use Rattle.rules.specs.Piles.{deck}

-- A cut pack: 32 cards, each card once.
abbrev pub IsCutPack : List Card → Type 0
IsCutPack pack = (length pack ≡ 32) × ((card : Card) → times (card_number card) (map card_number pack) ≡ 1)

-- How many cards lie above a card.
abbrev pub position_of : Card → List Card → ℕ
position_of card [] = 0
position_of card (top ∷ rest) = cond (card_number card == card_number top) 0 (suc (position_of card rest))

abbrev pub pile_for : Dealt → Pile
pile_for (Hand seat) = InHand seat
pile_for Skat = InSkat

-- A card is dealt where its position in the pack sends it.
abbrev pub dealt_to : List Card → Card → Pile
dealt_to pack card = pile_for (receiver (position_of card pack))

-- Middlehand first bids to forehand.
abbrev pub opening : Common
opening = record { moment = Bidding; turn = Middlehand; pair = MiddlehandToForehand; bid = 0; contract = Undecided; board = fresh_board }

unfoldable pub start : List Card → Deal
start pack = record { common = opening; piles = map (dealt_to pack) deck; twelve = None }
