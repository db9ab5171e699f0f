-- Ten worked examples, as one list.
use Rattle.std.specs.Prelude.{◌≡◌, ℕ, ◌-◌, Bool, true, false, List, [], ◌∷◌, ℤ, pos, neg_ℤ, refl}
use Rattle.cards.specs.declared.deck.Card.{Card}
use Rattle.cards.specs.declared.deck.Place.TheVariants.{Seven, King, Jack}
use Rattle.cards.specs.declared.deck.Suit as suits
use Rattle.cards.specs.declared.deck.Suit.TheVariants.{Diamonds, Hearts, Clubs}
use Rattle.cards.specs.First.{IsFirst}
use Rattle.kinds.specs.Games.{grand_meaning, null_meaning}
use Rattle.kinds.specs.Meanings.{Meaning}
use Rattle.kinds.specs.Tricks.{beats}
use Rattle.worth.specs.declared.announced.Game.{Game}
use Rattle.worth.specs.declared.announced.Game.TheVariants.{Suit, Grand}
use Rattle.worth.specs.declared.bids.Bid.{Bid}
use Rattle.worth.specs.declared.finished.Finished.{Finished}
use Rattle.worth.specs.declared.levels.Level.{Level}
use Rattle.worth.specs.declared.levels.Level.TheVariants.{Plain, Schneider, Ouvert}
use Rattle.worth.specs.Announced.{game_counts}
use Rattle.worth.specs.BidValues.{is_bid}
use Rattle.worth.specs.Tops.{card_of}

-- A game with so many tops, how it ended, and what it counts; or a trick, the first card led, and which of its cards takes it.
pub data Example : Type 0 where
  counts : Game → ℕ → Finished → ℤ → Example
  takes : Meaning → Card → List Card → ℕ → Example

abbrev pub Holds : Example → Type 0
Holds (counts game tops finished points) = game_counts game tops finished ≡ points
Holds (takes meaning led trick i) = IsFirst (beats meaning led) trick i

abbrev pub AllHold : List Example → Type 0
AllHold [] = Unit {0}
AllHold (example ∷ examples) = Holds example × AllHold examples

-- A suit game.
abbrev pub suit_game : suits.Suit → Game
suit_game trump = Suit (record { trump = trump })

-- A game in which both sides took tricks: whether by hand, its level, the bid, and the declarer's eyes.
abbrev pub ended : Bool → Level → Bid → ℕ → Finished
ended hand level bid eyes = record {
  hand = hand;
  level = level;
  bid = bid;
  declarer = record { eyes = record { 0 = eyes }; tricks = record { 0 = 5 } };
  defenders = record { eyes = record { 0 = 120 - eyes }; tricks = record { 0 = 5 } };
}

-- A game in which the declarer took all tricks, by hand and ouvert.
abbrev pub all_tricks : Bid → Finished
all_tricks bid = record {
  hand = true;
  level = Ouvert;
  bid = bid;
  declarer = record { eyes = record { 0 = 120 }; tricks = record { 0 = 10 } };
  defenders = record { eyes = record { 0 = 0 }; tricks = record { 0 = 0 } };
}

abbrev pub bid_of : (value : ℕ) → is_bid value ≡ true → Bid
bid_of value is = record { value = value; valued = is }

-- The seven, the king and the jack of diamonds.
abbrev pub diamond_trick : List Card
diamond_trick = card_of Diamonds Seven ∷ (card_of Diamonds King ∷ (card_of Diamonds Jack ∷ []))

abbrev pub examples : List Example
examples =
    counts (suit_game Hearts) 3 (ended false Plain (bid_of 45 refl) 70) (neg_ℤ (pos 100))
    ∷ (counts (suit_game Hearts) 1 (ended false Plain (bid_of 35 refl) 28) (neg_ℤ (pos 80))
    ∷ (counts (suit_game Diamonds) 1 (ended false Plain (bid_of 18 refl) 61) (pos 18)
    ∷ (counts (suit_game Diamonds) 1 (ended false Plain (bid_of 18 refl) 60) (neg_ℤ (pos 36))
    ∷ (counts (suit_game Diamonds) 1 (ended false Plain (bid_of 18 refl) 30) (neg_ℤ (pos 54))
    ∷ (counts (suit_game Clubs) 2 (ended true Schneider (bid_of 18 refl) 90) (pos 72)
    ∷ (counts (suit_game Clubs) 2 (ended true Schneider (bid_of 18 refl) 89) (neg_ℤ (pos 144))
    ∷ (counts (Grand (record {})) 4 (all_tricks (bid_of 264 refl)) (pos 264)
    ∷ (counts (suit_game Diamonds) 1 (ended false Plain (bid_of 264 refl) 61) (neg_ℤ (pos 540))
    ∷ (takes null_meaning (card_of Diamonds Seven) diamond_trick 1
    ∷ (takes grand_meaning (card_of Diamonds Seven) diamond_trick 2
    ∷ []))))))))))
