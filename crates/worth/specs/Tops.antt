-- Tops: the trumps from the club jack down that a declarer has, or lacks, without a break.
use Rattle.std.specs.Prelude.{ℕ, Bool, true, false, ◌||◌, List, [], ◌∷◌, ◌++◌, map, ◌==◌}
use Rattle.std.specs.List.{prefix_len}
use Rattle.cards.specs.declared.deck.Card.{Card}
use Rattle.cards.specs.declared.deck.Place.{Place}
use Rattle.cards.specs.declared.deck.Place.TheVariants.{Jack}
use Rattle.cards.specs.declared.deck.Suit.{Suit}
use Rattle.cards.specs.Deck.{card_number}
use Rattle.kinds.specs.Games.{jacks_down, plain_down}

abbrev pub card_of : Suit → Place → Card
card_of suit place = record { suit = suit; place = place }

abbrev pub jack_of : Suit → Card
jack_of suit = card_of suit Jack

-- The trumps of grand and of a suit game, from the club jack down.
abbrev pub grand_run : List Card
grand_run = map jack_of jacks_down

abbrev pub suit_run : Suit → List Card
suit_run trump = map jack_of jacks_down ++ map (card_of trump) plain_down

-- Whether a card is among others.
abbrev pub is_among : List Card → Card → Bool
is_among [] card = false
is_among (other ∷ cards) card = card_number card == card_number other || is_among cards card

abbrev pub is_same : Bool → Bool → Bool
is_same true b = b
is_same false true = false
is_same false false = true

-- Whether two cards are both among these, or neither.
abbrev pub is_alike : List Card → Card → Card → Bool
is_alike cards first other = is_same (is_among cards first) (is_among cards other)

-- How many trumps of a run are like its first: all held, or all missing.
abbrev pub tops_of : List Card → List Card → ℕ
tops_of [] cards = 0
tops_of (first ∷ run) cards = prefix_len (is_alike cards first) (first ∷ run)
