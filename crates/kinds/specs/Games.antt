-- The games of the order: which cards are trump, and how the cards of a class rank.
use Rattle.std.specs.Prelude.{ℕ, ◌+◌, Bool, true, false, cond, ◌||◌, List, [], ◌∷◌, map, length, ◌==◌}
use Rattle.cards.specs.declared.deck.Card.{Card}
use Rattle.cards.specs.declared.deck.Place.{Place}
use Rattle.cards.specs.declared.deck.Place.TheVariants.{Seven, Eight, Nine, Queen, King, Ten, Ace, Jack}
use Rattle.cards.specs.declared.deck.Suit.{Suit}
use Rattle.cards.specs.declared.deck.Suit.TheVariants.{Diamonds, Hearts, Spades, Clubs}
use Rattle.cards.specs.Deck.{suit_number, place_number}
use Rattle.kinds.specs.Meanings.{Meaning}

-- From the highest down: the suits of the jacks, the places of a suit without its jack, and those of a suit in null.
abbrev pub jacks_down : List Suit
jacks_down = Clubs ∷ (Spades ∷ (Hearts ∷ (Diamonds ∷ [])))

abbrev pub plain_down : List Place
plain_down = Ace ∷ (Ten ∷ (King ∷ (Queen ∷ (Nine ∷ (Eight ∷ (Seven ∷ []))))))

abbrev pub null_down : List Place
null_down = Ace ∷ (King ∷ (Queen ∷ (Jack ∷ (Ten ∷ (Nine ∷ (Eight ∷ (Seven ∷ [])))))))

-- How many stand below a number in a list that goes down.
abbrev pub below : ℕ → List ℕ → ℕ
below n [] = 0
below n (m ∷ rest) = cond (n == m) (length rest) (below n rest)

abbrev pub jack_rank : Suit → ℕ
jack_rank suit = below (suit_number suit) (map suit_number jacks_down)

abbrev pub plain_rank : Place → ℕ
plain_rank place = below (place_number place) (map place_number plain_down)

abbrev pub null_rank : Place → ℕ
null_rank place = below (place_number place) (map place_number null_down)

abbrev pub is_jack : Card → Bool
is_jack card = place_number card.place == place_number Jack

abbrev pub is_of : Suit → Card → Bool
is_of suit card = suit_number card.suit == suit_number suit

-- Suit: trumps are the jacks, and below them the seven other cards of the suit.
abbrev pub suit_class : Suit → Card → ℕ
suit_class trump card = cond (is_jack card || is_of trump card) 4 (suit_number card.suit)

abbrev pub suit_rank : Card → ℕ
suit_rank card = cond (is_jack card) (7 + jack_rank card.suit) (plain_rank card.place)

abbrev pub suit_meaning : Suit → Meaning
suit_meaning trump = record { class = suit_class trump; rank = suit_rank; ends = false }

-- Grand: only the jacks are trump.
abbrev pub grand_class : Card → ℕ
grand_class card = cond (is_jack card) 4 (suit_number card.suit)

abbrev pub grand_rank : Card → ℕ
grand_rank card = cond (is_jack card) (jack_rank card.suit) (plain_rank card.place)

abbrev pub grand_meaning : Meaning
grand_meaning = record { class = grand_class; rank = grand_rank; ends = false }

-- Null: no trump, and a trick of the declarer ends it.
abbrev pub null_class : Card → ℕ
null_class card = suit_number card.suit

abbrev pub null_rank_of : Card → ℕ
null_rank_of card = null_rank card.place

abbrev pub null_meaning : Meaning
null_meaning = record { class = null_class; rank = null_rank_of; ends = true }
