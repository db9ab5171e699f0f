-- The cards: the numbers of suits, places and cards, and what a card counts.
use Rattle.std.specs.Prelude.{ℕ, ◌+◌, ◌*◌, ◌/◌, ◌%◌, cond, ◌==◌}
use Rattle.cards.specs.declared.deck.Suit.{Suit}
use Rattle.cards.specs.declared.deck.Suit.TheVariants.{Diamonds, Hearts, Spades, Clubs}
use Rattle.cards.specs.declared.deck.Place.{Place}
use Rattle.cards.specs.declared.deck.Place.TheVariants.{Seven, Eight, Nine, Queen, King, Ten, Ace, Jack}
use Rattle.cards.specs.declared.deck.Card.{Card}

abbrev pub suit_number : Suit → ℕ
suit_number Diamonds = 0
suit_number Hearts = 1
suit_number Spades = 2
suit_number Clubs = 3

abbrev pub place_number : Place → ℕ
place_number Seven = 0
place_number Eight = 1
place_number Nine = 2
place_number Queen = 3
place_number King = 4
place_number Ten = 5
place_number Ace = 6
place_number Jack = 7

-- A card is 8 times its suit plus its place.
abbrev pub card_number : Card → ℕ
card_number c = 8 * suit_number c.suit + place_number c.place

-- The suit, the place and the card of a number; which of them a number beyond the last gives does not matter.
abbrev pub suit_at : ℕ → Suit
suit_at n = cond (n == 0) Diamonds (cond (n == 1) Hearts (cond (n == 2) Spades Clubs))

abbrev pub place_at : ℕ → Place
place_at n = cond (n == 0) Seven (cond (n == 1) Eight (cond (n == 2) Nine (cond (n == 3) Queen (cond (n == 4) King (cond (n == 5) Ten (cond (n == 6) Ace Jack))))))

abbrev pub card_at : ℕ → Card
card_at n = record { suit = suit_at (n / 8); place = place_at (n % 8) }

abbrev pub place_eyes : Place → ℕ
place_eyes Seven = 0
place_eyes Eight = 0
place_eyes Nine = 0
place_eyes Queen = 3
place_eyes King = 4
place_eyes Ten = 10
place_eyes Ace = 11
place_eyes Jack = 2

-- What a card counts in a trick.
abbrev pub eyes_of : Card → ℕ
eyes_of c = place_eyes c.place
