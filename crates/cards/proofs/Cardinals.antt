-- Every card's number is below 32, and no two cards share one.
use Rattle.std.proofs.Common.{◌≡◌, ℕ, ◌/◌, ◌%◌, ◌<◌, sym, refl, ap, ◌∙◌, arith, lit<}
use Rattle.std.proofs.lemmas.Bool.Decides.{nat_tests}
use Rattle.cards.specs.declared.deck.Suit.{Suit}
use Rattle.cards.specs.declared.deck.Suit.TheVariants.{Diamonds, Hearts, Spades, Clubs}
use Rattle.cards.specs.declared.deck.Place.{Place}
use Rattle.cards.specs.declared.deck.Place.TheVariants.{Seven, Eight, Nine, Queen, King, Ten, Ace, Jack}
use Rattle.cards.specs.declared.deck.Card.{Card}
use Rattle.cards.specs.Deck.{suit_number, place_number, card_number, suit_at, place_at, card_at}

suit_below : (s : Suit) → suit_number s < 4
suit_below Diamonds = lit< tt
suit_below Hearts = lit< tt
suit_below Spades = lit< tt
suit_below Clubs = lit< tt

pub place_below : (p : Place) → place_number p < 8
place_below Seven = lit< tt
place_below Eight = lit< tt
place_below Nine = lit< tt
place_below Queen = lit< tt
place_below King = lit< tt
place_below Ten = lit< tt
place_below Ace = lit< tt
place_below Jack = lit< tt

pub card_below : (c : Card) → card_number c < 32
card_below c = omega (arith, suit_below c.suit, place_below c.place)

suit_back : (s : Suit) → suit_at (suit_number s) ≡ s
suit_back Diamonds = refl
suit_back Hearts = refl
suit_back Spades = refl
suit_back Clubs = refl

place_back : (p : Place) → place_at (place_number p) ≡ p
place_back Seven = refl
place_back Eight = refl
place_back Nine = refl
place_back Queen = refl
place_back King = refl
place_back Ten = refl
place_back Ace = refl
place_back Jack = refl

pub same_card : (a b : Card) → card_number a ≡ card_number b → a ≡ b
same_card a b e =
    let p = place_below a.place in
    let q = place_below b.place in
    let suits : suit_number a.suit ≡ suit_number b.suit = omega arith in
    let places : place_number a.place ≡ place_number b.place = omega arith in
    let s : a.suit ≡ b.suit = sym (suit_back a.suit) ∙ (ap suit_at suits ∙ suit_back b.suit) in
    let t : a.place ≡ b.place = sym (place_back a.place) ∙ (ap place_at places ∙ place_back b.place) in
    λ i. record { suit = s i; place = t i }

suit_at_lem : (n : ℕ) → n < 4 → suit_number (suit_at n) ≡ n
suit_at_lem n h = grind (arith, nat_tests)

place_at_lem : (n : ℕ) → n < 8 → place_number (place_at n) ≡ n
place_at_lem n h = grind (arith, nat_tests)

-- the card of a number has that number, and a card is the one of its number
pub number_at : (n : ℕ) → n < 32 → card_number (card_at n) ≡ n
number_at n h =
    let s = suit_at_lem (n / 8) (omega arith) in
    let p = place_at_lem (n % 8) (omega arith) in
    omega arith

pub card_back : (c : Card) → card_at (card_number c) ≡ c
card_back c = same_card (card_at (card_number c)) c (number_at (card_number c) (card_below c))
