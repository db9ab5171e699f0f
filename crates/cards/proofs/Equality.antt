-- Two cards are equal as `==` tells it exactly if their numbers are.
use Rattle.std.proofs.Common.{◌≡◌, ℕ, ◌+◌, ◌*◌, ◌<◌, ◌&&◌, eqb, refl, arith}
use Rattle.std.proofs.lemmas.Bool.Decides.{nat_tests}
use denote.Enum.Bare.{sameb}
use denote.Enum.Declared.{tag_of}
use Rattle.cards.specs.contracts.deck.Suit.{the_type as suit_type}
use Rattle.cards.specs.contracts.deck.Place.{the_type as place_type}
use Rattle.cards.specs.declared.deck.Suit.{Suit}
use Rattle.cards.specs.declared.deck.Suit.TheVariants.{Diamonds, Hearts, Spades, Clubs}
use Rattle.cards.specs.declared.deck.Place.{Place}
use Rattle.cards.specs.declared.deck.Place.TheVariants.{Seven, Eight, Nine, Queen, King, Ten, Ace, Jack}
use Rattle.cards.specs.declared.deck.Card.{Card}
use Rattle.cards.specs.Deck.{suit_number, place_number, card_number}
use Rattle.cards.proofs.Cardinals.{place_below}

suit_tag : (s : Suit) → tag_of suit_type s ≡ suit_number s
suit_tag Diamonds = refl
suit_tag Hearts = refl
suit_tag Spades = refl
suit_tag Clubs = refl

place_tag : (p : Place) → tag_of place_type p ≡ place_number p
place_tag Seven = refl
place_tag Eight = refl
place_tag Nine = refl
place_tag Queen = refl
place_tag King = refl
place_tag Ten = refl
place_tag Ace = refl
place_tag Jack = refl

digits : (s t p q : ℕ) → p < 8 → q < 8 → (eqb s t && eqb p q) ≡ eqb (8 * s + p) (8 * t + q)
digits s t p q low less = grind (arith, nat_tests)

pub same_numbers : (a b : Card) → (sameb suit_type a.suit b.suit && sameb place_type a.place b.place) ≡ eqb (card_number a) (card_number b)
same_numbers a b =
    let s = suit_tag a.suit in
    let t = suit_tag b.suit in
    let p = place_tag a.place in
    let q = place_tag b.place in
    let d = digits (suit_number a.suit) (suit_number b.suit) (place_number a.place) (place_number b.place) (place_below a.place) (place_below b.place) in
    cc
