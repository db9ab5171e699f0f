-- What each game keeps: two cards of one class and one rank are one card, and no class is above trump.
use Rattle.std.proofs.Common.{◌≡◌, ◌≤◌, rules}
use Rattle.cards.specs.declared.deck.Card.{Card}
use Rattle.cards.specs.declared.deck.Suit.{Suit}
use Rattle.kinds.specs.Games.{suit_meaning, grand_meaning, null_meaning}

pub suit_apart : (trump : Suit) (a b : Card) → (suit_meaning trump).class a ≡ (suit_meaning trump).class b → (suit_meaning trump).rank a ≡ (suit_meaning trump).rank b → a ≡ b
suit_apart trump a b class rank = search rules

pub suit_small : (trump : Suit) (card : Card) → (suit_meaning trump).class card ≤ 4
suit_small trump card = search rules

pub grand_apart : (a b : Card) → grand_meaning.class a ≡ grand_meaning.class b → grand_meaning.rank a ≡ grand_meaning.rank b → a ≡ b
grand_apart a b class rank = search rules

pub grand_small : (card : Card) → grand_meaning.class card ≤ 4
grand_small card = search rules

pub null_apart : (a b : Card) → null_meaning.class a ≡ null_meaning.class b → null_meaning.rank a ≡ null_meaning.rank b → a ≡ b
null_apart a b class rank = search rules

pub null_small : (card : Card) → null_meaning.class card ≤ 4
null_small card = search rules
