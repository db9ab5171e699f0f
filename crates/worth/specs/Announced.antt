-- The games that can be announced: their numbers, and the kind that each names.
use Rattle.std.specs.Prelude.{ℕ, List, ℤ}
use Rattle.cards.specs.declared.deck.Card.{Card}
use Rattle.cards.specs.Deck.{suit_number}
use Rattle.kinds.specs.Games.{suit_meaning, grand_meaning, null_meaning}
use Rattle.kinds.specs.Meanings.{Meaning}
use Rattle.worth.specs.declared.announced.Game.{Game}
use Rattle.worth.specs.declared.announced.Game.TheVariants.{Suit, Grand, Null}
use Rattle.worth.specs.declared.finished.Finished.{Finished}
use Rattle.worth.specs.Rated.{Worth, suit_rated, grand_rated, null_rated}

abbrev pub game_number : Game → ℕ
game_number (Suit game) = suit_number game.trump
game_number (Grand game) = 4
game_number (Null game) = 5

abbrev pub game_meaning : Game → Meaning
game_meaning (Suit game) = suit_meaning game.trump
game_meaning (Grand game) = grand_meaning
game_meaning (Null game) = null_meaning

-- What each game adds to its meaning.
abbrev pub game_rated : Game → Worth
game_rated (Suit game) = suit_rated game.trump
game_rated (Grand game) = grand_rated
game_rated (Null game) = null_rated

abbrev pub game_run : Game → List Card
game_run game = (game_rated game).run

abbrev pub game_counts : Game → ℕ → Finished → ℤ
game_counts game = (game_rated game).counts
