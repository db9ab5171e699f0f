-- What each announced game keeps: two cards of one class and one rank are one card, no class is above trump, no run is longer than eleven, and the worth is that of a game.
use Rattle.std.specs.Prelude.{◌≡◌, ℕ, ◌≤◌, true, length}
use Rattle.cards.specs.declared.deck.Card.{Card}
use Rattle.cards.specs.Units.{is_game_value}
use Rattle.kinds.specs.GameLaws.{suit_apart, suit_small, grand_apart, grand_small, null_apart, null_small}
use Rattle.worth.specs.declared.announced.Game.{Game}
use Rattle.worth.specs.declared.announced.Game.TheVariants as games
use Rattle.worth.specs.declared.finished.Finished.{Finished}
use Rattle.worth.specs.Announced.{game_meaning, game_run, game_counts}
use Rattle.worth.specs.Bounds.{suit_short, grand_short, null_short, suit_in, grand_in, null_in}

pub game_apart : (game : Game) (a b : Card) → (game_meaning game).class a ≡ (game_meaning game).class b → (game_meaning game).rank a ≡ (game_meaning game).rank b → a ≡ b
game_apart (games.Suit game) a b class rank = suit_apart game.trump a b class rank
game_apart (games.Grand game) a b class rank = grand_apart a b class rank
game_apart (games.Null game) a b class rank = null_apart a b class rank

pub game_small : (game : Game) (card : Card) → (game_meaning game).class card ≤ 4
game_small (games.Suit game) card = suit_small game.trump card
game_small (games.Grand game) card = grand_small card
game_small (games.Null game) card = null_small card

pub game_short : (game : Game) → length (game_run game) ≤ 11
game_short (games.Suit game) = suit_short game.trump
game_short (games.Grand game) = grand_short
game_short (games.Null game) = null_short

pub game_in : (game : Game) (tops : ℕ) (finished : Finished) → tops ≤ length (game_run game) → is_game_value (game_counts game tops finished) ≡ true
game_in (games.Suit game) tops finished few = suit_in tops finished game.trump few
game_in (games.Grand game) tops finished few = grand_in tops finished few
game_in (games.Null game) tops finished few = null_in finished
