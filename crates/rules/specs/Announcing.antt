-- The game and the level of a number; which of them a number beyond the last gives does not matter.
use Rattle.std.specs.Prelude.{ℕ, Bool, cond, ◌==◌}
use Rattle.cards.specs.Deck.{suit_at}
use Rattle.worth.specs.declared.announced.Game.{Game}
use Rattle.worth.specs.declared.announced.Game.TheVariants.{Suit, Grand, Null}
use Rattle.worth.specs.declared.levels.Level.{Level}
use Rattle.worth.specs.declared.levels.Level.TheVariants.{Plain, Schneider, Schwarz, Ouvert}
use Rattle.worth.specs.Levels.{level_number}

abbrev pub game_at : ℕ → Game
game_at n = cond (n == 4) (Grand (record {})) (cond (n == 5) (Null (record {})) (Suit (record { trump = suit_at n })))

abbrev pub level_at : ℕ → Level
level_at n = cond (n == 0) Plain (cond (n == 1) Schneider (cond (n == 2) Schwarz Ouvert))

abbrev pub is_ouvert : Level → Bool
is_ouvert level = level_number level == 3
