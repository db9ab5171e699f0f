-- The levels, their numbers, and which are open to a game.
use Rattle.std.specs.Prelude.{ℕ, Bool, true, not, ◌&&◌, ◌||◌}
use Rattle.worth.specs.declared.levels.Level.{Level}
use Rattle.worth.specs.declared.levels.Level.TheVariants.{Plain, Schneider, Schwarz, Ouvert}

abbrev pub level_number : Level → ℕ
level_number Plain = 0
level_number Schneider = 1
level_number Schwarz = 2
level_number Ouvert = 3

-- Schneider and schwarz need a hand game other than null, ouvert a hand game or null.
abbrev pub is_open_level : Bool → Bool → Level → Bool
is_open_level null hand Plain = true
is_open_level null hand Schneider = hand && not null
is_open_level null hand Schwarz = hand && not null
is_open_level null hand Ouvert = hand || null
