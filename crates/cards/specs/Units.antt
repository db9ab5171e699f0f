-- What a game can count.
use Rattle.std.specs.Prelude.{Bool, ◌&&◌, ◌||◌, ℤ, pos, neg_ℤ, int_le, int_lt}

-- From −540 to 264 game points, and never 0.
abbrev pub is_game_value : ℤ → Bool
is_game_value points = int_le (neg_ℤ (pos 540)) points && int_le points (pos 264) && (int_lt points (pos 0) || int_lt (pos 0) points)
