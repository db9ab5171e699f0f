-- What a finished game counts.
use Rattle.std.specs.Prelude.{ℕ, ◌+◌, ◌-◌, ◌*◌, ◌/◌, max, Bool, cond, ◌&&◌, ◌||◌, ℤ, pos, neg_ℤ, ◌==◌, nat_le}
use Rattle.worth.specs.declared.finished.Finished.{Finished}
use Rattle.worth.specs.declared.levels.Level.{Level}
use Rattle.worth.specs.declared.levels.Level.TheVariants.{Plain, Schneider, Schwarz, Ouvert}
use Rattle.worth.specs.Bases.{null_value_at}

abbrev pub one_if : Bool → ℕ
one_if b = cond b 1 0

-- A side with at most 30 eyes is schneider; one that took no trick is schwarz.
abbrev pub is_schneider : Finished → Bool
is_schneider game = nat_le game.declarer.eyes.0 30 || nat_le game.defenders.eyes.0 30

abbrev pub is_schwarz : Finished → Bool
is_schwarz game = game.declarer.tricks.0 == 0 || game.defenders.tricks.0 == 0

-- The steps of a level: what was reached, and what was announced.
abbrev pub steps_at : Level → Bool → Bool → ℕ
steps_at Plain schneider schwarz = one_if schneider + one_if schwarz
steps_at Schneider schneider schwarz = 2 + one_if schwarz
steps_at Schwarz schneider schwarz = 4
steps_at Ouvert schneider schwarz = 5

abbrev pub factor : ℕ → Finished → ℕ
factor tops game = tops + 1 + one_if game.hand + steps_at game.level (is_schneider game) (is_schwarz game)

-- What the declarer must have: 61 eyes, 90 at schneider, all tricks at schwarz and ouvert.
abbrev pub reached_at : Level → ℕ → ℕ → Bool
reached_at Plain eyes against = nat_le 61 eyes
reached_at Schneider eyes against = nat_le 90 eyes
reached_at Schwarz eyes against = against == 0
reached_at Ouvert eyes against = against == 0

abbrev pub is_reached : Finished → Bool
is_reached game = reached_at game.level game.declarer.eyes.0 game.defenders.tricks.0

-- A suit or grand game is won if that is reached and the game counts at least the bid.
abbrev pub is_won : ℕ → ℕ → Finished → Bool
is_won base tops game = is_reached game && nat_le game.bid.value (base * factor tops game)

-- How often the base goes into the bid, rounded up.
abbrev pub times_in : ℕ → ℕ → ℕ
times_in base bid = (bid + base - 1) / base

-- Won, it counts the base times the factor; lost, minus twice the base times the factor, or as often as the bid asks.
abbrev pub trump_worth : ℕ → ℕ → Finished → ℤ
trump_worth base tops game =
    cond (is_won base tops game) (pos (base * factor tops game)) (neg_ℤ (pos (2 * (base * max (factor tops game) (times_in base game.bid.value)))))

abbrev pub null_value : Finished → ℕ
null_value game = null_value_at game.level game.hand

-- It is won without a trick, and lost at minus twice its value.
abbrev pub null_worth : Finished → ℤ
null_worth game = cond (game.declarer.tricks.0 == 0) (pos (null_value game)) (neg_ℤ (pos (2 * null_value game)))
