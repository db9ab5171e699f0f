-- The moments' numbers, and which calls stand in a moment's row.
use Rattle.std.specs.Prelude.{ℕ, Bool, ◌||◌, ◌==◌, nat_le}
use Rattle.rules.specs.declared.calls.Call.{Call}
use Rattle.rules.specs.declared.calls.Call.TheVariants.{Bid, Hold, Pass, Take, Put, Announce, Play}
use Rattle.rules.specs.declared.moments.Moment.{Moment}
use Rattle.rules.specs.declared.moments.Moment.TheVariants.{Bidding, Hearing, Alone, Deciding, Putting, Announcing, Playing, Settled}

abbrev pub moment_number : Moment → ℕ
moment_number Bidding = 0
moment_number Hearing = 1
moment_number Alone = 2
moment_number Deciding = 3
moment_number Putting = 4
moment_number Announcing = 5
moment_number Playing = 6
moment_number Settled = 7

-- Whether it is this moment.
abbrev pub is_at : ℕ → Moment → Bool
is_at n moment = moment_number moment == n

-- The moments in which a call can be made.
abbrev pub in_row : Moment → Call → Bool
in_row moment (Bid value) = is_at 0 moment
in_row moment Hold = is_at 1 moment || is_at 2 moment
in_row moment Pass = nat_le (moment_number moment) 2
in_row moment Take = is_at 3 moment
in_row moment (Put a b) = is_at 4 moment
in_row moment (Announce game level) = is_at 3 moment || is_at 5 moment
in_row moment (Play card) = is_at 6 moment
