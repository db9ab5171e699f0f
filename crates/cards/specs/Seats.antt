-- The seats and their numbers.
use Rattle.std.specs.Prelude.{ℕ, cond, Some, None, Option, ◌==◌}
use Rattle.cards.specs.declared.seats.Seat.{Seat}
use Rattle.cards.specs.declared.seats.Seat.TheVariants.{Forehand, Middlehand, Rearhand}

abbrev pub seat_number : Seat → ℕ
seat_number Forehand = 0
seat_number Middlehand = 1
seat_number Rearhand = 2

-- The seat of a number, if there is one.
abbrev pub seat_at : ℕ → Option Seat
seat_at n = cond (n == 0) (Some Forehand) (cond (n == 1) (Some Middlehand) (cond (n == 2) (Some Rearhand) None))

-- The next seat in the order forehand, middlehand, rearhand, forehand.
abbrev pub following : Seat → Seat
following Forehand = Middlehand
following Middlehand = Rearhand
following Rearhand = Forehand
