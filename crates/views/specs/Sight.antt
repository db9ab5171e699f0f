-- Who may see a deal.
use Rattle.std.specs.Prelude.{ℕ, cond, Some, None, Ok, Err, Option, Result, nat_lt}
use Rattle.cards.specs.declared.refusals.Refusal.{Refusal}
use Rattle.cards.specs.declared.refusals.Refusal.TheVariants.{NoSuchSeat, BufferTooShort}
use Rattle.cards.specs.declared.seats.Seat.{Seat}
use Rattle.rules.specs.Sight.{sight_length}

-- The seat that there is, if there is room for its sight.
abbrev pub viewer_of : Option Seat → ℕ → Result Seat Refusal
viewer_of None room = Err NoSuchSeat
viewer_of (Some seat) room = cond (nat_lt room sight_length) (Err BufferTooShort) (Ok seat)
