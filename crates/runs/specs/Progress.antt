-- Before settlement one seat can act, and no other.
use Rattle.std.specs.Prelude.{◌≡◌, ℕ, Some, None}
use Rattle.cards.specs.declared.seats.Seat.{Seat}
use Rattle.cards.specs.Seats.{seat_at}
use Rattle.kinds.specs.Meanings.{Meaning}
use Rattle.rules.specs.declared.calls.Call.{Call}
use Rattle.rules.specs.declared.deals.Deal.{Deal}
use Rattle.rules.specs.Refusing.{refusal_by}

-- Some call by this seat would be accepted, and none by another seat or by a number that is no seat's.
pub record OneActs (m : Meaning) (deal : Deal) : Type 0 where
  pub seat : Seat
  pub call : Call
  pub can : refusal_by m deal (Some seat) call ≡ None
  pub alone : (number : ℕ) (other : Call) → refusal_by m deal (seat_at number) other ≡ None → seat_at number ≡ Some seat
