-- The cards that a seat may play now.
use Rattle.std.specs.Prelude.{ℕ, zero, suc, ◌+◌, ◌^◌, Bool, cond, List, Some, None, Option}
use Rattle.cards.specs.declared.seats.Seat.{Seat}
use Rattle.kinds.specs.Meanings.{Meaning}
use Rattle.rules.specs.declared.calls.Call.TheVariants.{Play}
use Rattle.rules.specs.declared.deals.Common.{Common}
use Rattle.rules.specs.declared.deals.Deal.{Deal}
use Rattle.rules.specs.Piles.{holding}
use Rattle.rules.specs.Refusing.{refusal_of, is_none}

-- A card may be played if playing it would be refused for nothing.
abbrev pub may_play : Meaning → Common → List Bool → Seat → ℕ → Bool
may_play m c hand seat card = is_none (refusal_of m c hand seat (Play card))

-- A number whose bit n is set exactly if the test holds of n, for each n below a bound.
abbrev pub bits_below : ℕ → (ℕ → Bool) → ℕ
bits_below zero test = 0
bits_below (suc n) test = bits_below n test + cond (test n) (2 ^ n) 0

unfoldable pub permitted_of : Meaning → Common → List Bool → Seat → ℕ
permitted_of m c hand seat = bits_below 32 (may_play m c hand seat)

-- For the seat of a number, and nothing where there is no such seat.
abbrev pub permitted_by : Meaning → Deal → Option Seat → ℕ
permitted_by m deal None = 0
permitted_by m deal (Some seat) = permitted_of m deal.common (holding seat deal.piles) seat
