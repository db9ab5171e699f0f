-- What an acting call is refused for.
use Rattle.std.specs.Prelude.{Bool, true, false, not, ◌&&◌, ◌||◌, List, [], ◌∷◌, Some, None, Option, ◌==◌, nat_le, nat_lt, slice_index_or}
use Rattle.cards.specs.declared.refusals.Refusal.{Refusal}
use Rattle.cards.specs.declared.refusals.Refusal.TheVariants.{NoSuchSeat, DealIsSettled, NotThisSeatsTurn, NotInThisMoment, NoBidValue, BidTooLow, NoSuchCard, SameCardTwice, CardNotHeld, LedClassHeld, NoSuchGame, LevelNotOpen, NullBelowBid}
use Rattle.cards.specs.declared.seats.Seat.{Seat}
use Rattle.cards.specs.Refusals.{topmost}
use Rattle.kinds.specs.Meanings.{Meaning}
use Rattle.worth.specs.Bases.{null_value_at}
use Rattle.worth.specs.BidValues.{is_bid}
use Rattle.worth.specs.Levels.{is_open_level}
use Rattle.rules.specs.declared.calls.Call.{Call}
use Rattle.rules.specs.declared.calls.Call.TheVariants.{Bid, Hold, Pass, Take, Put, Announce, Play}
use Rattle.rules.specs.declared.deals.Common.{Common}
use Rattle.rules.specs.declared.deals.Deal.{Deal}
use Rattle.rules.specs.Announcing.{level_at}
use Rattle.rules.specs.Board.{follows}
use Rattle.rules.specs.Moments.{is_at, in_row}
use Rattle.rules.specs.Piles.{is_seat, holding}

-- What can be wrong with a call in its moment, in the order of the numbers.
abbrev pub own_refusals : Meaning → Common → List Bool → Call → List (Refusal × Bool)
own_refusals m c hand (Bid value) = (NoBidValue, not (is_bid value)) ∷ ((BidTooLow, nat_le value c.bid) ∷ [])
own_refusals m c hand Hold = []
own_refusals m c hand Pass = []
own_refusals m c hand Take = []
own_refusals m c hand (Put a b) =
    (NoSuchCard, nat_lt 31 a || nat_lt 31 b)
    ∷ ((SameCardTwice, (a == b))
    ∷ ((CardNotHeld, not (slice_index_or hand a false && slice_index_or hand b false))
    ∷ []))
own_refusals m c hand (Announce game level) =
    (NoSuchGame, nat_lt 5 game || nat_lt 3 level)
    ∷ ((LevelNotOpen, not (is_open_level (game == 5) (is_at 3 c.moment) (level_at level)))
    ∷ ((NullBelowBid, (game == 5) && nat_lt (null_value_at (level_at level) (is_at 3 c.moment)) c.bid)
    ∷ []))
own_refusals m c hand (Play card) =
    (NoSuchCard, nat_lt 31 card)
    ∷ ((CardNotHeld, not (slice_index_or hand card false))
    ∷ ((LedClassHeld, not (follows m hand c.board.trick card))
    ∷ []))

-- What a seat's call is refused for, by what every seat sees and by this seat's own hand alone.
unfoldable pub refusal_of : Meaning → Common → List Bool → Seat → Call → Option Refusal
refusal_of m c hand seat call =
    topmost
    ((DealIsSettled, is_at 7 c.moment)
    ∷ ((NotThisSeatsTurn, not (is_seat seat c.turn))
    ∷ ((NotInThisMoment, not (in_row c.moment call))
    ∷ own_refusals m c hand call)))

-- The same for the seat of a number, if there is one.
abbrev pub refusal_by : Meaning → Deal → Option Seat → Call → Option Refusal
refusal_by m deal None call = Some NoSuchSeat
refusal_by m deal (Some seat) call = refusal_of m deal.common (holding seat deal.piles) seat call

abbrev pub is_none : {A : Type 0} → Option A → Bool
is_none None = true
is_none (Some value) = false

abbrev pub is_accepted : Meaning → Deal → Seat → Call → Bool
is_accepted m deal seat call = is_none (refusal_of m deal.common (holding seat deal.piles) seat call)
