-- What a deal counts once it is settled.
use Rattle.std.specs.Prelude.{◌≡◌, ℕ, Bool, true, false, cond, List, pos, Some, None, Ok, Err, Option, Result, refl}
use Rattle.cards.specs.declared.deck.Card.{Card}
use Rattle.cards.specs.declared.refusals.Refusal.{Refusal}
use Rattle.cards.specs.declared.refusals.Refusal.TheVariants.{NotSettledYet}
use Rattle.cards.specs.declared.units.GamePoints.{GamePoints}
use Rattle.cards.specs.Seats.{seat_number}
use Rattle.worth.specs.declared.bids.Bid.{Bid}
use Rattle.worth.specs.declared.finished.Finished.{Finished}
use Rattle.worth.specs.Rated.{Worth}
use Rattle.worth.specs.BidValues.{is_bid}
use Rattle.worth.specs.Tops.{tops_of}
use Rattle.rules.specs.declared.deals.Announcement.{Announcement}
use Rattle.rules.specs.declared.deals.Contract.{Contract}
use Rattle.rules.specs.declared.deals.Contract.TheVariants.{Undecided, Won, SkatTaken, Announced}
use Rattle.rules.specs.declared.deals.Deal.{Deal}
use Rattle.rules.specs.declared.deals.Taken.{Taken}
use Rattle.rules.specs.Moments.{is_at}
use Rattle.rules.specs.Piles.{pile_in, is_declarers, is_defenders, eyes_where}

-- The bid of a value, if it is a bid value.
abbrev pub bid_when : (value : ℕ) (is : Bool) → is_bid value ≡ is → Option Bid
bid_when value true valued = Some (record { value = value; valued = valued })
bid_when value false none = None

abbrev pub bid_at : ℕ → Option Bid
bid_at value = bid_when value (is_bid value) refl

-- A game as it ended: its announcement and bid, and the eyes and tricks of both sides.
abbrev pub finished_with : Announcement → Bid → ℕ → ℕ → Taken → Finished
finished_with a bid ours theirs taken = record {
  hand = a.hand;
  level = a.level;
  bid = bid;
  declarer = record { eyes = record { 0 = ours }; tricks = record { 0 = taken.declarer } };
  defenders = record { eyes = record { 0 = theirs }; tricks = record { 0 = taken.defenders } };
}

-- Declarer and game points of a deal that was passed in.
abbrev pub nothing : ℕ × GamePoints
nothing = (255, record { 0 = pos 0 })

abbrev pub counted : Worth → Announcement → Option Bid → Option (List Card) → ℕ → ℕ → Taken → ℕ × GamePoints
counted worth a None twelve ours theirs taken = nothing
counted worth a (Some bid) None ours theirs taken = nothing
counted worth a (Some bid) (Some twelve) ours theirs taken =
    (seat_number a.declarer, record { 0 = worth.counts (tops_of worth.run twelve) (finished_with a bid ours theirs taken) })

-- Declarer and game points, where a game was announced.
abbrev pub points_of : Worth → Contract → Option Bid → Option (List Card) → ℕ → ℕ → Taken → ℕ × GamePoints
points_of worth Undecided bid twelve ours theirs taken = nothing
points_of worth (Won seat) bid twelve ours theirs taken = nothing
points_of worth (SkatTaken seat) bid twelve ours theirs taken = nothing
points_of worth (Announced a) bid twelve ours theirs taken = counted worth a bid twelve ours theirs taken

abbrev pub is_settled : Deal → Bool
is_settled deal = is_at 7 deal.common.moment

abbrev pub result_of : Worth → Deal → Result (ℕ × GamePoints) Refusal
result_of worth deal =
    cond (is_settled deal)
    (Ok
    (points_of worth deal.common.contract (bid_at deal.common.bid) deal.twelve (eyes_where is_declarers (pile_in deal.piles)) (eyes_where is_defenders (pile_in deal.piles)) deal.common.board.taken))
    (Err NotSettledYet)
