-- What both sides have in a deal, and with it the game points.
use Rattle.std.specs.Prelude.{ℕ, Some, None, Option}
use Rattle.cards.specs.declared.seats.Seat.{Seat}
use Rattle.cards.specs.declared.units.GamePoints.{GamePoints}
use Rattle.cards.specs.Seats.{seat_number}
use Rattle.worth.specs.declared.bids.Bid.{Bid}
use Rattle.worth.specs.declared.finished.Finished.{Finished}
use Rattle.rules.specs.declared.deals.Announcement.{Announcement}
use Rattle.rules.specs.declared.deals.Deal.{Deal}
use Rattle.rules.specs.Piles.{eyes_where, is_declarers, is_defenders, pile_in}
use Rattle.worth.specs.Rated.{Worth}
use Rattle.rules.specs.Results.{bid_at, finished_with, nothing, points_of}

-- The eyes of the declarer, with the skat or the put cards.
abbrev pub declarer_eyes : Deal → ℕ
declarer_eyes deal = eyes_where is_declarers (pile_in deal.piles)

-- The eyes of the defenders.
abbrev pub defender_eyes : Deal → ℕ
defender_eyes deal = eyes_where is_defenders (pile_in deal.piles)

-- The announced game as it ended in this deal.
abbrev pub finished_in : Deal → Announcement → Bid → Finished
finished_in deal announcement bid = finished_with announcement bid (declarer_eyes deal) (defender_eyes deal) deal.common.board.taken

-- Declarer and game points of a deal that is settled.
abbrev pub points_in : Worth → Deal → ℕ × GamePoints
points_in worth deal =
    points_of worth deal.common.contract (bid_at deal.common.bid) deal.twelve (declarer_eyes deal) (defender_eyes deal) deal.common.board.taken

-- Declarer and game points as they are answered: 255 and none where there is no declarer.
abbrev pub or_nothing : Option (Seat × GamePoints) → ℕ × GamePoints
or_nothing None = nothing
or_nothing (Some counted) = (seat_number counted.0, counted.1)
