-- Who bids to whom, and what a pass leads to.
use Rattle.std.specs.Prelude.{ℕ, cond, ◌==◌}
use Rattle.cards.specs.declared.seats.Seat.{Seat}
use Rattle.cards.specs.declared.seats.Seat.TheVariants.{Forehand, Middlehand, Rearhand}
use Rattle.rules.specs.declared.deals.Board.{Board}
use Rattle.rules.specs.declared.deals.Common.{Common}
use Rattle.rules.specs.declared.deals.Contract.{Contract}
use Rattle.rules.specs.declared.deals.Contract.TheVariants.{Undecided, Won}
use Rattle.rules.specs.declared.deals.Pair.{Pair}
use Rattle.rules.specs.declared.deals.Pair.TheVariants.{MiddlehandToForehand, RearhandToForehand, RearhandToMiddlehand}
use Rattle.rules.specs.declared.deals.Trick.TheVariants.{Empty}
use Rattle.rules.specs.declared.moments.Moment.{Moment}
use Rattle.rules.specs.declared.moments.Moment.TheVariants.{Bidding, Hearing, Alone, Deciding, Settled}

abbrev pub bidder : Pair → Seat
bidder MiddlehandToForehand = Middlehand
bidder RearhandToForehand = Rearhand
bidder RearhandToMiddlehand = Rearhand

abbrev pub hearer : Pair → Seat
hearer MiddlehandToForehand = Forehand
hearer RearhandToForehand = Forehand
hearer RearhandToMiddlehand = Middlehand

-- No card is played yet, and forehand is to lead.
abbrev pub fresh_board : Board
fresh_board = record { taken = record { declarer = 0; defenders = 0 }; leader = Forehand; trick = Empty }

-- The deal waits for this seat in this moment, before any card is played.
abbrev pub waits : Common → Moment → Seat → Contract → Common
waits c moment turn contract = record { moment = moment; turn = turn; pair = c.pair; bid = c.bid; contract = contract; board = fresh_board }

-- This pair bids, from the highest bid so far.
abbrev pub bids_next : Common → Pair → Common
bids_next c pair = record { moment = Bidding; turn = bidder pair; pair = pair; bid = c.bid; contract = Undecided; board = fresh_board }

-- The hearer is to answer a bid.
abbrev pub hears : Common → ℕ → Common
hears c value = record { moment = Hearing; turn = hearer c.pair; pair = c.pair; bid = value; contract = Undecided; board = fresh_board }

-- A seat has won the auction at this bid.
abbrev pub declares : Common → Seat → ℕ → Common
declares c seat value = record { moment = Deciding; turn = seat; pair = c.pair; bid = value; contract = Won seat; board = fresh_board }

-- Nothing was bid, and forehand alone is left.
abbrev pub leaves_forehand : Common → Common
leaves_forehand c = record { moment = Alone; turn = Forehand; pair = c.pair; bid = 0; contract = Undecided; board = fresh_board }

-- Nobody wants the deal.
abbrev pub passed_in : Common → Common
passed_in c = record { moment = Settled; turn = Forehand; pair = c.pair; bid = 0; contract = Undecided; board = fresh_board }

-- A pass leaves the other of the pair; after the first pair rearhand bids to that seat, after the second it declares.
abbrev pub bidder_passes : Common → Pair → Common
bidder_passes c MiddlehandToForehand = bids_next c RearhandToForehand
bidder_passes c RearhandToForehand = cond (c.bid == 0) (leaves_forehand c) (declares c Forehand c.bid)
bidder_passes c RearhandToMiddlehand = declares c Middlehand c.bid

abbrev pub hearer_passes : Common → Pair → Common
hearer_passes c MiddlehandToForehand = bids_next c RearhandToMiddlehand
hearer_passes c RearhandToForehand = declares c Rearhand c.bid
hearer_passes c RearhandToMiddlehand = declares c Rearhand c.bid
