-- What an accepted call makes of a deal.
use Rattle.std.specs.Prelude.{◌≡◌, ℕ, suc, ◌+◌, ◌<◌, Bool, true, cond, ◌&&◌, ◌||◌, List, map, Some, None, Option, ◌==◌, slice_set}
use Rattle.cards.specs.declared.deck.Card.{Card}
use Rattle.cards.specs.declared.seats.Seat.{Seat}
use Rattle.cards.specs.declared.seats.Seat.TheVariants.{Forehand}
use Rattle.cards.specs.Deck.{card_at}
use Rattle.cards.specs.Seats.{following}
use Rattle.kinds.specs.Meanings.{Meaning}
use Rattle.rules.specs.declared.calls.Call.{Call}
use Rattle.rules.specs.declared.calls.Call.TheVariants.{Bid, Hold, Pass, Take, Put, Announce, Play}
use Rattle.rules.specs.declared.deals.Common.{Common}
use Rattle.rules.specs.declared.deals.Contract.TheVariants.{SkatTaken, Announced}
use Rattle.rules.specs.declared.deals.Deal.{Deal}
use Rattle.rules.specs.declared.deals.Pile.{Pile}
use Rattle.rules.specs.declared.deals.Pile.TheVariants.{InHand, InSkat, InTrick, WithDeclarer, WithDefenders}
use Rattle.rules.specs.declared.deals.Trick.{Trick}
use Rattle.rules.specs.declared.deals.Trick.TheVariants.{Empty, One, Two, Full}
use Rattle.rules.specs.declared.moments.Moment.{Moment}
use Rattle.rules.specs.declared.moments.Moment.TheVariants.{Putting, Announcing, Playing, Settled}
use Rattle.rules.specs.Announcing.{game_at, level_at}
use Rattle.rules.specs.Bidding.{fresh_board, bids_next, hears, declares, passed_in, bidder_passes, hearer_passes}
use Rattle.rules.specs.Board.{is_declarer, taker_of}
use Rattle.rules.specs.Moments.{is_at}
use Rattle.rules.specs.Piles.{padded, hand_and_skat}
use Rattle.rules.specs.Refusing.{is_accepted}

-- The declarer has taken the skat.
abbrev pub takes_skat : Common → Seat → Moment → Common
takes_skat c seat moment = record { moment = moment; turn = seat; pair = c.pair; bid = c.bid; contract = SkatTaken seat; board = fresh_board }

-- The declarer has announced, by hand where the skat was not taken; forehand leads.
abbrev pub announces : Common → Seat → ℕ → ℕ → Common
announces c seat game level = record {
  moment = Playing;
  turn = Forehand;
  pair = c.pair;
  bid = c.bid;
  contract = Announced (record { declarer = seat; game = game_at game; level = level_at level; hand = is_at 3 c.moment });
  board = fresh_board;
}

-- A card is laid to the open trick, and the next seat is to play.
abbrev pub lays : Common → Seat → Seat → Trick → Common
lays c seat leader trick = record {
  moment = Playing;
  turn = following seat;
  pair = c.pair;
  bid = c.bid;
  contract = c.contract;
  board = record { taken = c.board.taken; leader = leader; trick = trick };
}

-- The tenth trick settles the deal, as does a trick of the declarer where the kind says so.
abbrev pub settles : Meaning → Bool → ℕ → Bool
settles m by_declarer tricks = tricks == 10 || (m.ends && by_declarer)

-- A third card fills the trick: its taker has one trick more and leads next.
abbrev pub fills : Meaning → Common → Seat → Card → Card → Card → Common
fills m c taker a b card = record {
  moment = cond (settles m (is_declarer c.contract taker) (suc (c.board.taken.declarer + c.board.taken.defenders))) Settled Playing;
  turn = taker;
  pair = c.pair;
  bid = c.bid;
  contract = c.contract;
  board = record {
    taken = record {
      declarer = cond (is_declarer c.contract taker) (suc c.board.taken.declarer) c.board.taken.declarer;
      defenders = cond (is_declarer c.contract taker) c.board.taken.defenders (suc c.board.taken.defenders);
    };
    leader = taker;
    trick = Full a b card;
  };
}

abbrev pub plays : Meaning → Common → Seat → Card → Trick → Common
plays m c seat card Empty = lays c seat seat (One card)
plays m c seat card (One a) = lays c seat c.board.leader (Two a card)
plays m c seat card (Two a b) = fills m c (taker_of m c.board.leader a b card) a b card
plays m c seat card (Full a b d) = lays c seat seat (One card)

-- What every seat sees after an accepted call: it depends on what every seat saw and on the call alone.
unfoldable pub next : Meaning → Common → Seat → Call → Common
next m c seat (Bid value) = hears c value
next m c seat Hold = cond (is_at 2 c.moment) (declares c Forehand 18) (bids_next c c.pair)
next m c seat Pass =
    cond (is_at 2 c.moment) (passed_in c) (cond (is_at 0 c.moment) (bidder_passes c c.pair) (hearer_passes c c.pair))
next m c seat Take = takes_skat c seat Putting
next m c seat (Put a b) = takes_skat c seat Announcing
next m c seat (Announce game level) = announces c seat game level
next m c seat (Play card) = plays m c seat (card_at card) c.board.trick

-- Take moves the skat to the declarer's hand; a filled trick goes to a side.
abbrev pub lifted : Seat → Pile → Pile
lifted seat (InHand holder) = InHand holder
lifted seat InSkat = InHand seat
lifted seat InTrick = InTrick
lifted seat WithDeclarer = WithDeclarer
lifted seat WithDefenders = WithDefenders

abbrev pub gathered : Bool → Pile → Pile
gathered by_declarer (InHand holder) = InHand holder
gathered by_declarer InSkat = InSkat
gathered by_declarer InTrick = cond by_declarer WithDeclarer WithDefenders
gathered by_declarer WithDeclarer = WithDeclarer
gathered by_declarer WithDefenders = WithDefenders

abbrev pub laid : Meaning → Common → ℕ → Trick → List Pile → List Pile
laid m c card Empty piles = slice_set piles card InTrick
laid m c card (One a) piles = slice_set piles card InTrick
laid m c card (Two a b) piles =
    map (gathered (is_declarer c.contract (taker_of m c.board.leader a b (card_at card)))) (slice_set piles card InTrick)
laid m c card (Full a b d) piles = slice_set piles card InTrick

-- Where the cards lie after an accepted call.
unfoldable pub moved : Meaning → Common → Seat → Call → List Pile → List Pile
moved m c seat (Bid value) piles = piles
moved m c seat Hold piles = piles
moved m c seat Pass piles = piles
moved m c seat Take piles = map (lifted seat) piles
moved m c seat (Put a b) piles = slice_set (slice_set piles a InSkat) b InSkat
moved m c seat (Announce game level) piles = piles
moved m c seat (Play card) piles = laid m c card c.board.trick piles

-- The declarer's hand and the skat or the put cards, twelve in all, are copied at the announcement.
abbrev pub twelve_of : Seat → List Pile → List Card
twelve_of seat piles = padded 12 (card_at 0) (hand_and_skat seat piles)

abbrev pub copied : Seat → Call → List Pile → Option (List Card) → Option (List Card)
copied seat (Bid value) piles twelve = twelve
copied seat Hold piles twelve = twelve
copied seat Pass piles twelve = twelve
copied seat Take piles twelve = twelve
copied seat (Put a b) piles twelve = twelve
copied seat (Announce game level) piles twelve = Some (twelve_of seat piles)
copied seat (Play card) piles twelve = twelve

abbrev pub step : Meaning → Deal → Seat → Call → Deal
step m deal seat call = record {
  common = next m deal.common seat call;
  piles = moved m deal.common seat call deal.piles;
  twelve = copied seat call deal.piles deal.twelve;
}

-- The deal after an acting call: a refused one leaves it.
abbrev pub after_call : Meaning → Deal → Option Seat → Call → Deal
after_call m deal None call = deal
after_call m deal (Some seat) call = cond (is_accepted m deal seat call) (step m deal seat call) deal

-- There are fewer than ten tricks while the play goes on.
abbrev pub Few : Deal → Type 0
Few deal = is_at 6 deal.common.moment ≡ true → deal.common.board.taken.declarer + deal.common.board.taken.defenders < 10
