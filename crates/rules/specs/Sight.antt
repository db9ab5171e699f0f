-- What a seat sees: 42 bytes, in which 255 stands for none.
use Rattle.std.specs.Prelude.{ℕ, ◌/◌, ◌%◌, Bool, cond, ◌&&◌, List, [], ◌∷◌, ◌++◌, map, length, drop, Some, None, Option, Result, nat_lt}
use Rattle.cards.specs.declared.refusals.Refusal.{Refusal}
use Rattle.cards.specs.declared.refusals.Refusal.TheVariants.{NoSuchSeat, BufferTooShort}
use Rattle.cards.specs.declared.seats.Seat.{Seat}
use Rattle.cards.specs.Deck.{card_number}
use Rattle.cards.specs.Refusals.{answered}
use Rattle.cards.specs.Seats.{seat_number}
use Rattle.worth.specs.Announced.{game_number}
use Rattle.worth.specs.Levels.{level_number}
use Rattle.rules.specs.declared.deals.Common.{Common}
use Rattle.rules.specs.declared.deals.Contract.{Contract}
use Rattle.rules.specs.declared.deals.Contract.TheVariants.{Undecided, Won, SkatTaken, Announced}
use Rattle.rules.specs.declared.deals.Deal.{Deal}
use Rattle.rules.specs.declared.deals.Pile.{Pile}
use Rattle.rules.specs.Announcing.{is_ouvert}
use Rattle.rules.specs.Board.{is_declarer, open_cards, last_cards}
use Rattle.rules.specs.Moments.{moment_number, is_at}
use Rattle.rules.specs.Piles.{holding, skat_of, marked, padded}

-- A sight's length.
abbrev pub sight_length : ℕ
sight_length = 42

-- Declarer, game, level, and whether it is a hand game.
abbrev pub contract_bytes : Contract → List ℕ
contract_bytes Undecided = 255 ∷ (255 ∷ (255 ∷ (255 ∷ [])))
contract_bytes (Won seat) = seat_number seat ∷ (255 ∷ (255 ∷ (255 ∷ [])))
contract_bytes (SkatTaken seat) = seat_number seat ∷ (255 ∷ (255 ∷ (0 ∷ [])))
contract_bytes (Announced a) = seat_number a.declarer ∷ (game_number a.game ∷ (level_number a.level ∷ (cond a.hand 1 0 ∷ [])))

-- Bytes 0 to 17: moment, seat to act, highest bid, contract, tricks of the sides, leader, open trick, last trick, and how many cards the seat has.
abbrev pub head_bytes : Common → ℕ → List ℕ
head_bytes c cards =
    moment_number c.moment
    ∷ (cond (is_at 7 c.moment) 255 (seat_number c.turn)
    ∷ (c.bid % 256
    ∷ (c.bid / 256
    ∷ (contract_bytes c.contract
    ++ (c.board.taken.declarer
    ∷ (c.board.taken.defenders
    ∷ (cond (is_at 6 c.moment) (seat_number c.board.leader) 255
    ∷ (padded 3 255 (map card_number (open_cards c.board.trick))
    ++ (padded 3 255 (map card_number (last_cards c.board.trick))
    ++ (cards ∷ []))))))))))

-- Bytes 18 to 29 are the seat's cards, 30 to 39 a hand that lies open, 40 and 41 the put cards that the seat may see.
unfoldable pub bytes_of : Common → List Bool → List Bool → List Bool → List ℕ
bytes_of c hand shown put =
    head_bytes c (length (marked hand)) ++ (padded 12 255 (marked hand) ++ (padded 10 255 (marked shown) ++ padded 2 255 (marked put)))

-- The declarer's hand lies open after announcing ouvert.
abbrev pub shown_in : Contract → List Pile → List Bool
shown_in Undecided piles = []
shown_in (Won seat) piles = []
shown_in (SkatTaken seat) piles = []
shown_in (Announced a) piles = cond (is_ouvert a.level) (holding a.declarer piles) []

-- The put cards are seen by the declarer alone, until the announcement.
abbrev pub put_seen_by : Seat → Common → List Pile → List Bool
put_seen_by seat c piles = cond (is_at 5 c.moment && is_declarer c.contract seat) (skat_of piles) []

abbrev pub sight_of : Deal → Seat → List ℕ
sight_of deal seat =
    bytes_of deal.common (holding seat deal.piles) (shown_in deal.common.contract deal.piles) (put_seen_by seat deal.common deal.piles)

-- A sight into a buffer of some length, for the seat of a number: what is refused, what is answered, and the buffer after it.
abbrev pub sight_refusal : Option Seat → ℕ → Option Refusal
sight_refusal None room = Some NoSuchSeat
sight_refusal (Some seat) room = cond (nat_lt room sight_length) (Some BufferTooShort) None

abbrev pub seen_by : Deal → Option Seat → ℕ → Result (List ℕ) Refusal
seen_by deal None room = answered (sight_refusal None room) []
seen_by deal (Some seat) room = answered (sight_refusal (Some seat) room) (sight_of deal seat)

abbrev pub buffer_after : Deal → Option Seat → List ℕ → List ℕ
buffer_after deal None buffer = buffer
buffer_after deal (Some seat) buffer = cond (nat_lt (length buffer) sight_length) buffer (sight_of deal seat ++ drop sight_length buffer)
