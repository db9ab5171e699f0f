-- What a seat may know of a run, and what it was answered.
use Rattle.std.specs.Prelude.{◌≡◌, Bool, true, false, cond, ◌||◌, List, [], ◌∷◌, ◌++◌, Some, None, Option}
use Rattle.cards.specs.declared.deck.Card.{Card}
use Rattle.cards.specs.declared.seats.Seat.{Seat}
use Rattle.cards.specs.Seats.{seat_at}
use Rattle.kinds.specs.Meanings.{Meaning}
use Rattle.rules.specs.declared.calls.Call.{Call}
use Rattle.rules.specs.declared.calls.Call.TheVariants.{Bid, Hold, Pass, Take, Put, Announce, Play}
use Rattle.rules.specs.declared.deals.Deal.{Deal}
use Rattle.rules.specs.declared.deals.Pile.{Pile}
use Rattle.runs.specs.declared.requests.Answer.{Answer}
use Rattle.runs.specs.declared.requests.Request.{Request}
use Rattle.runs.specs.declared.requests.Request.TheVariants.{Act, Sight, Permitted, Result}
use Rattle.rules.specs.Announcing.{level_at, is_ouvert}
use Rattle.rules.specs.Board.{is_the}
use Rattle.rules.specs.Dealing.{start}
use Rattle.rules.specs.Piles.{is_seat, holding, skat_of}
use Rattle.rules.specs.Refusing.{is_accepted}
use Rattle.rules.specs.Results.{is_settled}
use Rattle.runs.specs.Runs.{after, answer, accepted}

-- Whether a request is this seat's own. The result is no seat's.
abbrev pub is_own : Seat → Request → Bool
is_own seat (Act number call) = is_the (seat_at number) seat
is_own seat (Sight number room) = is_the (seat_at number) seat
is_own seat (Permitted number) = is_the (seat_at number) seat
is_own seat Result = false

-- All answers to this seat's own requests, up to and with the one that settles the deal.
abbrev pub got : Meaning → Seat → Deal → List Request → List (Option Answer)
got m seat deal [] = []
got m seat deal (request ∷ run) =
    cond (is_settled deal) []
    (cond (is_own seat request) (answer m None deal request ∷ got m seat (after m deal request) run) (got m seat (after m deal request) run))

-- What is kept of a run for a seat: a request of its own, as it was made and with no mark of its answer; another seat's accepted call;
-- another's announcement of ouvert, with the hand that it lays open; that another put two cards away, but not which.
pub data Kept : Type 0 where
  own : Request → Kept
  others : Seat → Call → Kept
  opens : Seat → Call → List Bool → Kept
  puts : Seat → Kept

abbrev pub kept_call : Seat → Call → List Pile → Kept
kept_call other (Bid value) piles = others other (Bid value)
kept_call other Hold piles = others other Hold
kept_call other Pass piles = others other Pass
kept_call other Take piles = others other Take
kept_call other (Put a b) piles = puts other
kept_call other (Announce game level) piles =
    cond (is_ouvert (level_at level)) (opens other (Announce game level) (holding other piles)) (others other (Announce game level))
kept_call other (Play card) piles = others other (Play card)

abbrev pub kept_other : Meaning → Deal → Option Seat → Call → List Kept
kept_other m deal None call = []
kept_other m deal (Some other) call = cond (is_accepted m deal other call) (kept_call other call deal.piles ∷ []) []

abbrev pub kept_others : Meaning → Deal → Request → List Kept
kept_others m deal (Act number call) = kept_other m deal (seat_at number) call
kept_others m deal (Sight number room) = []
kept_others m deal (Permitted number) = []
kept_others m deal Result = []

abbrev pub kept : Meaning → Seat → Deal → List Request → List Kept
kept m seat deal [] = []
kept m seat deal (request ∷ run) =
    cond (is_own seat request) (own request ∷ []) (kept_others m deal request) ++ kept m seat (after m deal request) run

-- Whether this seat took the skat, by the accepted calls.
abbrev pub is_take_by : Seat → Seat × Call → Bool
is_take_by seat (other, Bid value) = false
is_take_by seat (other, Hold) = false
is_take_by seat (other, Pass) = false
is_take_by seat (other, Take) = is_seat other seat
is_take_by seat (other, Put a b) = false
is_take_by seat (other, Announce game level) = false
is_take_by seat (other, Play card) = false

abbrev pub took : Seat → List (Seat × Call) → Bool
took seat [] = false
took seat (made ∷ calls) = is_take_by seat made || took seat calls

-- Two runs are alike for a seat if it is dealt the same ten cards, what is kept of them for it is the same, and, if it takes the skat in both, so are the skats.
pub record Alike (m : Meaning) (seat : Seat) (pack pack' : List Card) (run run' : List Request) : Type 0 where
  pub hands : holding seat (start pack).piles ≡ holding seat (start pack').piles
  pub keeps : kept m seat (start pack) run ≡ kept m seat (start pack') run'
  pub skats : took seat (accepted m (start pack) run) ≡ true → took seat (accepted m (start pack') run') ≡ true → skat_of (start pack).piles ≡ skat_of (start pack').piles
