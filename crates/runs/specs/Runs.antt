-- Runs: any list of the ten calls, by any numbers, on one table newly set.
use Rattle.std.specs.Prelude.{cond, List, [], ◌∷◌, Some, None, Option}
use Rattle.cards.specs.declared.seats.Seat.{Seat}
use Rattle.cards.specs.Refusals.{answered}
use Rattle.cards.specs.Seats.{seat_at}
use Rattle.kinds.specs.Meanings.{Meaning}
use Rattle.rules.specs.declared.calls.Call.{Call}
use Rattle.rules.specs.declared.deals.Deal.{Deal}
use Rattle.runs.specs.declared.requests.Answer.{Answer}
use Rattle.runs.specs.declared.requests.Answer.TheVariants.{Acted, Saw, May, Counted}
use Rattle.runs.specs.declared.requests.Request.{Request}
use Rattle.runs.specs.declared.requests.Request.TheVariants.{Act, Sight, Permitted, Result}
use Rattle.rules.specs.Permitted.{permitted_by}
use Rattle.rules.specs.Refusing.{refusal_by, is_accepted}
use Rattle.worth.specs.Rated.{Worth}
use Rattle.rules.specs.Results.{result_of}
use Rattle.rules.specs.Sight.{seen_by}
pub use Rattle.rules.specs.Steps.{after_call}

-- The deal after a request: only an acting call changes it.
abbrev pub after : Meaning → Deal → Request → Deal
after m deal (Act number call) = after_call m deal (seat_at number) call
after m deal (Sight number room) = deal
after m deal (Permitted number) = deal
after m deal Result = deal

-- The deal at the end of a run.
abbrev pub ended : Meaning → Deal → List Request → Deal
ended m deal [] = deal
ended m deal (request ∷ run) = ended m (after m deal request) run

-- What is answered to a request, where there is a worth; without one the result is not called.
abbrev pub result_answer : Option Worth → Deal → Option Answer
result_answer None deal = None
result_answer (Some worth) deal = Some (Counted (result_of worth deal))

abbrev pub answer : Meaning → Option Worth → Deal → Request → Option Answer
answer m worth deal (Act number call) = Some (Acted (answered (refusal_by m deal (seat_at number) call) tt))
answer m worth deal (Sight number room) = Some (Saw (seen_by deal (seat_at number) room))
answer m worth deal (Permitted number) = Some (May (permitted_by m deal (seat_at number)))
answer m worth deal Result = result_answer worth deal

-- The answers of a run, one for each request.
abbrev pub answers : Meaning → Option Worth → Deal → List Request → List (Option Answer)
answers m worth deal [] = []
answers m worth deal (request ∷ run) = answer m worth deal request ∷ answers m worth (after m deal request) run

-- The acting calls of a run that were accepted, in their order, each with its seat.
abbrev pub accepted_by : Meaning → Deal → Option Seat → Call → List (Seat × Call) → List (Seat × Call)
accepted_by m deal None call rest = rest
accepted_by m deal (Some seat) call rest = cond (is_accepted m deal seat call) ((seat, call) ∷ rest) rest

abbrev pub accepted_in : Meaning → Deal → Request → List (Seat × Call) → List (Seat × Call)
accepted_in m deal (Act number call) rest = accepted_by m deal (seat_at number) call rest
accepted_in m deal (Sight number room) rest = rest
accepted_in m deal (Permitted number) rest = rest
accepted_in m deal Result rest = rest

abbrev pub accepted : Meaning → Deal → List Request → List (Seat × Call)
accepted m deal [] = []
accepted m deal (request ∷ run) = accepted_in m deal request (accepted m (after m deal request) run)
