-- What an acting call does at a table.
use Rattle.std.specs.Prelude.{◌≡◌, ℕ, Result}
use Rattle.cards.specs.declared.refusals.Refusal.{Refusal}
use Rattle.cards.specs.Refusals.{answered}
use Rattle.cards.specs.Seats.{seat_at}
use Rattle.kinds.specs.Meanings.{Meaning}
use Rattle.rules.specs.declared.calls.Call.{Call}
use Rattle.rules.specs.declared.deals.Deal.{Deal}
use Rattle.rules.specs.Refusing.{refusal_by}
use Rattle.rules.specs.Steps.{after_call}
use Rattle.runs.specs.declared.requests.Request.TheVariants.{Act}
use Rattle.runs.specs.Law.{Continues}

-- A call by the seat of a number is answered and moves the deal as the rules say, and continues every run by the law.
pub record Acts (m : Meaning) (before behind : Deal) (number : ℕ) (call : Call) (result : Result (Unit {0}) Refusal) : Type 0 where
  pub answer : result ≡ answered (refusal_by m before (seat_at number) call) (tt {0})
  pub deal : behind ≡ after_call m before (seat_at number) call
  pub law : Continues m before behind (Act number call)
