-- A whole run: the answers that it gets, the deal that it ends in, and the law that it keeps.
use Rattle.std.specs.Prelude.{◌≡◌, List, Option}
use Rattle.cards.specs.declared.deck.Card.{Card}
use Rattle.kinds.specs.Meanings.{Meaning}
use Rattle.worth.specs.Rated.{Worth}
use Rattle.rules.specs.declared.deals.Deal.{Deal}
use Rattle.rules.specs.Dealing.{start}
use Rattle.runs.specs.declared.requests.Answer.{Answer}
use Rattle.runs.specs.Law.{Law}
use Rattle.runs.specs.Runs.{answers, ended, result_answer}
use Rattle.table.specs.declared.asked.Asked.{Asked}
use Rattle.table.specs.declared.tables.Table.{Table}
use Rattle.table.specs.Lines.{requests_in, answers_in}

-- The requests before it are played on a table newly set from a pack: they stay, the answers stand beside them, and the deal is where the run ends, which keeps the law.
pub record Plays (m : Meaning) (worth : Option Worth) (pack : List Card) (before behind : List Asked) (end : Deal) : Type 0 where
  pub requests : requests_in behind ≡ requests_in before
  pub answers : answers_in behind ≡ answers m worth (start pack) (requests_in before)
  pub deal : end ≡ ended m (start pack) (requests_in before)
  pub law : Law m pack (requests_in before)

-- What is given at any table for its result is the answer under this worth, or without one.
abbrev pub CountsBy : Option Worth → (Table → Option Answer → Type 0) → Type 0
CountsBy worth gives = (table : Table) (answer : Option Answer) → gives table answer → answer ≡ result_answer worth table.deal
