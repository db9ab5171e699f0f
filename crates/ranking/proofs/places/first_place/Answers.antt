use Rattle.std.proofs.Common.{List, ◌∙◌, subst}
use Rattle.ranking.specs.declared.standings.Entry.{Entry}
use Rattle.ranking.specs.Standings.{EarliestOfRankOne}
use Rattle.ranking.proofs.places.first_place.Goals as goal

pub returns-clause-rank : goal.returns-clause-rank
returns-clause-rank c =
    let P : List Entry → Type 0 = λ entries. EarliestOfRankOne entries c.unwrap.result in
    let found = rw c.unwrap.ensures at c.first_entry.ensures in
    subst P (c.as_slice.ensures.value ∙ c.entries.ensures) found.1
