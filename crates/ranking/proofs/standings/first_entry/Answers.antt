use Rattle.cards.specs.First.{IsFirst}
use Rattle.ranking.specs.Standings.{is_ahead, EarliestOfRankOne}
use Rattle.ranking.proofs.Leading.{earliest_of_rank_one, cases_more}
use Rattle.ranking.proofs.standings.first_entry.Goals as goal

pub returns : goal.returns
returns c =
    let entries = c.args.entries.now in
    cases_more c.first.result _ (IsFirst is_ahead entries) (λ i. IsFirst is_ahead entries i × EarliestOfRankOne entries i) (λ i h. (h, earliest_of_rank_one entries i h)) c.first.ensures
