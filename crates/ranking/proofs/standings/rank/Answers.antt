use Rattle.std.proofs.Common.{arith}
use Rattle.std.proofs.lemmas.List.{take_all}
use Rattle.std.proofs.lemmas.List.Sums.{count_by_more_yes, count_by_more_no}
use Rattle.ranking.specs.Standings.{has_ahead}
use Rattle.ranking.proofs.standings.rank.Goals as goal

pub loop-other-preserved : goal.loop-other-preserved
loop-other-preserved c =
    let test = has_ahead c.in_ok-entry.entry.now in
    grind (arith, count_by_more_yes test, count_by_more_no test)

pub returns : goal.returns
returns c = grind (arith, take_all)
