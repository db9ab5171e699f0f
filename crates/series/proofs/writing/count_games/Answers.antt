use Rattle.std.proofs.Common.{arith}
use Rattle.std.proofs.lemmas.List.{take_all}
use Rattle.std.proofs.lemmas.List.Sums.{count_by_more_yes, count_by_more_no}
use Rattle.series.specs.Rows.{is_game}
use Rattle.series.proofs.writing.count_games.Goals as goal

pub loop-row-preserved : goal.loop-row-preserved
loop-row-preserved c = grind (arith, count_by_more_yes is_game, count_by_more_no is_game)

pub returns : goal.returns
returns c = grind (arith, take_all)
