use Rattle.std.proofs.Common.{◌≡◌, ◌≤◌, take, count_by}
use Rattle.ranking.specs.Standings.{has_ahead}
use Rattle.ranking.proofs.standings.rank.Given as goal

abbrev pub invariant-loop-other : goal.invariant-loop-other
invariant-loop-other l = (l.ahead ≤ l.other-index) × (l.ahead ≡ count_by (has_ahead l.entry) (take l.other-index l.entries))
