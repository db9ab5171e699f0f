use Rattle.std.proofs.Common.{◌≡◌, ◌≤◌, take}
use Rattle.series.specs.Format.{games}
use Rattle.series.proofs.writing.count_games.Given as goal

abbrev pub invariant-loop-row : goal.invariant-loop-row
invariant-loop-row l = (l.games ≤ l.row-index) × (l.games ≡ games (take l.row-index l.rows))
