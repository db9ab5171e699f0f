use Rattle.std.proofs.Common.{None, rules}
use Rattle.table.proofs.tables.Table.run.Goals as goal

pub returns : goal.returns
returns g c = c.play_run.ensures None (λ table answer gives. search rules)
