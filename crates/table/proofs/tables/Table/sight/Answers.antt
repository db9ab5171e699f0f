use Rattle.std.proofs.Common.{refl}
use Rattle.runs.proofs.Lawfully.{continues}
use Rattle.table.proofs.tables.Table.sight.Goals as goal

pub returns-clause-law : goal.returns-clause-law
returns-clause-law g c = continues _ _ _ _ (g.met.K.Kind.apart c.args.kind.now) refl
