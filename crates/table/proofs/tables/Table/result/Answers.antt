use Rattle.std.proofs.Common.{refl}
use Rattle.runs.proofs.Lawfully.{continues, counts}
use Rattle.table.proofs.tables.Table.result.Goals as goal

pub returns-clause-law : goal.returns-clause-law
returns-clause-law g c = continues _ _ _ _ (g.met.K.Kind.apart c.args.kind.now) refl

pub returns-clause-worth : goal.returns-clause-worth
returns-clause-worth g c =
    counts _ (g.K.RatedKind.rated c.args.kind.now) _ _ c.result.ensures
