use Rattle.std.proofs.Common.{◌≡◌, [], length, rules}
use Rattle.runs.proofs.Lawfully.{every_run}
use Rattle.runs.proofs.Reaching.{reached_new}
use Rattle.table.proofs.tables.Table.set.Goals as goal

pub invariant_of-result : goal.invariant_of-result
invariant_of-result c =
    let long : length c.args.pack.cards ≡ 32 = search rules in
    record { reached = reached_new _ _ (long, c.args.pack.once) c.set-deal.ensures }

pub returns-clause-law : goal.returns-clause-law
returns-clause-law c =
    let long : length c.args.pack.cards ≡ 32 = search rules in
    λ m law. every_run m _ [] law (long, c.args.pack.once)
