use Rattle.std.proofs.Common.{◌≡◌, Some, length, ap, ◌∙◌, rules}
use Rattle.runs.specs.Runs.{result_answer}
use Rattle.runs.proofs.Lawfully.{every_result}
use Rattle.table.specs.declared.tables.Table.{Table}
use Rattle.table.specs.Lines.{requests_in}
use Rattle.table.proofs.tables.Table.rated_run.Goals as goal

pub returns-clause-run : goal.returns-clause-run
returns-clause-run g c =
    let worth = Some (g.K.RatedKind.rated c.args.kind.now) in
    c.play_run.ensures worth (λ table answer gives. gives.says.met ∙ ap (λ (t : Table). result_answer worth t.deal) gives.shows)

pub returns-clause-worth : goal.returns-clause-worth
returns-clause-worth g c =
    let long : length c.args.pack.cards ≡ 32 = search rules in
    every_result (g.K.Kind.meaning c.args.kind.now) (g.K.RatedKind.rated c.args.kind.now) _ (requests_in c.args.asked.now) (long, c.args.pack.once)
