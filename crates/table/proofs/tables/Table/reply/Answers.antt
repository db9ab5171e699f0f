use Rattle.std.proofs.Common.{sym, refl, ap, ◌∙◌}
use Rattle.std.proofs.lemmas.Fn.{says_at}
use Rattle.runs.specs.Runs.{answer}
use Rattle.table.proofs.tables.Table.reply.Goals as goal

pub returns-in-Result-clause-answer : goal.returns-in-Result-clause-answer
returns-in-Result-clause-answer g c = λ worth counts.
    counts c.args.self.now c.counted.result (says_at g.F.Fn c.counted.ensures refl)
    ∙ ap (answer (g.K.Kind.meaning c.args.kind.now) worth c.args.self.now.deal) (sym c.in-Result.is)
