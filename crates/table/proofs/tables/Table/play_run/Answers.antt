use Rattle.std.proofs.Common.{ap, ◌∙◌, arith}
use Rattle.runs.specs.Runs.{answers, ended}
use Rattle.runs.proofs.Lawfully.{every_run}
use Rattle.table.specs.Lines.{requests_in}
use Rattle.table.proofs.Answering.{answered_more, all_reached, all_answered}
use Rattle.table.proofs.tables.Table.play_run.Goals as goal

pub loop-line-preserved : goal.loop-line-preserved
loop-line-preserved g c =
    answered_more (g.K.Kind.meaning c.args.kind.now) _ c.set-table.result.deal c.args.asked.now c.loop-line.line-index
    c.loop-line.table.deal c.loop-line.asked c.loop-line.invariant _ c.reply-line.new.self.deal c.reply-line.result
    (omega (arith, c.loop-line-test.true, c.loop-line.auto.asked)) c.reply-line.ensures.deal c.reply-line.ensures.answer

pub returns : goal.returns
returns g c = λ worth counts.
    let m = g.K.Kind.meaning c.args.kind.now in
    let rs = requests_in c.args.asked.now in
    let inv = c.loop-line.invariant in
    record {
      requests = inv.requests;
      answers =
          all_answered _ _ _ _ c.loop-line.line-index _ _ inv c.loop-line-test.false (omega (arith, c.loop-line-test.false, c.loop-line.auto.asked)) worth counts
          ∙ ap (λ d. answers m worth d rs) c.set-table.ensures.deal;
      deal = all_reached _ _ _ _ c.loop-line.line-index _ _ inv c.loop-line-test.false ∙ ap (λ d. ended m d rs) c.set-table.ensures.deal;
      law = every_run _ _ rs (g.met.K.Kind.apart c.args.kind.now) c.set-table.ensures.whole;
    }
