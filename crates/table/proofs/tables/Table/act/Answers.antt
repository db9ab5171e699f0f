use Rattle.runs.specs.declared.requests.Request.TheVariants.{Act}
use Rattle.runs.proofs.Lawfully.{continues}
use Rattle.runs.proofs.Reaching.{reached_few, reached_more}
use Rattle.table.proofs.tables.Table.act.Goals as goal

pub act-requires : goal.act-requires
act-requires g c = record { few = reached_few _ c.args.self.now.reached }

pub invariant_of-self : goal.invariant_of-self
invariant_of-self g c = record {
  reached = reached_more (g.K.Kind.meaning c.args.kind.now) (Act c.args.seat c.args.call) _ _ c.args.self.now.reached c.act.ensures.deal;
}

pub returns : goal.returns
returns g c = record {
  answer = c.act.ensures.answer;
  deal = c.act.ensures.deal;
  law = continues _ _ _ (Act c.args.seat c.args.call) (g.met.K.Kind.apart c.args.kind.now) c.act.ensures.deal;
}
