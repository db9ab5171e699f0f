use Rattle.worth.proofs.Laws.{worth_laws, examples_hold}
use Rattle.worth.proofs.announced.Game.result.Goals as goal

pub returns : goal.returns
returns c = record {
  value = c.result.ensures.value;
  range = c.result.ensures.range;
  laws = λ tops. worth_laws c.args.self tops c.args.finished.now;
  examples = examples_hold;
}
