use Rattle.rules.specs.Piles.{is_declarers, is_defenders}
use Rattle.rules.specs.Results.{finished_with}
use Rattle.views.proofs.results.finished.Goals as goal

pub returns : goal.returns
returns c =
    let ours = c.eyes_where.ensures is_declarers (λ pile yes says. says.1) in
    let theirs = c.eyes_where-2.ensures is_defenders (λ pile yes says. says.1) in
    λ i. finished_with c.args.announcement c.args.bid (ours i) (theirs i) c.args.deal.now.common.board.taken
