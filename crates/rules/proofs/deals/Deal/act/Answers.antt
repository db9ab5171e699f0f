use Rattle.std.proofs.lemmas.Result.{err_from_is_err_and}
use Rattle.rules.specs.Acts.{call_of}
use Rattle.rules.specs.Piles.{holding}
use Rattle.rules.proofs.Refused.{in_its_row, refused, accepted}
use Rattle.rules.proofs.Steady.{few_step}
use Rattle.rules.proofs.deals.Deal.act.Goals as goal

pub apply-requires-clause-row : goal.apply-requires-clause-row
apply-requires-clause-row g c =
    in_its_row (g.K.Kind.meaning c.args.kind.now) c.args.self.now.common (holding c.in_ok-seat.seat c.args.self.now.piles) c.in_ok-seat.seat c.args.call c.in_ok-act.act c.in_ok-act.ensures.0 c.in_ok-act.ensures.1

pub returns-in_err-act-clause-answer : goal.returns-in_err-act-clause-answer
returns-in_err-act-clause-answer g c =
    let p = err_from_is_err_and c.from_residual-in_err-act.result c.from_residual-in_err-act.ensures.1 in
    rw p.1 (refused (g.K.Kind.meaning c.args.kind.now) c.args.self.now c.in_ok-seat.seat c.args.seat c.in_ok-seat.ensures c.args.call c.in_err-act.field-0.0 _ c.in_err-act.ensures p.2)

pub returns-clause-deal : goal.returns-clause-deal
returns-clause-deal g c =
    accepted (g.K.Kind.meaning c.args.kind.now) c.args.self.now c.in_ok-seat.seat c.args.seat c.in_ok-seat.ensures c.args.call (call_of c.in_ok-act.act) c.apply.new.self c.in_ok-act.ensures.0 c.in_ok-act.ensures.1 c.apply.ensures

pub returns-clause-few : goal.returns-clause-few
returns-clause-few g c =
    few_step (g.K.Kind.meaning c.args.kind.now) c.args.self.now c.in_ok-seat.seat (call_of c.in_ok-act.act) c.requires.few
    (in_its_row (g.K.Kind.meaning c.args.kind.now) c.args.self.now.common (holding c.in_ok-seat.seat c.args.self.now.piles) c.in_ok-seat.seat c.args.call c.in_ok-act.act c.in_ok-act.ensures.0 c.in_ok-act.ensures.1)
    c.apply.new.self c.apply.ensures
