use Rattle.views.proofs.Permitting.{permitted_some, permitted_none}
use Rattle.views.proofs.permitted.permitted.Goals as goal

pub returns-then-not-is_to_play : goal.returns-then-not-is_to_play
returns-then-not-is_to_play g c =
    permitted_none (g.K.Kind.meaning c.args.kind.now) c.args.deal.now c.in-Ok.seat c.args.seat c.in-Ok.ensures c.is_to_play.result c.is_to_play.ensures c.if-not-is_to_play.true

pub returns : goal.returns
returns g c =
    permitted_some (g.K.Kind.meaning c.args.kind.now) c.args.deal.now c.in-Ok.seat c.args.seat c.in-Ok.ensures c.is_to_play.result c.class_to_serve-class.result c.playable.result c.is_to_play.ensures c.if-not-is_to_play.false
    c.class_to_serve-class.ensures c.playable.ensures
