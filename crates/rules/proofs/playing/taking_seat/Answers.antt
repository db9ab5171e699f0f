use Rattle.std.proofs.Common.{arith}
use Rattle.rules.proofs.Taking.{takes_first, takes_second, takes_third}
use Rattle.rules.proofs.playing.taking_seat.Goals as goal

pub returns-in-0 : goal.returns-in-0
returns-in-0 g c =
    takes_first (g.K.Kind.meaning c.args.kind.now) c.args.leader c.args.a c.args.b c.args.c c.taker.result (c.taker.ensures.first c.args.a) c.in-0.is

pub returns-in-1 : goal.returns-in-1
returns-in-1 g c =
    takes_second (g.K.Kind.meaning c.args.kind.now) c.args.leader c.args.a c.args.b c.args.c c.taker.result (c.taker.ensures.first c.args.a) c.in-1.is c.seat_after.result c.seat_after.ensures

pub returns-in_default : goal.returns-in_default
returns-in_default g c =
    takes_third (g.K.Kind.meaning c.args.kind.now) c.args.leader c.args.a c.args.b c.args.c c.taker.result (c.taker.ensures.first c.args.a) (omega arith) c.seat_after-in_default.result c.seat_after-in_default-2.result c.seat_after-in_default.ensures c.seat_after-in_default-2.ensures
