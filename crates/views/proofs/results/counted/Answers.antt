use Rattle.views.proofs.Settling.{bid_of, points_are}
use Rattle.views.proofs.results.counted.Goals as goal

pub returns : goal.returns
returns g c =
    points_are
    (g.K.RatedKind.rated c.args.kind.now)
    c.args.deal.now c.in-Announced.announcement c.in_ok-bid.bid c.in_ok-twelve.twelve c.finished-game.result c.result.result
    c.in-Announced.is (bid_of _ _ _ _ c.in_ok-bid.ensures.value c.try_from.ensures) c.in_ok-twelve.was c.finished-game.ensures c.result.ensures.value
