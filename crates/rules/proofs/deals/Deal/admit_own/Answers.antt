use Rattle.rules.specs.Piles.{holding}
use Rattle.rules.proofs.deals.Deal.admit_own.Goals as goal

pub returns-in-Bid : goal.returns-in-Bid
returns-in-Bid g c = rw c.in-Bid.is (c.admit_bid.ensures (g.K.Kind.meaning c.args.kind.now) (holding c.args.seat c.args.self.now.piles))

pub returns-in-Put : goal.returns-in-Put
returns-in-Put g c = rw c.in-Put.is (c.admit_put.ensures (g.K.Kind.meaning c.args.kind.now))

pub returns-in-Announce : goal.returns-in-Announce
returns-in-Announce g c = rw c.in-Announce.is (c.admit_announce.ensures (g.K.Kind.meaning c.args.kind.now) (holding c.args.seat c.args.self.now.piles))
