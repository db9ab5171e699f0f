use Rattle.std.proofs.Common.{false, rules}
use Rattle.cards.specs.declared.seats.Seat.TheVariants.{Forehand}
use Rattle.rules.specs.declared.deals.Pile.TheVariants.{InHand}
use Rattle.rules.specs.Piles.{is_held}
use Rattle.rules.proofs.Mapping.{mapped}
use Rattle.views.proofs.hands.held_marks.Goals as goal

pub returns : goal.returns
returns c = mapped _ (is_held c.args.seat) c.args.piles.now (InHand Forehand) _ (λ i mark q called. (search rules, search rules)) c.from_fn.result 32 false c.told-piles c.from_fn.ensures.items
