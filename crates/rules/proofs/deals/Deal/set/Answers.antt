use Rattle.std.proofs.Common.{◌≡◌, length, rules}
use Rattle.cards.specs.declared.dealing.Dealt.TheVariants.{Hand}
use Rattle.cards.specs.declared.seats.Seat.TheVariants.{Forehand}
use Rattle.rules.specs.declared.deals.Pile.TheVariants.{InSkat}
use Rattle.rules.specs.Dealing.{pile_for}
use Rattle.rules.proofs.Mapping.{mapped}
use Rattle.rules.proofs.Positions.{starts}
use Rattle.rules.proofs.deals.Deal.set.Goals as goal

pub returns : goal.returns
returns c =
    let cards : length c.args.pack.cards ≡ 32 = search rules in
    let dealt : length c.deal-dealt.result ≡ 32 = search rules in
    starts c.args.pack.cards (cards, c.args.pack.once) c.deal-dealt.result dealt c.deal-dealt.ensures c.opening.result c.from_fn.result c.opening.ensures
    (mapped _ pile_for c.deal-dealt.result (Hand Forehand) _ (λ i pile q called. (search rules, search rules)) c.from_fn.result 32 InSkat dealt c.from_fn.ensures.items)
