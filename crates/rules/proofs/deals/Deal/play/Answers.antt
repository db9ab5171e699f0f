use Rattle.std.proofs.Common.{◌≡◌, map, set, rules}
use Rattle.std.proofs.lemmas.List.Edits.{map_over_more}
use Rattle.std.proofs.lemmas.List.{take_all, drop_all}
use Rattle.cards.proofs.Cardinals.{card_back}
use Rattle.rules.specs.declared.deals.Pile.TheVariants.{InTrick}
use Rattle.rules.specs.Steps.{gathered, next, moved}
use Rattle.rules.proofs.Moves.{filled}
use Rattle.rules.proofs.deals.Deal.play.Goals as goal

pub loop-pile-preserved : goal.loop-pile-preserved
loop-pile-preserved g c = search (rules, map_over_more (gathered c.is_declarer-by_declarer.result))

pub returns-in-Empty : goal.returns-in-Empty
unfolding next moved
returns-in-Empty g c = let named = card_back c.args.card in search rules

pub returns-in-One : goal.returns-in-One
unfolding next moved
returns-in-One g c = let named = card_back c.args.card in search rules

pub returns-after-loop-pile : goal.returns-after-loop-pile
returns-after-loop-pile g c =
    let piles : c.loop-pile.pile-items ≡ map (gathered c.is_declarer-by_declarer.result) (set c.args.self.now.piles c.place_of.result InTrick) = search (rules, take_all, drop_all) in
    filled (g.K.Kind.meaning c.args.kind.now) c.args.self.now c.args.seat c.args.card c.in-Two.a c.in-Two.b c.in-Two.is c.fills-self.result c.loop-pile.pile-items c.place_of.result c.place_of.ensures.number c.taking_seat-taker.result c.taking_seat-taker.ensures c.is_declarer-by_declarer.result c.is_declarer-by_declarer.ensures piles c.fills-self.ensures
