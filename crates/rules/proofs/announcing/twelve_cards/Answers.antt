use Rattle.std.proofs.Common.{◌≡◌, ◌+◌, ◌<◌, take, ap, arith, length, rules, ◌∙◌}
use Rattle.std.proofs.lemmas.Iterator.{YieldsList-from_slice, YieldsList-from_zip, YieldsList-from_take}
use Rattle.std.proofs.lemmas.Iterator.Consumers.{YieldsList-at, YieldsList-from_filter, YieldsList-from_enumerate}
use Rattle.std.proofs.lemmas.List.{length-take}
use Rattle.std.proofs.lemmas.List.FromFn.{length-enumerate_from, get_or-enumerate_from}
use Rattle.std.specs.List.{zip, filter}
use borrow.Author.Tests.{tests}
use Rattle.cards.specs.Deck.{card_at}
use Rattle.rules.proofs.Listing.{is_own, filled_next, listed_all, turn_on, end_on}
use Rattle.rules.proofs.announcing.twelve_cards.Goals as goal

pub loop-place-preserved : goal.loop-place-preserved
loop-place-preserved c =
    let l = c.loop-place in
    let own = filter (is_own c.args.seat) (zip c.args.piles.now c.deck-deck.result) in
    let turn = turn_on l.yielded l.place-iterator l.yielded_by
    (YieldsList-at c.into_iter-place-iterator.ensures.into_iter_gives (YieldsList-from_enumerate (YieldsList-at c.enumerate-place-items.ensures.source (YieldsList-from_take 12 (YieldsList-at c.take.ensures.source (YieldsList-from_filter _ (is_own c.args.seat) (YieldsList-from_zip (YieldsList-from_slice c.args.piles.now (search rules)) (YieldsList-from_slice c.deck-deck.result (search rules))) c.filter-own.ensures.closure (λ x b q k. search (rules, tests)))) c.take.ensures.count)) c.enumerate-place-items.ensures.count))
    c.next.result c.next.new.self _ c.in-Some.is c.next.ensures.steps in
    let short : length l.yielded < length (take 12 own) = omega (arith, turn.0, length-enumerate_from 0 (take 12 own)) in
    let numbered : c.in-Some.place ≡ 0 + length l.yielded = ap (λ p. p.0) (turn.1 ∙ get_or-enumerate_from 0 (take 12 own) (length l.yielded) _ short) in
    let place : c.in-Some.place ≡ length l.yielded = omega arith in
    filled_next (card_at 0) (λ item. item.1.1.now) 12 l.yielded (c.in-Some.place, (c.in-Some.field-0-1-0, c.in-Some.card)) c.in-Some.place l.twelve place (omega (arith, short, length-take 12 own)) l.invariant

pub returns : goal.returns
returns c =
    let l = c.loop-place in
    let end = end_on l.yielded l.place-iterator l.yielded_by
    (YieldsList-at c.into_iter-place-iterator.ensures.into_iter_gives (YieldsList-from_enumerate (YieldsList-at c.enumerate-place-items.ensures.source (YieldsList-from_take 12 (YieldsList-at c.take.ensures.source (YieldsList-from_filter _ (is_own c.args.seat) (YieldsList-from_zip (YieldsList-from_slice c.args.piles.now (search rules)) (YieldsList-from_slice c.deck-deck.result (search rules))) c.filter-own.ensures.closure (λ x b q k. search (rules, tests)))) c.take.ensures.count)) c.enumerate-place-items.ensures.count))
    c.next.result c.next.new.self c.in-None.is c.next.ensures.steps in
    let long : length c.args.piles.now ≡ 32 = search rules in
    listed_all c.args.seat _ c.args.piles.now c.deck-deck.result l.yielded l.twelve long c.deck-deck.ensures end.0 l.invariant
