use Rattle.std.proofs.Common.{◌≡◌, ◌+◌, ◌<◌, true, length, sym, refl, ◌∙◌, arith, rules}
use Rattle.std.proofs.lemmas.List.{length_push}
use Rattle.std.proofs.lemmas.Slice.Zip.{zip_turn, zip_end}
use Rattle.cards.specs.Deck.{card_at}
use Rattle.rules.specs.declared.deals.Pile.TheVariants.{InSkat}
use Rattle.views.proofs.Counting.{eyes_none, eyes_yes, eyes_no, eyes_most, eyes_all}
use Rattle.views.proofs.results.eyes_where.Goals as goal

pub loop-pile-init : goal.loop-pile-init
loop-pile-init g c = record { bounded = omega arith; exact = λ test says. eyes_none test c.args.piles.now }

pub overflow_add-eyes : goal.overflow_add-eyes
overflow_add-eyes g c =
    let l = c.loop-pile in
    let piles = c.args.piles.now in
    let turn = zip_turn c.args.piles.now c.deck-deck.result l.yielded _ l.pile-iterator c.next.new.self c.next.result (search rules) (search rules) l.yielded_by _ c.in-Some.is c.next.ensures.steps in
    let all = eyes_yes (λ _. true) piles c.deck-deck.result c.deck-deck.ensures c.told-piles (length l.yielded) (omega (arith, turn.0)) c.in-Some.pile.now (turn.2 InSkat) c.in-Some.card.now (turn.3 (card_at 0)) refl in
    omega (arith, all, eyes_most (λ _. true) piles (length l.yielded + 1), l.invariant.bounded, c.eyes-eyes.ensures)

pub loop-pile-preserved-then-counts : goal.loop-pile-preserved-then-counts
loop-pile-preserved-then-counts g c =
    let l = c.loop-pile in
    let piles = c.args.piles.now in
    let turn = zip_turn c.args.piles.now c.deck-deck.result l.yielded _ l.pile-iterator c.next.new.self c.next.result (search rules) (search rules) l.yielded_by _ c.in-Some.is c.next.ensures.steps in
    let low : length l.yielded < 32 = omega (arith, turn.0) in
    let all = eyes_yes (λ _. true) piles c.deck-deck.result c.deck-deck.ensures c.told-piles (length l.yielded) low c.in-Some.pile.now (turn.2 InSkat) c.in-Some.card.now (turn.3 (card_at 0)) refl in
    rw length_push (record {
      bounded = omega (arith, all, l.invariant.bounded, c.eyes-eyes.ensures);
      exact = λ test says.
          let more = eyes_yes test piles c.deck-deck.result c.deck-deck.ensures c.told-piles (length l.yielded) low c.in-Some.pile.now (turn.2 InSkat) c.in-Some.card.now (turn.3 (card_at 0)) (sym c.if-counts.true ∙ says _ _ c.counts.ensures) in
          omega (arith, more, l.invariant.exact test says, c.eyes-eyes.ensures);
    })

pub loop-pile-preserved : goal.loop-pile-preserved
loop-pile-preserved g c =
    let l = c.loop-pile in
    let piles = c.args.piles.now in
    let turn = zip_turn c.args.piles.now c.deck-deck.result l.yielded _ l.pile-iterator c.next.new.self c.next.result (search rules) (search rules) l.yielded_by _ c.in-Some.is c.next.ensures.steps in
    let low : length l.yielded < 32 = omega (arith, turn.0) in
    let all = eyes_yes (λ _. true) piles c.deck-deck.result c.deck-deck.ensures c.told-piles (length l.yielded) low c.in-Some.pile.now (turn.2 InSkat) c.in-Some.card.now (turn.3 (card_at 0)) refl in
    rw length_push (record {
      bounded = omega (arith, all, l.invariant.bounded);
      exact = λ test says.
          l.invariant.exact test says
          ∙ sym (eyes_no test piles c.deck-deck.result c.deck-deck.ensures c.told-piles (length l.yielded) low c.in-Some.pile.now (turn.2 InSkat) c.in-Some.card.now (turn.3 (card_at 0)) (sym c.if-counts.false ∙ says _ _ c.counts.ensures));
    })

pub returns : goal.returns
returns g c =
    let l = c.loop-pile in
    let end = zip_end c.args.piles.now c.deck-deck.result l.yielded _ l.pile-iterator c.next.new.self c.next.result (search rules) (search rules) l.yielded_by c.in-None.is c.next.ensures.steps in
    let many : length c.deck-deck.result ≡ 32 = search rules in
    λ test says. l.invariant.exact test says ∙ eyes_all test c.args.piles.now (length l.yielded) (omega (arith, end, many, c.told-piles))
