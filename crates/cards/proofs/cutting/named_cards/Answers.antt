use Rattle.std.proofs.Common.{◌≤◌, sym, refl, ◌∙◌, arith, rules}
use Rattle.cards.specs.Deck.{card_number}
use Rattle.cards.proofs.Cardinals.{card_below}
use Rattle.cards.proofs.Numbering.{noted_none, noted_twice, noted_names, noted_pack, noted_once}
use Rattle.cards.proofs.cutting.named_cards.Goals as goal

pub loop-i-init : goal.loop-i-init
loop-i-init c = noted_none c.args.numbers.now _ (search rules)

pub returns-then-replace : goal.returns-then-replace
returns-then-replace c = (refl, noted_twice _ _ _ _ c.loop-i.invariant (omega arith) _ refl (sym c.replace.ensures.value ∙ c.if-replace.true))

pub returns : goal.returns
returns c =
    let long = c.if-numbers-ne32.false in
    let end : 32 ≤ c.loop-i.i = omega arith in (
      noted_pack _ _ _ _ c.loop-i.invariant long end,
      noted_names _ _ _ _ c.loop-i.invariant long end,
      (λ card. noted_once _ _ _ _ c.loop-i.invariant long end (card_number card) (card_below card)),
    )
