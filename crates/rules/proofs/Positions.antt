-- In a cut pack each card stands, so what is dealt by positions is dealt by cards, for `set`.
use Rattle.std.proofs.Common.{◌≡◌, ℕ, suc, ◌<◌, ◌≤◌, Bool, true, false, cond, eqb, List, [], ◌∷◌, map, length, get_or, None, sym, refl, ap, ◌∙◌, arith}
use Rattle.std.proofs.lemmas.List.FromFn.{get_or-map-range_with_len}
use Rattle.std.proofs.lemmas.List.{ext_get_or, get_or-map, length-map}
use Rattle.std.proofs.lemmas.List.Sums.{sum_by-cons}
use Rattle.std.proofs.lemmas.Bool.{eqb-true}
use Rattle.cards.specs.declared.dealing.Dealt.{Dealt}
use Rattle.cards.specs.declared.dealing.Dealt.TheVariants.{Skat}
use Rattle.cards.specs.declared.deck.Card.{Card}
use Rattle.cards.specs.Deck.{card_number, card_at}
use Rattle.cards.specs.Dealing.{receiver, DealtAs}
use Rattle.cards.specs.Packs.{times}
use Rattle.cards.proofs.Cardinals.{same_card, number_at}
use Rattle.rules.specs.declared.deals.Common.{Common}
use Rattle.rules.specs.declared.deals.Deal.{Deal}
use Rattle.rules.specs.declared.deals.Pile.{Pile}
use Rattle.rules.specs.declared.deals.Pile.TheVariants.{InSkat}
use Rattle.rules.specs.Dealing.{IsCutPack, position_of, pile_for, dealt_to, opening, start}
use Rattle.rules.specs.Piles.{deck}

-- a card stands at its position
abbrev Stands : Card → List Card → ℕ → Type 0
Stands card cards position = (position < length cards) × ((d : Card) → get_or cards position d ≡ card)

stands_in : (card top : Card) (rest : List Card) (b : Bool) → eqb (card_number card) (card_number top) ≡ b → (b ≡ false → Stands card rest (position_of card rest)) → Stands card (top ∷ rest) (cond b 0 (suc (position_of card rest)))
stands_in card top rest true same below = (omega arith, λ d. same_card top card (sym (eqb-true _ _ same)))
stands_in card top rest false other below = let deeper = below refl in (omega (arith, deeper.0), deeper.1)

stands : (card : Card) (cards : List Card) → 1 ≤ times (card_number card) (map card_number cards) → Stands card cards (position_of card cards)
stands card [] some = absurd (omega arith)
stands card (top ∷ rest) some =
    stands_in card top rest (eqb (card_number card) (card_number top)) refl
    (λ other.
    let here : ◌≡◌ {A = ℕ} (cond (eqb (card_number card) (card_number top)) 1 0) 0 = ap (λ b. cond b 1 0) other in
    stands card rest (omega (arith, sum_by-cons (λ x. cond (eqb (card_number card) x) 1 0) (card_number top) (map card_number rest))))

-- the card of a number, dealt by its position
module _ (cards : List Card) (pack : IsCutPack cards) (dealt : List Dealt) (long : length dealt ≡ 32) (as-dealt : DealtAs cards dealt) where
  dealt_at : (i : ℕ) → i < 32 → get_or dealt i Skat ≡ receiver (position_of (card_at i) cards)
  dealt_at i small =
      let card = card_at i in
      let standing = stands card cards (omega (arith, pack.1 card)) in
      ap (λ n. get_or dealt n Skat) (sym (ap card_number (standing.1 card) ∙ number_at i small))
      ∙ as-dealt (position_of card cards) card (omega (arith, standing.0, pack.0))

  dealt_piles : map pile_for dealt ≡ map (dealt_to cards) deck
  unfolding deck
  dealt_piles =
      ext_get_or InSkat (map pile_for dealt) (map (dealt_to cards) deck)
      (length-map dealt pile_for ∙ long)
      (λ i within.
      let small : i < 32 = omega (arith, length-map dealt pile_for) in
      get_or-map pile_for dealt i Skat InSkat (omega arith)
      ∙ (ap pile_for (dealt_at i small)
      ∙ sym (get_or-map (dealt_to cards) deck i (card_at 0) InSkat small
      ∙ ap (dealt_to cards) (get_or-map-range_with_len card_at 0 32 i i (card_at 0) small (omega arith)))))

  pub starts : (common : Common) (piles : List Pile) → common ≡ opening → piles ≡ map pile_for dealt → ◌≡◌ {A = Deal} (record { common = common; piles = piles; twelve = None }) (start cards)
  unfolding start
  starts common piles opened laid = λ i. record { common = opened i; piles = (laid ∙ dealt_piles) i; twelve = None }
