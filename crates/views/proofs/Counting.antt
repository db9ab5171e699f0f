-- The eyes of a side, card by card, for `eyes_where`.
use Rattle.std.proofs.Common.{◌≡◌, ℕ, ◌+◌, ◌<◌, ◌≤◌, Bool, true, false, cond, List, [], ◌∷◌, length, map, get_or, take, sum_by, sym, refl, ap, ◌∙◌, arith}
use Rattle.std.specs.List.{range_with_len}
use Rattle.std.proofs.lemmas.List.FromFn.{get_or-map-range_with_len}
use Rattle.std.proofs.lemmas.List.{take_all}
use Rattle.std.proofs.lemmas.List.Sums.{sum_by-cons, sum_by_more, sum_by-take-le}
use Rattle.cards.specs.declared.deck.Card.{Card}
use Rattle.cards.specs.Deck.{card_at, eyes_of}
use Rattle.cards.proofs.Cardinals.{number_at}
use Rattle.rules.specs.declared.deals.Pile.{Pile}
use Rattle.rules.specs.declared.deals.Pile.TheVariants.{InSkat}
use Rattle.rules.specs.Piles.{deck, eyes_where, pile_in}

module _ (counts : Pile → Bool) (piles : List Pile) where
  abbrev eyes_here : Card → ℕ
  eyes_here card = cond (counts (pile_in piles card)) (eyes_of card) 0

  -- the eyes of the cards whose numbers are below n
  unfoldable pub eyes_below : ℕ → ℕ
  eyes_below n = sum_by eyes_here (take n deck)

  pub eyes_none : 0 ≡ eyes_below 0
  unfolding eyes_below
  eyes_none = refl

  pub eyes_all : (n : ℕ) → 32 ≤ n → eyes_below n ≡ eyes_where counts (pile_in piles)
  unfolding eyes_below deck
  eyes_all n end = ap (sum_by eyes_here) (take_all n deck end)

  -- a card and its pile, as they stand in the lists of all
  module _ (cards : List Card) (all : cards ≡ map card_at (range_with_len 0 32)) (long : length piles ≡ 32) (n : ℕ) (low : n < 32) (pile : Pile) (lies : pile ≡ get_or piles n InSkat) (card : Card) (named : card ≡ get_or cards n (card_at 0)) where
    more : (counted : Bool) → counted ≡ counts pile → eyes_below (n + 1) ≡ eyes_below n + cond counted (eyes_of card) 0
    unfolding eyes_below deck
    more counted is =
        let at : get_or deck n (card_at 0) ≡ card_at n = get_or-map-range_with_len card_at 0 32 n n (card_at 0) low (omega arith) in
        let here : card ≡ card_at n = named ∙ (ap (λ cs. get_or cs n (card_at 0)) all ∙ at) in
        let there : pile ≡ pile_in piles (card_at n) = lies ∙ ap (λ k. get_or piles k InSkat) (sym (number_at n low)) in
        sum_by_more eyes_here deck n (card_at 0) low
        ∙ ap (λ k. sum_by eyes_here (take n deck) + k)
        (ap eyes_here at
        ∙ sym ((λ i. cond ((is ∙ ap counts there) i) (eyes_of (here i)) 0)))

    pub eyes_yes : true ≡ counts pile → eyes_below (n + 1) ≡ eyes_below n + eyes_of card
    eyes_yes is = more true is

    pub eyes_no : false ≡ counts pile → eyes_below (n + 1) ≡ eyes_below n
    eyes_no is = omega (arith, more false is)

  most : (cards : List Card) → sum_by eyes_here cards ≤ sum_by eyes_of cards
  most [] = omega arith
  most (card ∷ cards) = omega (arith, sum_by-cons eyes_here card cards, sum_by-cons eyes_of card cards, most cards, here (counts (pile_in piles card)))
    where
      here : (b : Bool) → cond b (eyes_of card) 0 ≤ eyes_of card
      here true = omega arith
      here false = omega arith

  -- there are 120 eyes in all
  pub eyes_most : (n : ℕ) → eyes_below n ≤ 120
  unfolding eyes_below deck
  eyes_most n =
      let all : sum_by eyes_of deck ≡ 120 = refl in
      omega (arith, sum_by-take-le eyes_here deck n, most deck, all)
