-- Cards dealt one by one, each to the receiver of its place, for `deal`.
use Rattle.std.proofs.Common.{◌≡◌, ℕ, ◌+◌, ◌<◌, List, map, length, get_or, set, sym, ap, ◌∙◌, arith, below_more}
use Rattle.std.proofs.lemmas.List.{get_or-map, get_or-set_same, get_or-set_other, length-map, length-set}
use Rattle.cards.specs.declared.deck.Card.{Card}
use Rattle.cards.specs.declared.dealing.Dealt.{Dealt}
use Rattle.cards.specs.declared.dealing.Dealt.TheVariants.{Skat}
use Rattle.cards.specs.Deck.{card_number}
use Rattle.cards.specs.Dealing.{receiver}
use Rattle.cards.specs.Packs.{times}
use Rattle.cards.proofs.Cardinals.{card_below}
use Rattle.cards.proofs.Tallies.{apart}

-- the cards above this place are dealt
abbrev pub Sent : List Card → ℕ → List Dealt → Type 0
Sent cards place dealt =
    (length dealt ≡ 32)
    × ((k : ℕ) (d : Card) → k < place → get_or dealt (card_number (get_or cards k d)) Skat ≡ receiver k)

module _ (cards : List Card) (once : (c : Card) → times (card_number c) (map card_number cards) ≡ 1) (long : length cards ≡ 32) where
  pub sent_more : (place : ℕ) (e : Card) (dealt : List Dealt) (x : Dealt) → place < 32 → Sent cards place dealt → x ≡ receiver place → Sent cards (place + 1) (set dealt (card_number (get_or cards place e)) x)
  sent_more place e dealt x lt sofar is =
      let number : ℕ → Card → ℕ = λ k d. card_number (get_or cards k d) in
      let read : (k : ℕ) (d : Card) → k < 32 → get_or (map card_number cards) k 0 ≡ number k d = λ k d h. get_or-map card_number cards k d 0 (omega arith) in
      let m = number place e in
      let room : m < length dealt = omega (arith, card_below (get_or cards place e), sofar.0) in (
        length-set dealt m x ∙ sofar.0,
        (λ k d h. below_more
            (λ k. get_or (set dealt m x) (number k d) Skat ≡ receiver k)
            place
            (λ k h. get_or-set_other dealt m (number k d) x Skat
            (λ same. apart (map card_number cards) m k place (omega (arith, once (get_or cards place e))) h (omega (arith, length-map cards card_number)) (read k d (omega arith) ∙ same) (read place e lt))
            ∙ sofar.1 k d h)
            (ap (λ n. get_or (set dealt m x) n Skat) (sym (read place d lt) ∙ read place e lt) ∙ (get_or-set_same dealt m x Skat room ∙ is))
            k h),
      )
