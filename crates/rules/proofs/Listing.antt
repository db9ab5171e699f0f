-- The declarer's cards listed into a fixed number of places, for `twelve_cards`.
use Rattle.std.proofs.Common.{◌≡◌, ℕ, zero, suc, ◌+◌, ◌-◌, ◌<◌, ◌≤◌, Bool, true, false, cond, List, [], ◌∷◌, ◌++◌, map, length, take, set, replicate, get_or, Some, None, Option, refl, sym, ap, ◌∙◌, add-one, arith}
use Rattle.std.proofs.lemmas.List.{length-map, length_push, map-append, take-map, take-replicate}
use Rattle.std.proofs.lemmas.Simd.{map-map}
use Rattle.std.proofs.Math.ListN.{length-take}
use Rattle.std.proofs.lemmas.Iterator.{YieldsList}
use Rattle.std.proofs.lemmas.Iterator.Consumers.{YieldsList-turn, YieldsList-end}
use Rattle.std.specs.Iterator.{Yields}
use Rattle.std.specs.List.{range_with_len, zip, filter, enumerate_from}
use Rattle.cards.specs.declared.deck.Card.{Card}
use Rattle.cards.specs.declared.seats.Seat.{Seat}
use Rattle.cards.specs.Deck.{card_at}
use Rattle.rules.specs.declared.deals.Pile.{Pile}
use Rattle.rules.specs.Piles.{is_held_or_in_skat, marked_from, hand_and_skat}
use Rattle.rules.specs.Steps.{twelve_of}

-- one item more, where there is room for it
filled_more : {A : Type 0} (filler item : A) (room : ℕ) (items : List A) → set (items ++ replicate (suc room) filler) (length items) item ≡ (items ++ item ∷ []) ++ replicate room filler
filled_more filler item room [] = refl
filled_more filler item room (x ∷ items) = ap (λ ys. x ∷ ys) (filled_more filler item room items)

pub filled_next : {A B : Type 0} (filler : B) (f : A → B) (room : ℕ) (items : List A) (next : A) (place : ℕ) (now : List B) → place ≡ length items → length items < room → now ≡ map f items ++ replicate (room - length items) filler → set now place (f next) ≡ map f (items ++ next ∷ []) ++ replicate (room - length (items ++ next ∷ [])) filler
filled_next filler f room items next place now at lt is =
    let rest = room - suc (length items) in
    let before : room - length items ≡ suc rest = omega arith in
    let after : rest ≡ room - length (items ++ next ∷ []) = omega (arith, length_push items next) in
    let here : place ≡ length (map f items) = omega (arith, length-map items f) in
    (λ i. set (is i) (here i) (f next))
    ∙ (ap (λ k. set (map f items ++ replicate k filler) (length (map f items)) (f next)) before
    ∙ (filled_more filler (f next) rest (map f items)
    ∙ (λ i. sym (map-append f items (next ∷ [])) i ++ replicate (after i) filler)))

-- as many items as there is room for, and the filler behind them
filled_up : {A : Type 0} (filler : A) (room more rest : ℕ) (items : List A) → room ≤ more → rest + length (take room items) ≡ room → take room (items ++ replicate more filler) ≡ take room items ++ replicate rest filler
filled_up filler zero more rest items le e = let none : 0 ≡ rest = omega arith in ap (λ k. replicate k filler) none
filled_up filler (suc room) more rest [] le e = let all : suc room ≡ rest = omega arith in take-replicate (suc room) more filler le ∙ ap (λ k. replicate k filler) all
filled_up filler (suc room) more rest (x ∷ items) le e = ap (λ ys. x ∷ ys) (filled_up filler room more rest items (omega arith) (omega arith))

-- a loop over a chain, whose steps are told before the chain
pub turn_on : {S A B : Type 0} {steps : S → Option A → S → Type 0} {v : A → B} {s : S} {all : List B} (xs : List A) (t : S) (y : Yields steps s xs t) → YieldsList steps v s all → (r : Option A) (u : S) (x : A) → r ≡ Some x → steps t r u → (length xs < length all) × (v x ≡ get_or all (length xs) (v x))
turn_on xs t y road = YieldsList-turn road xs t y

pub end_on : {S A B : Type 0} {steps : S → Option A → S → Type 0} {v : A → B} {s : S} {all : List B} (xs : List A) (t : S) (y : Yields steps s xs t) → YieldsList steps v s all → (r : Option A) (u : S) → r ≡ None → steps t r u → (map v xs ≡ all) × (length xs ≡ length all)
end_on xs t y road = YieldsList-end road xs t y

-- what `enumerate` numbers
pub numbered : {A : Type 0} (n : ℕ) (items : List A) → map (λ (p : ℕ × A). p.1) (enumerate_from n items) ≡ items
numbered n [] = refl
numbered n (x ∷ items) = ap (λ ys. x ∷ ys) (numbered (n + 1) items)

module _ (seat : Seat) where
  abbrev pub is_own : Pile × Card → Bool
  is_own item = is_held_or_in_skat seat item.0

  abbrev pub own_from : ℕ → List Pile → List (Pile × Card)
  own_from n piles = filter is_own (zip piles (map card_at (range_with_len n (length piles))))

  -- the cards from a number on
  own_split : (pile : Pile) (n : ℕ) (later : List (Pile × Card)) (marks : List ℕ) → map (λ (item : Pile × Card). item.1) later ≡ map card_at marks → (own : Bool) → map (λ (item : Pile × Card). item.1) (cond own ((pile, card_at n) ∷ later) later) ≡ map card_at (cond own (n ∷ marks) marks)
  own_split pile n later marks e true = ap (λ cards. card_at n ∷ cards) e
  own_split pile n later marks e false = e

  pub own_cards : (n : ℕ) (piles : List Pile) → map (λ (item : Pile × Card). item.1) (own_from n piles) ≡ map card_at (marked_from n (map (is_held_or_in_skat seat) piles))
  own_cards n [] = refl
  own_cards n (pile ∷ piles) =
      let later = filter is_own (zip piles (map card_at (range_with_len (n + 1) (length piles)))) in
      own_split pile n later (marked_from (suc n) (map (is_held_or_in_skat seat) piles)) (ap (λ k. map (λ (item : Pile × Card). item.1) (own_from k piles)) (add-one n) ∙ own_cards (suc n) piles) (is_held_or_in_skat seat pile)

  -- what a loop over these cards has listed at its end
  pub listed_all : {I : Type 0} (v : I → ℕ × (Pile × Card)) (piles : List Pile) (deck : List Card) (items : List I) (twelve : List Card) → length piles ≡ 32 → deck ≡ map card_at (range_with_len 0 32) → map v items ≡ enumerate_from 0 (take 12 (filter is_own (zip piles deck))) → twelve ≡ map (λ item. (v item).1.1) items ++ replicate (12 - length items) (card_at 0) → twelve ≡ twelve_of seat piles
  listed_all {I} v piles deck items twelve long of shown is =
      let second = λ (item : Pile × Card). item.1 in
      let own = filter is_own (zip piles deck) in
      let hand = hand_and_skat seat piles in
      let cards = map (λ (item : I). (v item).1.1) items in
      let named : map second own ≡ hand =
      ap (λ d. map second (filter is_own (zip piles d))) of
      ∙ (ap (λ n. map second (filter is_own (zip piles (map card_at (range_with_len 0 n))))) (sym long) ∙ own_cards 0 piles) in
      let first : cards ≡ take 12 hand =
      sym (map-map (λ (p : ℕ × (Pile × Card)). p.1.1) v items)
      ∙ (ap (map (λ (p : ℕ × (Pile × Card)). p.1.1)) shown
      ∙ (sym (map-map second (λ (p : ℕ × (Pile × Card)). p.1) (enumerate_from 0 (take 12 own)))
      ∙ (ap (map second) (numbered 0 (take 12 own)) ∙ (sym (take-map second 12 own) ∙ ap (take 12) named)))) in
      let many : length cards ≡ length items = length-map items (λ (item : I). (v item).1.1) in
      let whole : (12 - length items) + length (take 12 hand) ≡ 12 = omega (arith, many, ap length first, length-take 12 hand) in
      is
      ∙ (ap (λ listed. listed ++ replicate (12 - length items) (card_at 0)) first
      ∙ sym (filled_up (card_at 0) 12 12 (12 - length items) hand (omega arith) whole))
