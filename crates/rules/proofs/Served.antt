-- A hand gone through card by card for a class, for `holds_class`.
use Rattle.std.proofs.Common.{◌≡◌, ℕ, suc, ◌<◌, Bool, true, false, cond, ◌&&◌, ◌||◌, eqb, List, [], ◌∷◌, map, length, sym, refl, ap, ◌∙◌, add-one}
use Rattle.std.proofs.lemmas.List.Elements.{All-from_all_within}
use Rattle.std.proofs.lemmas.List.Folds.{list_any_at, list_any_none}
use Rattle.std.specs.Bool.{MatchBool}
use Rattle.std.specs.List.{range_with_len, zip, list_any, HoldsAt, AllWithin}
use Rattle.cards.specs.declared.deck.Card.{Card}
use Rattle.cards.specs.declared.seats.Seat.{Seat}
use Rattle.cards.specs.Deck.{card_at}
use Rattle.kinds.specs.Meanings.{Meaning}
use Rattle.rules.specs.declared.deals.Pile.{Pile}
use Rattle.rules.specs.declared.deals.Pile.TheVariants.{InSkat}
use Rattle.rules.specs.Board.{any_of_class}
use Rattle.rules.specs.Piles.{is_held, marked_from}

module _ (m : Meaning) (class : ℕ) (seat : Seat) where
  abbrev pub fits : Pile × Card → Bool
  fits item = is_held seat item.0 && eqb (m.class item.1) class

  -- what `any` tells of the cards one by one
  pub any_of : (items : List (Pile × Card)) (r : Bool) → MatchBool r ((k : ℕ) × (k < length items) × HoldsAt (λ item. fits item ≡ true) items k) (AllWithin (λ item. fits item ≡ false) items 0 (length items)) → r ≡ list_any fits items
  any_of items true found = sym (list_any_at fits items found.0 (InSkat, card_at 0) found.1 (found.2 (InSkat, card_at 0)))
  any_of items false none = sym (list_any_none fits items (All-from_all_within (λ item. fits item ≡ false) items none))

  -- the cards from a number on
  pub any_held : (n : ℕ) (piles : List Pile) → list_any fits (zip piles (map card_at (range_with_len n (length piles)))) ≡ any_of_class m class (marked_from n (map (is_held seat) piles))
  any_held n [] = refl
  any_held n (pile ∷ piles) =
      ap (λ k. fits (pile, card_at n) || list_any fits (zip piles (map card_at (range_with_len k (length piles))))) (add-one n)
      ∙ (ap (λ rest. fits (pile, card_at n) || rest) (any_held (suc n) piles) ∙ split (is_held seat pile))
    where
      split : (held : Bool) → ((held && eqb (m.class (card_at n)) class) || any_of_class m class (marked_from (suc n) (map (is_held seat) piles))) ≡ any_of_class m class (cond held (n ∷ marked_from (suc n) (map (is_held seat) piles)) (marked_from (suc n) (map (is_held seat) piles)))
      split true = refl
      split false = refl
