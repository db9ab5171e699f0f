-- What is first among the strengths of three cards is first among the cards, for `taker`.
use Rattle.std.proofs.Common.{◌≡◌, ℕ, ◌<◌, Bool, List, [], ◌∷◌, map, length, get_or, subst, arith}
use lib.ListN.{length-map}
use Rattle.std.proofs.lemmas.List.{get_or-map}
use Rattle.cards.specs.declared.deck.Card.{Card}
use Rattle.cards.specs.First.{NoneAhead, IsFirst}
use Rattle.kinds.specs.declared.tricks.Strength.{Strength}
use Rattle.kinds.specs.Meanings.{Meaning}
use Rattle.kinds.specs.Strengths.{strength, is_stronger}
use Rattle.kinds.specs.Tricks.{beats}

module _ {A B : Type 0} (f : A → B) (ahead : B → B → Bool) (items : List A) (d : A) where
  -- the order of the items by what f makes of them
  abbrev by : A → A → Bool
  by a b = ahead (f a) (f b)

  none_back : (i : ℕ) → i < length items → NoneAhead ahead (map f items) i → NoneAhead by items i
  none_back i within none k e lt =
      let made = none k (f e) (simp length-map (omega arith)) in
      rw (get_or-map f items k e (f e) lt, get_or-map f items i e (f e) within) at made

  none_on : (i : ℕ) → i < length items → NoneAhead by items i → NoneAhead ahead (map f items) i
  none_on i within none k e less =
      let lt : k < length items = omega (arith, length-map items f) in
      rw (get_or-map f items k d e lt, get_or-map f items i d e within) (none k d lt)

  first_back : (i : ℕ) → IsFirst ahead (map f items) i → IsFirst by items i
  first_back i first =
      let within : i < length items = omega (arith, length-map items f) in
      (within, none_back i within first.1, λ k less none. first.2 k less (none_on k (omega arith) none))

module _ (m : Meaning) (e d : Card) (a b c : Strength) where
  -- strengths of three cards, read at one default, are those read at another
  three_made : (trick : List Card) → length trick ≡ 3 → a ≡ strength m (get_or trick 0 e) (get_or trick 0 e) → b ≡ strength m (get_or trick 0 e) (get_or trick 1 e) → c ≡ strength m (get_or trick 0 e) (get_or trick 2 e) → a ∷ b ∷ c ∷ [] ≡ map (strength m (get_or trick 0 d)) trick
  three_made [] three p q r = absurd (omega arith)
  three_made (x ∷ []) three p q r = absurd (omega arith)
  three_made (x ∷ y ∷ []) three p q r = absurd (omega arith)
  three_made (x ∷ y ∷ z ∷ []) three p q r = cc
  three_made (x ∷ y ∷ z ∷ w ∷ more) three p q r = absurd (omega arith)

  pub first_of_trick : (trick : List Card) (i : ℕ) → length trick ≡ 3 → a ≡ strength m (get_or trick 0 e) (get_or trick 0 e) → b ≡ strength m (get_or trick 0 e) (get_or trick 1 e) → c ≡ strength m (get_or trick 0 e) (get_or trick 2 e) → IsFirst is_stronger (a ∷ b ∷ c ∷ []) i → IsFirst (beats m (get_or trick 0 d)) trick i
  first_of_trick trick i three p q r first =
      first_back (strength m (get_or trick 0 d)) is_stronger trick d i (subst (λ (all : List Strength). IsFirst is_stronger all i) (three_made trick three p q r) first)
