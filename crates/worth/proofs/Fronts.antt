-- The front of a run on which a test holds, and a card among others, for `tops` and `is_among`.
use Rattle.std.proofs.Common.{◌≡◌, ℕ, zero, suc, ◌+◌, ◌<◌, ◌≤◌, Bool, true, false, cond, eqb, List, [], ◌∷◌, length, get_or, sym, refl, ap, ◌∙◌, arith, below_more}
use Rattle.std.specs.List.{prefix_len, list_any}
use Rattle.std.proofs.lemmas.Bool.Decides.{nat_tests}
use Rattle.cards.specs.declared.deck.Card.{Card}
use Rattle.cards.specs.Deck.{card_number}
use Rattle.worth.specs.Tops.{is_among, is_same, is_alike, tops_of}

leading_at : {A : Type 0} (test : A → Bool) (xs : List A) (n : ℕ) → n ≤ length xs → ((k : ℕ) (d : A) → k < n → test (get_or xs k d) ≡ true) → (n < length xs → (d : A) → test (get_or xs n d) ≡ false) → prefix_len test xs ≡ n
leading_at test [] zero le holds stops = refl
leading_at test [] (suc n) le holds stops = absurd (omega arith)
leading_at test (x ∷ xs) zero le holds stops = ap (λ b. cond b (1 + prefix_len test xs) 0) (stops (omega arith) x)
leading_at test (x ∷ xs) (suc n) le holds stops =
    let rest = leading_at test xs n (omega arith) (λ k d h. holds (suc k) d (omega arith)) (λ h d. stops (omega arith) d) in
    let here : test x ≡ true = holds 0 x (omega arith) in
    ap (λ b. cond b (1 + prefix_len test xs) 0) here ∙ omega arith

same_true : (a b : Bool) → a ≡ b → is_same a b ≡ true
same_true true b e = sym e
same_true false true e = e
same_true false false e = refl

same_false : (a b : Bool) → (b ≡ a → ⊥) → is_same a b ≡ false
same_false true true ne = absurd (ne refl)
same_false true false ne = refl
same_false false true ne = refl
same_false false false ne = absurd (ne refl)

tops_is : (run cards : List Card) (first : Card) → 0 < length run → ((d : Card) → get_or run 0 d ≡ first) → tops_of run cards ≡ prefix_len (is_alike cards first) run
tops_is [] cards first some begins = absurd (omega arith)
tops_is (x ∷ run) cards first some begins = ap (λ y. prefix_len (is_alike cards y) (x ∷ run)) (begins x)

-- a run that begins with a card, of which n are alike and the next is not
module _ (run cards : List Card) (first : Card) (n : ℕ) (some : 0 < length run) (begins : (d : Card) → get_or run 0 d ≡ first) (le : n ≤ length run) (alike : (k : ℕ) (d : Card) → k < n → is_among cards (get_or run k d) ≡ is_among cards first) where
  pub tops_all : length run ≤ n → n ≡ tops_of run cards
  tops_all end =
      sym (tops_is run cards first some begins
      ∙ leading_at (is_alike cards first) run n le (λ k d h. same_true _ _ (sym (alike k d h))) (λ h. absurd (omega arith)))

  pub tops_broken : (card : Card) → ((d : Card) → get_or run n d ≡ card) → (is_among cards card ≡ is_among cards first → ⊥) → n ≡ tops_of run cards
  tops_broken card here differ =
      sym (tops_is run cards first some begins
      ∙ leading_at (is_alike cards first) run n le (λ k d h. same_true _ _ (sym (alike k d h)))
      (λ h d. ap (is_alike cards first) (here d) ∙ same_false _ _ differ))

-- a card is among others, as their numbers tell it
pub among_same : (cards : List Card) (card : Card) → list_any (λ other. eqb (card_number other) (card_number card)) cards ≡ is_among cards card
among_same [] card = refl
among_same (other ∷ cards) card =
    let turned : eqb (card_number other) (card_number card) ≡ eqb (card_number card) (card_number other) = grind (arith, nat_tests) in
    let more = among_same cards card in
    cc

-- the first n of a run are found or missing like the first of them
abbrev pub Alike : List Card → List Card → Bool → ℕ → Type 0
Alike run cards with n = (n ≤ length run) × ((k : ℕ) (d : Card) → k < n → is_among cards (get_or run k d) ≡ with)

module _ (run cards : List Card) (with : Bool) (n : ℕ) (card : Card) (sofar : Alike run cards with n) (here : (n < length run) × ((d : Card) → get_or run n d ≡ card)) where
  pub alike_more : is_among cards card ≡ with → Alike run cards with (n + 1)
  alike_more same = (
    omega (arith, here.0),
    (λ k d. below_more (λ j. is_among cards (get_or run j d) ≡ with) n (λ j h. sofar.1 j d h) (ap (is_among cards) (here.1 d) ∙ same) k),
  )

  pub alike_ends : (first : Card) → 0 < length run → ((d : Card) → get_or run 0 d ≡ first) → with ≡ is_among cards first → (is_among cards card ≡ with → ⊥) → n ≡ tops_of run cards
  alike_ends first some begins is other =
      tops_broken run cards first n some begins sofar.0 (λ k d h. sofar.1 k d h ∙ is) card here.1 (λ e. other (e ∙ sym is))
