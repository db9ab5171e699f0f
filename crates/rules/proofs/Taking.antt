-- The earliest of three cards that none beats names the seat that takes the trick.
use Rattle.std.proofs.Common.{◌≡◌, ℕ, zero, suc, ◌<◌, ◌≤◌, Bool, true, false, List, [], ◌∷◌, get_or, sym, refl, ap, ◌∙◌, arith}
use Rattle.std.proofs.lemmas.Bool.{and_parts, and_from, not-true, not_from_false, cond-true, cond-false}
use Rattle.std.proofs.lemmas.Bool.Decides.{nat_tests}
use Rattle.cards.specs.declared.deck.Card.{Card}
use Rattle.cards.specs.declared.seats.Seat.{Seat}
use Rattle.cards.specs.First.{NoneAhead, IsFirst}
use Rattle.cards.specs.Seats.{following}
use Rattle.kinds.specs.Meanings.{Meaning}
use Rattle.kinds.specs.Tricks.{beats}
use Rattle.rules.specs.Board.{is_unbeaten, taker_of}

each : (P : ℕ → Type 0) → P 0 → P 1 → P 2 → (k : ℕ) → k < 3 → P k
each P p q r zero lt = p
each P p q r (suc zero) lt = q
each P p q r (suc (suc zero)) lt = r
each P p q r (suc (suc (suc k))) lt = absurd (omega arith)

never : (m : Meaning) (led card : Card) → beats m led card card ≡ false
never m led card = grind (arith, nat_tests)

refuted : (t : Bool) → (t ≡ true → ⊥) → t ≡ false
refuted true h = absurd (h refl)
refuted false h = refl

module _ (m : Meaning) (leader : Seat) (a b c : Card) where
  abbrev trick : List Card
  trick = a ∷ (b ∷ (c ∷ []))

  unbeaten : (card other another : Card) → beats m a other card ≡ false → beats m a another card ≡ false → is_unbeaten m a card other another ≡ true
  unbeaten card other another p q = and_from _ _ (not_from_false _ p) (not_from_false _ q)

  beaten_first : (NoneAhead (beats m a) trick 0 → ⊥) → is_unbeaten m a a b c ≡ false
  beaten_first some = refuted _ (λ t.
      let parts = and_parts _ _ t in
      some (λ k d. each (λ k. beats m a (get_or trick k d) a ≡ false) (never m a a) (not-true _ parts.0) (not-true _ parts.1) k))

  beaten_second : (NoneAhead (beats m a) trick 1 → ⊥) → is_unbeaten m a b a c ≡ false
  beaten_second some = refuted _ (λ t.
      let parts = and_parts _ _ t in
      some (λ k d. each (λ k. beats m a (get_or trick k d) b ≡ false) (not-true _ parts.0) (never m a b) (not-true _ parts.1) k))

  module _ (r : ℕ) (first : IsFirst (beats m a) trick r) where
    -- the card at r is beaten by none
    safe : (i : ℕ) → r ≡ i → (k : ℕ) → k < 3 → beats m a (get_or trick k a) (get_or trick i a) ≡ false
    safe i at k lt = ap (λ j. beats m a (get_or trick k a) (get_or trick j a)) (sym at) ∙ first.1 k a lt

    pub takes_first : r ≡ 0 → leader ≡ taker_of m leader a b c
    unfolding taker_of
    takes_first at = sym (cond-true _ _ _ (unbeaten a b c (safe 0 at 1 (omega arith)) (safe 0 at 2 (omega arith))))

    pub takes_second : r ≡ 1 → (next : Seat) → next ≡ following leader → next ≡ taker_of m leader a b c
    unfolding taker_of
    takes_second at next is =
        is
        ∙ sym (cond-false _ _ _ (beaten_first (first.2 0 (omega arith)))
        ∙ cond-true _ _ _ (unbeaten b a c (safe 1 at 0 (omega arith)) (safe 1 at 2 (omega arith))))

    pub takes_third : 2 ≤ r → (next last : Seat) → next ≡ following leader → last ≡ following next → last ≡ taker_of m leader a b c
    unfolding taker_of
    takes_third past next last is then =
        then
        ∙ (ap following is
        ∙ sym (cond-false _ _ _ (beaten_first (first.2 0 (omega arith)))
        ∙ cond-false _ _ _ (beaten_second (first.2 1 (omega arith)))))
