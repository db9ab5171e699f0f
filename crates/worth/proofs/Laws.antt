-- The laws of the worth, and the worked examples, for `Game::result`.
use Rattle.std.proofs.Common.{◌≡◌, ℕ, zero, suc, ◌+◌, ◌*◌, ◌<◌, ◌≤◌, max, true, false, eqb, get_or, pos, neg_ℤ, ◌≤ℤ◌, ◌<ℤ◌, refl, mul-le-mul_left, arith}
use Rattle.std.proofs.lemmas.Int.{ints}
use Rattle.std.proofs.lemmas.Bool.{and_parts, leb-true, cond-true, cond-false, false≢true, true≢false}
use Rattle.cards.specs.declared.deck.Suit.{Suit}
use Rattle.cards.specs.declared.deck.Suit.TheVariants.{Diamonds, Hearts, Spades, Clubs}
use Rattle.worth.specs.declared.announced.Game.{Game}
use Rattle.worth.specs.declared.announced.Game.TheVariants as games
use Rattle.worth.specs.declared.finished.Finished.{Finished}
use Rattle.worth.specs.Bases.{suit_base, grand_base}
use Rattle.worth.specs.Worth.{factor, is_reached, is_won, times_in, trump_worth, null_value, null_worth}
use Rattle.worth.specs.WorthLaws.{WorthLaws, by_hand}
use Rattle.worth.specs.Examples.{AllHold, examples, diamond_trick}
use Rattle.worth.specs.Tops.{card_of}
use Rattle.cards.specs.declared.deck.Card.{Card}
use Rattle.cards.specs.declared.deck.Place.TheVariants.{Seven, King, Jack}
use Rattle.cards.specs.First.{NoneAhead}
use Rattle.kinds.specs.Games.{grand_meaning, null_meaning}
use Rattle.kinds.specs.Tricks.{beats}
use Rattle.worth.specs.Bounds.{bid_range, one_high, null_range}

module _ (base tops : ℕ) (game : Finished) where
  won_is : is_won base tops game ≡ true → trump_worth base tops game ≡ pos (base * factor tops game)
  won_is won = cond-true (is_won base tops game) _ _ won

  lost_is : is_won base tops game ≡ false → trump_worth base tops game ≡ neg_ℤ (pos (2 * (base * max (factor tops game) (times_in base game.bid.value))))
  lost_is lost = cond-false (is_won base tops game) _ _ lost

  reached : is_won base tops game ≡ true → game.bid.value ≤ base * factor tops game
  reached won = leb-true _ _ (and_parts (is_reached game) _ won).1

  trump_won : is_won base tops game ≡ true → (pos game.bid.value ≤ℤ trump_worth base tops game) × (pos 0 <ℤ trump_worth base tops game)
  trump_won won =
      let bid = bid_range game.bid.value game.bid.valued in
      let is = won_is won in
      let at = reached won in
      (omega (arith, ints), omega (arith, ints))

  trump_lost : game.bid.value ≤ base * max (factor tops game) (times_in base game.bid.value) → is_won base tops game ≡ false → trump_worth base tops game ≤ℤ neg_ℤ (pos (2 * game.bid.value))
  trump_lost more lost = let is = lost_is lost in omega (arith, ints)

  -- a factor that is no lower, where both are won
  trump_more : (more : ℕ) (other : Finished) → factor tops game ≤ factor more other → is_won base tops game ≡ true → is_won base more other ≡ true → trump_worth base tops game ≤ℤ trump_worth base more other
  trump_more more other le won still =
      let is = won_is won in
      let was : trump_worth base more other ≡ pos (base * factor more other) = cond-true (is_won base more other) _ _ still in
      omega (arith, ints, mul-le-mul_left base le)

hand_more : (tops : ℕ) (game : Finished) → factor tops game ≤ factor tops (by_hand game)
hand_more tops game = omega (arith, one_high game.hand)

-- the base times the bid over it, rounded up, reaches the bid
suit_reaches : (suit : Suit) (tops : ℕ) (game : Finished) → game.bid.value ≤ suit_base suit * max (factor tops game) (times_in (suit_base suit) game.bid.value)
suit_reaches Diamonds tops game = omega arith
suit_reaches Hearts tops game = omega arith
suit_reaches Spades tops game = omega arith
suit_reaches Clubs tops game = omega arith

grand_reaches : (tops : ℕ) (game : Finished) → game.bid.value ≤ grand_base * max (factor tops game) (times_in grand_base game.bid.value)
grand_reaches tops game = omega arith

pub worth_laws : (game : Game) (tops : ℕ) (finished : Finished) → WorthLaws game tops finished
worth_laws (games.Suit kind) tops finished =
    let base = suit_base kind.trump in
    record {
      won = λ _ won. trump_won base tops finished won;
      lost = λ _ lost. trump_lost base tops finished (suit_reaches kind.trump tops finished) lost;
      more = λ _ won still. trump_more base tops finished (tops + 1) finished (omega arith) won still;
      hand = λ _ won still. trump_more base tops finished tops (by_hand finished) (hand_more tops finished) won still;
      blind = λ e. absurd (false≢true e);
    }
worth_laws (games.Grand kind) tops finished = record {
  won = λ _ won. trump_won grand_base tops finished won;
  lost = λ _ lost. trump_lost grand_base tops finished (grand_reaches tops finished) lost;
  more = λ _ won still. trump_more grand_base tops finished (tops + 1) finished (omega arith) won still;
  hand = λ _ won still. trump_more grand_base tops finished tops (by_hand finished) (hand_more tops finished) won still;
  blind = λ e. absurd (false≢true e);
}
worth_laws (games.Null kind) tops finished = record {
  won = λ is won.
      let worth : null_worth finished ≡ pos (null_value finished) = cond-true (eqb finished.declarer.tricks.0 0) _ _ won in
      let range = null_range finished.level finished.hand in
      let bid = is.1 in
      (omega (arith, ints), omega (arith, ints));
  lost = λ e. absurd (true≢false e);
  more = λ e. absurd (true≢false e);
  hand = λ e. absurd (true≢false e);
  blind = λ _ ours theirs. refl;
}

-- the seven led, the king and the jack: the king takes it in null, the jack in grand
null_none : (k : ℕ) (d : Card) → k < 3 → beats null_meaning (card_of Diamonds Seven) (get_or diamond_trick k d) (card_of Diamonds King) ≡ false
null_none zero d h = refl
null_none (suc zero) d h = refl
null_none (suc (suc zero)) d h = refl
null_none (suc (suc (suc k))) d h = absurd (omega arith)

null_early : (k : ℕ) → k < 1 → NoneAhead (beats null_meaning (card_of Diamonds Seven)) diamond_trick k → ⊥
null_early zero h none = true≢false (none 1 (card_of Diamonds Seven) (omega arith))
null_early (suc k) h none = omega arith

grand_none : (k : ℕ) (d : Card) → k < 3 → beats grand_meaning (card_of Diamonds Seven) (get_or diamond_trick k d) (card_of Diamonds Jack) ≡ false
grand_none zero d h = refl
grand_none (suc zero) d h = refl
grand_none (suc (suc zero)) d h = refl
grand_none (suc (suc (suc k))) d h = absurd (omega arith)

grand_early : (k : ℕ) → k < 2 → NoneAhead (beats grand_meaning (card_of Diamonds Seven)) diamond_trick k → ⊥
grand_early zero h none = true≢false (none 2 (card_of Diamonds Seven) (omega arith))
grand_early (suc zero) h none = true≢false (none 2 (card_of Diamonds Seven) (omega arith))
grand_early (suc (suc k)) h none = omega arith

pub examples_hold : AllHold examples
examples_hold =
    (refl, (refl, (refl, (refl, (refl, (refl, (refl, (refl, (refl, ((omega arith, null_none, null_early), ((omega arith, grand_none, grand_early), tt)))))))))))
