-- A run has at most eleven trumps, and every game counts from −540 to 264, and never 0.
use Rattle.std.specs.Prelude.{◌≡◌, ℕ, zero, suc, ◌+◌, ◌*◌, ◌<◌, ◌≤◌, max, Bool, true, false, [], length, pos, neg_ℤ, ◌==◌}
use Rattle.std.proofs.Common.{arith}
use Rattle.std.proofs.lemmas.Bool.{cond_both}
use Rattle.std.proofs.lemmas.Bool.Decides.{nat_tests}
use Rattle.cards.specs.declared.deck.Card.{Card}
use Rattle.cards.specs.declared.deck.Suit.{Suit}
use Rattle.cards.specs.declared.deck.Suit.TheVariants.{Diamonds, Hearts, Spades, Clubs}
use Rattle.cards.specs.Units.{is_game_value}
use Rattle.worth.specs.declared.finished.Finished.{Finished}
use Rattle.worth.specs.declared.levels.Level.{Level}
use Rattle.worth.specs.declared.levels.Level.TheVariants.{Plain, Schneider, Schwarz, Ouvert}
use Rattle.worth.specs.BidValues.{is_bid}
use Rattle.worth.specs.Bases.{null_value_at, suit_base, grand_base}
use Rattle.worth.specs.Tops.{suit_run, grand_run}
use Rattle.worth.specs.Worth.{one_if, is_schneider, is_schwarz, steps_at, factor, is_won, times_in, trump_worth, null_value, null_worth}

pub suit_short : (suit : Suit) → length (suit_run suit) ≤ 11
suit_short suit = omega arith

pub grand_short : length grand_run ≤ 11
grand_short = omega arith

pub null_short : length {A = Card} [] ≤ 11
null_short = omega arith

pub bid_range : (value : ℕ) → is_bid value ≡ true → (18 ≤ value) × (value ≤ 264)
bid_range value is = (grind (arith, nat_tests), grind (arith, nat_tests))

pub one_high : (b : Bool) → one_if b ≤ 1
one_high true = omega arith
one_high false = omega arith

steps_high : (level : Level) (schneider schwarz : Bool) → steps_at level schneider schwarz ≤ 5
steps_high Plain s z = omega (arith, one_high s, one_high z)
steps_high Schneider s z = omega (arith, one_high z)
steps_high Schwarz s z = omega arith
steps_high Ouvert s z = omega arith

pub factor_high : (tops : ℕ) (game : Finished) → factor tops game ≤ tops + 7
factor_high tops game = omega (arith, one_high game.hand, steps_high game.level (is_schneider game) (is_schwarz game))

pub factor_low : (tops : ℕ) (game : Finished) → tops + 1 ≤ factor tops game
factor_low tops game = omega arith

won_in : (n : ℕ) → 0 < n → n ≤ 264 → is_game_value (pos n) ≡ true
won_in n low high = grind (arith, nat_tests)

lost_in : (n : ℕ) → 0 < n → n ≤ 540 → is_game_value (neg_ℤ (pos n)) ≡ true
lost_in zero low high = absurd (omega arith)
lost_in (suc n) low high = grind (arith, nat_tests)

-- a suit or grand game of this base, with so many tops
pub trump_in : (base tops : ℕ) (game : Finished) → 0 < base * factor tops game → base * factor tops game ≤ 264 → base * max (factor tops game) (times_in base game.bid.value) ≤ 270 → base * factor tops game ≤ base * max (factor tops game) (times_in base game.bid.value) → is_game_value (trump_worth base tops game) ≡ true
trump_in base tops game some high low more =
    cond_both (is_won base tops game) _ _ (λ z. is_game_value z ≡ true)
    (λ _. won_in (base * factor tops game) some high)
    (λ _. lost_in (2 * (base * max (factor tops game) (times_in base game.bid.value))) (omega arith) (omega arith))

pub null_range : (level : Level) (hand : Bool) → (23 ≤ null_value_at level hand) × (null_value_at level hand ≤ 59)
null_range Plain true = (omega arith, omega arith)
null_range Plain false = (omega arith, omega arith)
null_range Schneider true = (omega arith, omega arith)
null_range Schneider false = (omega arith, omega arith)
null_range Schwarz true = (omega arith, omega arith)
null_range Schwarz false = (omega arith, omega arith)
null_range Ouvert true = (omega arith, omega arith)
null_range Ouvert false = (omega arith, omega arith)

pub null_in : (game : Finished) → is_game_value (null_worth game) ≡ true
null_in game =
    let range = null_range game.level game.hand in
    cond_both (game.declarer.tricks.0 == 0) _ _ (λ z. is_game_value z ≡ true)
    (λ _. won_in (null_value game) (omega arith) (omega arith))
    (λ _. lost_in (2 * null_value game) (omega arith) (omega arith))

module _ (tops : ℕ) (game : Finished) where
  pub suit_in : (suit : Suit) → tops ≤ 11 → is_game_value (trump_worth (suit_base suit) tops game) ≡ true
  suit_in suit few =
      let high = factor_high tops game in
      let low = factor_low tops game in
      let bid = bid_range game.bid.value game.bid.valued in
      elim suit as (λ s. is_game_value (trump_worth (suit_base s) tops game) ≡ true) [
        | Diamonds ↦ trump_in 9 tops game (omega arith) (omega arith) (omega arith) (omega arith)
        | Hearts ↦ trump_in 10 tops game (omega arith) (omega arith) (omega arith) (omega arith)
        | Spades ↦ trump_in 11 tops game (omega arith) (omega arith) (omega arith) (omega arith)
        | Clubs ↦ trump_in 12 tops game (omega arith) (omega arith) (omega arith) (omega arith)
      ]

  pub grand_in : tops ≤ 4 → is_game_value (trump_worth grand_base tops game) ≡ true
  grand_in few =
      let high = factor_high tops game in
      let low = factor_low tops game in
      let bid = bid_range game.bid.value game.bid.valued in
      trump_in 24 tops game (omega arith) (omega arith) (omega arith) (omega arith)
