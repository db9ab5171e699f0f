-- Laws of the worth, in the words of the game.
use Rattle.std.specs.Prelude.{◌≡◌, ℕ, ◌+◌, ◌*◌, ◌≤◌, Bool, true, false, pos, neg_ℤ, ◌≤ℤ◌, ◌<ℤ◌, ◌==◌}
use Rattle.worth.specs.declared.announced.Game.{Game}
use Rattle.worth.specs.declared.announced.Game.TheVariants.{Suit, Grand, Null}
use Rattle.worth.specs.declared.finished.Finished.{Finished}
use Rattle.cards.specs.declared.units.Eyes.{Eyes}
use Rattle.worth.specs.Announced.{game_counts}
use Rattle.worth.specs.Levels.{is_open_level}
use Rattle.worth.specs.Bases.{suit_base, grand_base}
use Rattle.worth.specs.Worth.{is_won, null_value}

-- Whether a game was won.
abbrev pub is_won_game : Game → ℕ → Finished → Bool
is_won_game (Suit game) tops finished = is_won (suit_base game.trump) tops finished
is_won_game (Grand game) tops finished = is_won grand_base tops finished
is_won_game (Null game) tops finished = finished.declarer.tricks.0 == 0

abbrev pub is_null : Game → Bool
is_null (Suit game) = false
is_null (Grand game) = false
is_null (Null game) = true

-- An announcement is open if its level is, and null is not below the bid.
abbrev pub NotBelow : Game → Finished → Type 0
NotBelow (Suit game) finished = Unit {0}
NotBelow (Grand game) finished = Unit {0}
NotBelow (Null game) finished = finished.bid.value ≤ null_value finished

abbrev pub IsOpen : Game → Finished → Type 0
IsOpen game finished = (is_open_level (is_null game) finished.hand finished.level ≡ true) × NotBelow game finished

-- The same game, with other eyes, or by hand.
abbrev pub with_eyes : Eyes → Eyes → Finished → Finished
with_eyes ours theirs finished = record {
  hand = finished.hand;
  level = finished.level;
  bid = finished.bid;
  declarer = record { eyes = ours; tricks = finished.declarer.tricks };
  defenders = record { eyes = theirs; tricks = finished.defenders.tricks };
}

abbrev pub by_hand : Finished → Finished
by_hand finished = record {
  hand = true;
  level = finished.level;
  bid = finished.bid;
  declarer = finished.declarer;
  defenders = finished.defenders;
}

-- What holds of every announcement that is open; only the first law needs that it is.
pub record WorthLaws (game : Game) (tops : ℕ) (finished : Finished) : Type 0 where
  -- A game that is won counts at least the bid, and more than 0.
  pub won : IsOpen game finished → is_won_game game tops finished ≡ true → (pos finished.bid.value ≤ℤ game_counts game tops finished) × (pos 0 <ℤ game_counts game tops finished)
  -- A lost suit or grand game counts at most minus twice the bid.
  pub lost : is_null game ≡ false → is_won_game game tops finished ≡ false → game_counts game tops finished ≤ℤ neg_ℤ (pos (2 * finished.bid.value))
  -- One more top never lowers a suit or grand game that stays won.
  pub more : is_null game ≡ false → is_won_game game tops finished ≡ true → is_won_game game (tops + 1) finished ≡ true → game_counts game tops finished ≤ℤ game_counts game (tops + 1) finished
  -- Nor does a hand game.
  pub hand : is_null game ≡ false → is_won_game game tops finished ≡ true → is_won_game game tops (by_hand finished) ≡ true → game_counts game tops finished ≤ℤ game_counts game tops (by_hand finished)
  -- For null, eyes do not matter.
  pub blind : is_null game ≡ true → (ours theirs : Eyes) → game_counts game tops (with_eyes ours theirs finished) ≡ game_counts game tops finished
