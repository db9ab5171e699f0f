-- What a kind of game says of the cards.
use Rattle.std.specs.Prelude.{ℕ, Bool}
use Rattle.cards.specs.declared.deck.Card.{Card}

-- A class for each card, 0 to 3 for the suits and 4 for trump; a rank in that class; and whether a trick of the declarer ends the play.
pub record Meaning : Type 0 where
  pub class : Card → ℕ
  pub rank : Card → ℕ
  pub ends : Bool
