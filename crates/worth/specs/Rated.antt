-- What a rated kind adds to its meaning.
use Rattle.std.specs.Prelude.{ℕ, List, [], ℤ}
use Rattle.cards.specs.declared.deck.Card.{Card}
use Rattle.cards.specs.declared.deck.Suit.{Suit}
use Rattle.worth.specs.declared.finished.Finished.{Finished}
use Rattle.worth.specs.Bases.{suit_base, grand_base}
use Rattle.worth.specs.Tops.{suit_run, grand_run}
use Rattle.worth.specs.Worth.{trump_worth, null_worth}

-- The run of trumps that tops are counted on, and what a finished game counts with so many tops.
pub record Worth : Type 0 where
  pub run : List Card
  pub counts : ℕ → Finished → ℤ

abbrev pub suit_rated : Suit → Worth
suit_rated trump = record { run = suit_run trump; counts = λ tops finished. trump_worth (suit_base trump) tops finished }

abbrev pub grand_rated : Worth
grand_rated = record { run = grand_run; counts = λ tops finished. trump_worth grand_base tops finished }

abbrev pub null_rated : Worth
null_rated = record { run = []; counts = λ tops finished. null_worth finished }
