-- The bases of suit games and grand, and the values of null.
use Rattle.std.specs.Prelude.{ℕ, Bool, cond}
use Rattle.cards.specs.declared.deck.Suit.{Suit}
use Rattle.cards.specs.declared.deck.Suit.TheVariants.{Diamonds, Hearts, Spades, Clubs}
use Rattle.worth.specs.declared.levels.Level.{Level}
use Rattle.worth.specs.declared.levels.Level.TheVariants.{Plain, Schneider, Schwarz, Ouvert}

abbrev pub suit_base : Suit → ℕ
suit_base Diamonds = 9
suit_base Hearts = 10
suit_base Spades = 11
suit_base Clubs = 12

abbrev pub grand_base : ℕ
grand_base = 24

-- Null counts 23, by hand 35; ouvert 46, by hand 59.
abbrev pub null_plain : Bool → ℕ
null_plain hand = cond hand 35 23

abbrev pub null_ouvert : Bool → ℕ
null_ouvert hand = cond hand 59 46

-- Null has no schneider or schwarz.
abbrev pub null_value_at : Level → Bool → ℕ
null_value_at Plain hand = null_plain hand
null_value_at Schneider hand = null_plain hand
null_value_at Schwarz hand = null_plain hand
null_value_at Ouvert hand = null_ouvert hand
