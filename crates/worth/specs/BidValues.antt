-- The values that can be bid.
use Rattle.std.specs.Prelude.{ℕ, ◌/◌, ◌%◌, Bool, true, false, ◌&&◌, ◌||◌, ◌==◌, nat_le}
use Rattle.cards.specs.declared.deck.Suit.TheVariants.{Diamonds, Hearts, Spades, Clubs}
use Rattle.worth.specs.Bases.{suit_base, grand_base, null_plain, null_ouvert}

-- A base taken from twice to so many times.
abbrev pub is_multiple : ℕ → ℕ → ℕ → Bool
is_multiple base most value = value % base == 0 && nat_le 2 (value / base) && nat_le (value / base) most

-- Null's values; a suit's base from twice to 18 times; grand's from twice to 11 times.
abbrev pub is_bid : ℕ → Bool
is_bid value =
    (value == null_plain false)
    || value == null_plain true
    || value == null_ouvert false
    || value == null_ouvert true
    || is_multiple (suit_base Diamonds) 18 value
    || is_multiple (suit_base Hearts) 18 value
    || is_multiple (suit_base Spades) 18 value
    || is_multiple (suit_base Clubs) 18 value
    || is_multiple grand_base 11 value
