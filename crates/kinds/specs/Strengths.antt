-- The strength of a card in a trick, which tells what beats what.
use Rattle.std.specs.Prelude.{Bool, ◌&&◌, ◌||◌, ◌==◌, nat_lt}
use Rattle.cards.specs.declared.deck.Card.{Card}
use Rattle.kinds.specs.declared.tricks.Strength.{Strength}
use Rattle.kinds.specs.Meanings.{Meaning}
use Rattle.kinds.specs.Tricks.{force}

-- A card's strength in a trick: its force and its rank.
abbrev pub strength : Meaning → Card → Card → Strength
strength m led card = record { force = force m led card; rank = m.rank card }

-- A strength is above another if its force is higher, or the forces are equal and above 0 and its rank is higher.
abbrev pub is_stronger : Strength → Strength → Bool
is_stronger a b = nat_lt b.force a.force || (a.force == b.force && nat_lt 0 a.force && nat_lt b.rank a.rank)
