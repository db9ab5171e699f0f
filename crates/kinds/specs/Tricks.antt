-- Who takes a trick.
use Rattle.std.specs.Prelude.{◌≡◌, ℕ, ◌<◌, Bool, cond, ◌&&◌, ◌||◌, List, ◌==◌, ◌≢◌, nat_lt, slice_index_or}
use Rattle.cards.specs.declared.deck.Card.{Card}
use Rattle.cards.specs.First.{NoneAhead}
use Rattle.kinds.specs.Meanings.{Meaning}

-- A card's force in a trick: 2 for trump, else 1 in the led card's class, else 0.
abbrev pub force : Meaning → Card → Card → ℕ
force m led card = cond (m.class card == 4) 2 (cond (m.class card == m.class led) 1 0)

-- A card beats another if its force is higher, or the forces are equal and above 0 and its rank is higher.
abbrev pub beats : Meaning → Card → Card → Card → Bool
beats m led a b = nat_lt (force m led b) (force m led a) || (force m led a == force m led b && nat_lt 0 (force m led a) && nat_lt (m.rank b) (m.rank a))

-- No card stands twice among these.
abbrev pub Different : List Card → Type 0
Different cards = (j k : ℕ) (d : Card) → j < k → k < 3 → slice_index_or cards j d ≢ slice_index_or cards k d

-- The card at i is the only one of three that none beats, the first of them led.
abbrev pub OnlyUnbeaten : Meaning → List Card → Card → ℕ → Type 0
OnlyUnbeaten m trick led i = (k : ℕ) → k < 3 → NoneAhead (beats m led) trick k → k ≡ i
