-- The cards of a hand that serve the led card.
use Rattle.std.specs.Prelude.{ℕ, Bool, false, ◌&&◌, List, Option, slice_index_or}
use Rattle.kinds.specs.Meanings.{Meaning}
use Rattle.rules.specs.Permitted.{bits_below}
use Rattle.rules.specs.Serving.{is_of_class}

-- Whether a card is in the hand and of the class to serve.
abbrev pub is_playable : Meaning → List Bool → Option ℕ → ℕ → Bool
is_playable m hand class card = slice_index_or hand card false && is_of_class m class card

-- The cards of a hand that are of the class to serve, as bits.
unfoldable pub playable_of : Meaning → List Bool → Option ℕ → ℕ
playable_of m hand class = bits_below 32 (is_playable m hand class)
