-- What a hand has to serve, found once for all its cards.
use Rattle.std.specs.Prelude.{ℕ, Bool, true, cond, List, Some, None, Option, ◌==◌}
use Rattle.cards.specs.Deck.{card_at}
use Rattle.kinds.specs.Meanings.{Meaning}
use Rattle.rules.specs.declared.deals.Trick.{Trick}
use Rattle.rules.specs.declared.deals.Trick.TheVariants.{Empty, One, Two, Full}
use Rattle.rules.specs.Board.{any_of_class}
use Rattle.rules.specs.Piles.{marked}

-- A class, where a hand holds a card of it.
abbrev pub class_if_held : Meaning → List Bool → ℕ → Option ℕ
class_if_held m hand class = cond (any_of_class m class (marked hand)) (Some class) None

-- The class that a hand has to serve: the led card's, where it holds a card of it.
abbrev pub class_to_serve : Meaning → List Bool → Trick → Option ℕ
class_to_serve m hand Empty = None
class_to_serve m hand (One led) = class_if_held m hand (m.class led)
class_to_serve m hand (Two led other) = class_if_held m hand (m.class led)
class_to_serve m hand (Full a b c) = None

-- Whether a card is of the class to serve, if there is one.
abbrev pub is_of_class : Meaning → Option ℕ → ℕ → Bool
is_of_class m None card = true
is_of_class m (Some class) card = m.class (card_at card) == class
