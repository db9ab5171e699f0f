-- The trick on the table, who takes it, and whether a call serves the led card.
use Rattle.std.specs.Prelude.{ℕ, Bool, true, false, cond, not, ◌&&◌, ◌||◌, List, [], ◌∷◌, Some, None, Option, ◌==◌}
use Rattle.cards.specs.declared.deck.Card.{Card}
use Rattle.cards.specs.declared.seats.Seat.{Seat}
use Rattle.cards.specs.Deck.{card_at}
use Rattle.cards.specs.Seats.{following}
use Rattle.kinds.specs.Meanings.{Meaning}
use Rattle.kinds.specs.Tricks.{beats}
use Rattle.rules.specs.declared.deals.Contract.{Contract}
use Rattle.rules.specs.declared.deals.Contract.TheVariants.{Undecided, Won, SkatTaken, Announced}
use Rattle.rules.specs.declared.deals.Trick.{Trick}
use Rattle.rules.specs.declared.deals.Trick.TheVariants.{Empty, One, Two, Full}
use Rattle.rules.specs.Piles.{is_seat, marked}

-- The declarer, if there is one.
abbrev pub declarer_of : Contract → Option Seat
declarer_of Undecided = None
declarer_of (Won seat) = Some seat
declarer_of (SkatTaken seat) = Some seat
declarer_of (Announced announcement) = Some announcement.declarer

-- Whether this is the seat that there may be.
abbrev pub is_the : Option Seat → Seat → Bool
is_the None seat = false
is_the (Some other) seat = is_seat other seat

abbrev pub is_declarer : Contract → Seat → Bool
is_declarer contract seat = is_the (declarer_of contract) seat

-- The cards of the open trick and of the last one, as played.
abbrev pub open_cards : Trick → List Card
open_cards Empty = []
open_cards (One a) = a ∷ []
open_cards (Two a b) = a ∷ (b ∷ [])
open_cards (Full a b c) = []

abbrev pub last_cards : Trick → List Card
last_cards Empty = []
last_cards (One a) = []
last_cards (Two a b) = []
last_cards (Full a b c) = a ∷ (b ∷ (c ∷ []))

-- A card that neither of two others beats.
abbrev pub is_unbeaten : Meaning → Card → Card → Card → Card → Bool
is_unbeaten m led card other another = not (beats m led other card) && not (beats m led another card)

-- The earliest seat whose card neither other beats; the leader led a, the next two seats played b and c.
unfoldable pub taker_of : Meaning → Seat → Card → Card → Card → Seat
taker_of m leader a b c =
    cond (is_unbeaten m a a b c) leader (cond (is_unbeaten m a b a c) (following leader) (following (following leader)))

-- Whether one of these cards, by number, is of a class.
abbrev pub any_of_class : Meaning → ℕ → List ℕ → Bool
any_of_class m class [] = false
any_of_class m class (card ∷ cards) = m.class (card_at card) == class || any_of_class m class cards

-- A hand that holds the led card's class plays one of it.
abbrev pub serves : Meaning → List Bool → Card → ℕ → Bool
serves m hand led card = m.class (card_at card) == m.class led || not (any_of_class m (m.class led) (marked hand))

abbrev pub follows : Meaning → List Bool → Trick → ℕ → Bool
follows m hand Empty card = true
follows m hand (One led) card = serves m hand led card
follows m hand (Two led other) card = serves m hand led card
follows m hand (Full a b c) card = true
