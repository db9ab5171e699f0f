-- What a cut pack, a kind and the accepted calls alone say of a deal, without a table.
use Rattle.std.specs.Prelude.{◌≡◌, ℕ, max, Bool, true, false, cond, not, ◌&&◌, ◌||◌, List, [], ◌∷◌, ◌++◌, length, Some, None, count_by, Option, ◌==◌}
use Rattle.cards.specs.declared.deck.Card.{Card}
use Rattle.cards.specs.declared.seats.Seat.{Seat}
use Rattle.cards.specs.declared.seats.Seat.TheVariants.{Forehand, Middlehand, Rearhand}
use Rattle.cards.specs.Deck.{card_number, card_at}
use Rattle.cards.specs.Seats.{following}
use Rattle.kinds.specs.Meanings.{Meaning}
use Rattle.rules.specs.declared.calls.Call.{Call}
use Rattle.rules.specs.declared.calls.Call.TheVariants.{Bid, Hold, Pass, Take, Put, Announce, Play}
use Rattle.rules.specs.declared.deals.Contract.{Contract}
use Rattle.rules.specs.declared.deals.Contract.TheVariants.{Undecided, Won, SkatTaken, Announced}
use Rattle.rules.specs.declared.deals.Pile.{Pile}
use Rattle.rules.specs.declared.deals.Pile.TheVariants.{InHand, InSkat, InTrick, WithDeclarer, WithDefenders}
use Rattle.rules.specs.declared.deals.Taken.{Taken}
use Rattle.rules.specs.Announcing.{game_at, level_at}
use Rattle.rules.specs.Board.{is_the, is_unbeaten}
use Rattle.rules.specs.Piles.{is_seat}

-- An accepted call with the seat that made it.
abbrev pub Made : Type 0
Made = Seat × Call

abbrev pub is_any : {A : Type 0} → (A → Bool) → List A → Bool
is_any test [] = false
is_any test (item ∷ items) = test item || is_any test items

-- The auction: who has passed, the largest bid, and whether a seat held.
abbrev pub pass_of : Seat → Seat → Call → Bool
pass_of seat by (Bid value) = false
pass_of seat by Hold = false
pass_of seat by Pass = is_seat by seat
pass_of seat by Take = false
pass_of seat by (Put a b) = false
pass_of seat by (Announce game level) = false
pass_of seat by (Play card) = false

abbrev pub is_pass : Seat → Made → Bool
is_pass seat made = pass_of seat made.0 made.1

abbrev pub has_passed : Seat → List Made → Bool
has_passed seat calls = is_any (is_pass seat) calls

abbrev pub value_of : Call → ℕ
value_of (Bid value) = value
value_of Hold = 0
value_of Pass = 0
value_of Take = 0
value_of (Put a b) = 0
value_of (Announce game level) = 0
value_of (Play card) = 0

abbrev pub largest_bid : List Made → ℕ
largest_bid [] = 0
largest_bid (made ∷ calls) = max (value_of made.1) (largest_bid calls)

abbrev pub hold_in : Call → Bool
hold_in (Bid value) = false
hold_in Hold = true
hold_in Pass = false
hold_in Take = false
hold_in (Put a b) = false
hold_in (Announce game level) = false
hold_in (Play card) = false

abbrev pub is_hold : Made → Bool
is_hold made = hold_in made.1

-- The highest bid: the largest, or 18 where forehand held and nothing was bid.
abbrev pub highest_bid : List Made → ℕ
highest_bid calls = cond (largest_bid calls == 0) (cond (is_any is_hold calls) 18 0) (largest_bid calls)

-- Of three seats the one that has not passed, if the two others have.
abbrev pub survivor : Bool → Bool → Bool → Option Seat
survivor false true true = Some Forehand
survivor true false true = Some Middlehand
survivor true true false = Some Rearhand
survivor true true true = None
survivor true false false = None
survivor false true false = None
survivor false false true = None
survivor false false false = None

-- The declarer is the one seat that has not passed once the two others have, if there is a bid.
abbrev pub declarer_in : List Made → Option Seat
declarer_in calls =
    cond (highest_bid calls == 0) None (survivor (has_passed Forehand calls) (has_passed Middlehand calls) (has_passed Rearhand calls))

-- A deal is passed in if all three have passed.
abbrev pub is_passed_in : List Made → Bool
is_passed_in calls = has_passed Forehand calls && (has_passed Middlehand calls && has_passed Rearhand calls)

-- The skat: whether it was taken, and which cards were put away.
abbrev pub take_in : Call → Bool
take_in (Bid value) = false
take_in Hold = false
take_in Pass = false
take_in Take = true
take_in (Put a b) = false
take_in (Announce game level) = false
take_in (Play card) = false

abbrev pub is_take : Made → Bool
is_take made = take_in made.1

abbrev pub put_in : Card → Call → Bool
put_in card (Bid value) = false
put_in card Hold = false
put_in card Pass = false
put_in card Take = false
put_in card (Put a b) = card_number card == a || card_number card == b
put_in card (Announce game level) = false
put_in card (Play other) = false

abbrev pub is_put : Card → Made → Bool
is_put card made = put_in card made.1

-- The announced game and level, if there are.
abbrev pub announced_or : Option (ℕ × ℕ) → Call → Option (ℕ × ℕ)
announced_or later (Bid value) = later
announced_or later Hold = later
announced_or later Pass = later
announced_or later Take = later
announced_or later (Put a b) = later
announced_or later (Announce game level) = Some (game, level)
announced_or later (Play card) = later

abbrev pub announced_in : List Made → Option (ℕ × ℕ)
announced_in [] = None
announced_in (made ∷ calls) = announced_or (announced_in calls) made.1

-- The contract: by hand if the skat was not taken.
abbrev pub contract_for : Seat → Bool → Option (ℕ × ℕ) → Contract
contract_for seat taken None = cond taken (SkatTaken seat) (Won seat)
contract_for seat taken (Some (game, level)) =
    Announced (record { declarer = seat; game = game_at game; level = level_at level; hand = not taken })

abbrev pub contract_with : Option Seat → Bool → Option (ℕ × ℕ) → Contract
contract_with None taken announced = Undecided
contract_with (Some seat) taken announced = contract_for seat taken announced

abbrev pub contract_in : List Made → Contract
contract_in calls = contract_with (declarer_in calls) (is_any is_take calls) (announced_in calls)

-- The plays in their order; by threes they are the tricks, and what is left is the open trick.
abbrev pub Play' : Type 0
Play' = Seat × Card

abbrev pub play_of : Seat → Call → List Play'
play_of seat (Bid value) = []
play_of seat Hold = []
play_of seat Pass = []
play_of seat Take = []
play_of seat (Put a b) = []
play_of seat (Announce game level) = []
play_of seat (Play card) = (seat, card_at card) ∷ []

abbrev pub plays_in : List Made → List Play'
plays_in [] = []
plays_in (made ∷ calls) = play_of made.0 made.1 ++ plays_in calls

abbrev pub Trick' : Type 0
Trick' = Play' × Play' × Play'

abbrev pub tricks_of : List Play' → List Trick'
tricks_of [] = []
tricks_of (a ∷ []) = []
tricks_of (a ∷ (b ∷ [])) = []
tricks_of (a ∷ (b ∷ (c ∷ plays))) = (a, b, c) ∷ tricks_of plays

abbrev pub open_of : List Play' → List Play'
open_of [] = []
open_of (a ∷ []) = a ∷ []
open_of (a ∷ (b ∷ [])) = a ∷ (b ∷ [])
open_of (a ∷ (b ∷ (c ∷ plays))) = open_of plays

-- Whether the first, the second or the third card of a trick is beaten by neither other.
abbrev pub first_is_best : Meaning → Trick' → Bool
first_is_best m trick = is_unbeaten m trick.0.1 trick.0.1 trick.1.1 trick.2.1

abbrev pub second_is_best : Meaning → Trick' → Bool
second_is_best m trick = is_unbeaten m trick.0.1 trick.1.1 trick.0.1 trick.2.1

abbrev pub third_is_best : Meaning → Trick' → Bool
third_is_best m trick = is_unbeaten m trick.0.1 trick.2.1 trick.0.1 trick.1.1

-- A trick goes to the earliest seat whose card neither other beats.
abbrev pub takes : Meaning → Trick' → Seat
takes m trick = cond (first_is_best m trick) trick.0.0 (cond (second_is_best m trick) trick.1.0 trick.2.0)

abbrev pub is_by : Meaning → Option Seat → Trick' → Bool
is_by m declarer trick = is_the declarer (takes m trick)

abbrev pub is_against : Meaning → Option Seat → Trick' → Bool
is_against m declarer trick = not (is_by m declarer trick)

-- Forehand leads to the first trick, and the taker of each to the next.
abbrev pub leader_after : Meaning → Seat → List Trick' → Seat
leader_after m leader [] = leader
leader_after m leader (trick ∷ tricks) = leader_after m (takes m trick) tricks

-- The tricks, the leader, the open trick and the last one by the accepted calls.
abbrev pub tricks_in : List Made → List Trick'
tricks_in calls = tricks_of (plays_in calls)

abbrev pub open_in : List Made → List Play'
open_in calls = open_of (plays_in calls)

abbrev pub taken_in : Meaning → List Made → Taken
taken_in m calls = record {
  declarer = count_by (is_by m (declarer_in calls)) (tricks_in calls);
  defenders = count_by (is_against m (declarer_in calls)) (tricks_in calls);
}

abbrev pub leader_in : Meaning → List Made → Seat
leader_in m calls = leader_after m Forehand (tricks_in calls)

abbrev pub cards_of : Trick' → List Card
cards_of trick = trick.0.1 ∷ (trick.1.1 ∷ (trick.2.1 ∷ []))

abbrev pub last_or : List Card → List Trick' → List Card
last_or cards [] = cards
last_or cards (trick ∷ tricks) = last_or (cards_of trick) tricks

-- The last trick lies there until the next lead.
abbrev pub last_under : List Play' → List Trick' → List Card
last_under [] tricks = last_or [] tricks
last_under (play ∷ plays) tricks = []

abbrev pub last_in : List Made → List Card
last_in calls = last_under (open_in calls) (tricks_in calls)

-- The deal is settled if it is passed in, after ten tricks, or where a trick of the declarer ends the play.
abbrev pub is_settled_in : Meaning → List Made → Bool
is_settled_in m calls =
    is_passed_in calls || (length (tricks_in calls) == 10 || (m.ends && is_any (is_by m (declarer_in calls)) (tricks_in calls)))

-- A card that was not played: put away, taken up with the skat, or where it was dealt.
abbrev pub taken_up : Option Seat → Bool → Pile → Pile
taken_up declarer taken (InHand holder) = InHand holder
taken_up None taken InSkat = InSkat
taken_up (Some seat) taken InSkat = cond taken (InHand seat) InSkat
taken_up declarer taken InTrick = InTrick
taken_up declarer taken WithDeclarer = WithDeclarer
taken_up declarer taken WithDefenders = WithDefenders

abbrev pub unplayed : Card → List Made → Pile → Pile
unplayed card calls dealt = cond (is_any (is_put card) calls) InSkat (taken_up (declarer_in calls) (is_any is_take calls) dealt)

-- A card that was played lies in the open trick, or with the side that took its trick.
abbrev pub is_card : Card → Play' → Bool
is_card card play = card_number card == card_number play.1

abbrev pub is_in : Card → Trick' → Bool
is_in card trick = is_card card trick.0 || (is_card card trick.1 || is_card card trick.2)

abbrev pub side_of : Bool → Pile
side_of by_declarer = cond by_declarer WithDeclarer WithDefenders

abbrev pub in_tricks : Meaning → Option Seat → Card → List Trick' → Pile → Pile
in_tricks m declarer card [] otherwise = otherwise
in_tricks m declarer card (trick ∷ tricks) otherwise = cond (is_in card trick) (side_of (is_by m declarer trick)) (in_tricks m declarer card tricks otherwise)

-- The pile of a card that was dealt to a pile.
abbrev pub pile_of : Meaning → Card → List Made → Pile → Pile
pile_of m card calls dealt =
    cond (is_any (is_card card) (open_in calls)) InTrick (in_tricks m (declarer_in calls) card (tricks_in calls) (unplayed card calls dealt))

-- The cards are played in turn: the leader, then the next two seats; the taker of a trick leads the next.
abbrev pub InTurn : Meaning → Seat → List Play' → Type 0
InTurn m leader [] = Unit {0}
InTurn m leader (a ∷ []) = a.0 ≡ leader
InTurn m leader (a ∷ (b ∷ [])) = (a.0 ≡ leader) × (b.0 ≡ following leader)
InTurn m leader (a ∷ (b ∷ (c ∷ plays))) =
    (a.0 ≡ leader) × (b.0 ≡ following leader) × (c.0 ≡ following (following leader)) × InTurn m (takes m (a, b, c)) plays

-- Of a trick's three cards exactly one is beaten by neither other, and its seat takes the trick.
pub data OneTakes (m : Meaning) (trick : Trick') : Type 0 where
  first : first_is_best m trick ≡ true → second_is_best m trick ≡ false → third_is_best m trick ≡ false → takes m trick ≡ trick.0.0 → OneTakes m trick
  second : first_is_best m trick ≡ false → second_is_best m trick ≡ true → third_is_best m trick ≡ false → takes m trick ≡ trick.1.0 → OneTakes m trick
  third : first_is_best m trick ≡ false → second_is_best m trick ≡ false → third_is_best m trick ≡ true → takes m trick ≡ trick.2.0 → OneTakes m trick
