-- Who gets which card of a pack.
use Rattle.std.specs.Prelude.{◌≡◌, ℕ, ◌-◌, ◌<◌, cond, List, [], ◌∷◌, ◌++◌, nat_lt, slice_index_or}
use Rattle.cards.specs.declared.deck.Card.{Card}
use Rattle.cards.specs.declared.seats.Seat.TheVariants.{Forehand, Middlehand, Rearhand}
use Rattle.cards.specs.declared.dealing.Dealt.{Dealt}
use Rattle.cards.specs.declared.dealing.Dealt.TheVariants.{Hand, Skat}
use Rattle.cards.specs.Deck.{card_number}

-- A round of so many cards for forehand, middlehand and rearhand in turn.
abbrev pub round : ℕ → List (ℕ × Dealt)
round n = (n, Hand Forehand) ∷ ((n, Hand Middlehand) ∷ ((n, Hand Rearhand) ∷ []))

-- How many cards go to whom, from the top: three each, two for the skat, four each, three each.
abbrev pub turns : List (ℕ × Dealt)
turns = round 3 ++ ((2, Skat) ∷ (round 4 ++ round 3))

-- Who gets the card at a position, counted from the first of these turns.
abbrev pub receiver_in : List (ℕ × Dealt) → ℕ → Dealt
receiver_in [] position = Skat
receiver_in (turn ∷ turns) position = cond (nat_lt position turn.0) turn.1 (receiver_in turns (position - turn.0))

-- Who gets the card that stands at this position from the top.
abbrev pub receiver : ℕ → Dealt
receiver position = receiver_in turns position

-- What was dealt, listed by the cards' numbers: each card lies where its position in the pack sends it.
abbrev pub DealtAs : List Card → List Dealt → Type 0
DealtAs cards dealt = (position : ℕ) (d : Card) → position < 32 → slice_index_or dealt (card_number (slice_index_or cards position d)) Skat ≡ receiver position
