-- The number of each refusal, and which of several counts.
use Rattle.std.specs.Prelude.{ℕ, Bool, cond, List, [], ◌∷◌, Some, None, Ok, Err, Option, Result}
use Rattle.cards.specs.declared.refusals.Refusal.{Refusal}
use Rattle.cards.specs.declared.refusals.Refusal.TheVariants.{NoSuchRole, NoSuchSeat, DealIsSettled, NotThisSeatsTurn, NotInThisMoment, NoBidValue, BidTooLow, NoSuchCard, SameCardTwice, CardNotHeld, LedClassHeld, NoSuchGame, LevelNotOpen, NullBelowBid, BufferTooShort, NotAPack, NoSuchMark, NotSettledYet, ListFull, PointsNotAllowed, FileTooShort, WrongTag, NotAList, RowNotAllowed, WrongGamesCount, NoSuchEntry}

abbrev pub refusal_number : Refusal → ℕ
refusal_number NoSuchRole = 1
refusal_number NoSuchSeat = 1
refusal_number DealIsSettled = 2
refusal_number NotThisSeatsTurn = 3
refusal_number NotInThisMoment = 4
refusal_number NoBidValue = 5
refusal_number BidTooLow = 6
refusal_number NoSuchCard = 7
refusal_number SameCardTwice = 8
refusal_number CardNotHeld = 9
refusal_number LedClassHeld = 10
refusal_number NoSuchGame = 11
refusal_number LevelNotOpen = 12
refusal_number NullBelowBid = 13
refusal_number BufferTooShort = 14
refusal_number NotAPack = 15
refusal_number NoSuchMark = 16
refusal_number NotSettledYet = 17
refusal_number ListFull = 18
refusal_number PointsNotAllowed = 19
refusal_number FileTooShort = 20
refusal_number WrongTag = 21
refusal_number NotAList = 22
refusal_number RowNotAllowed = 23
refusal_number WrongGamesCount = 24
refusal_number NoSuchEntry = 27

-- Of several refusals, each with its condition, the topmost that fits.
abbrev pub topmost : List (Refusal × Bool) → Option Refusal
topmost [] = None
topmost (row ∷ rows) = cond row.1 (Some row.0) (topmost rows)

-- What is answered: the value where nothing is refused.
abbrev pub answered : {A : Type 0} → Option Refusal → A → Result A Refusal
answered None value = Ok value
answered (Some refusal) value = Err refusal
