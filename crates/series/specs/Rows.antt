-- Rows and places: which rows a list may have, and what it answers to others.
use Rattle.std.specs.Prelude.{◌≡◌, ℕ, Bool, true, false, cond, not, ◌&&◌, ◌||◌, List, [], ◌∷◌, ◌++◌, ℤ, pos, Some, None, Ok, Err, Option, Result, ◌==◌, int_le, nat_le}
use Rattle.cards.specs.declared.refusals.Refusal.{Refusal}
use Rattle.cards.specs.declared.refusals.Refusal.TheVariants.{NoSuchRole, ListFull, PointsNotAllowed}
use Rattle.cards.specs.declared.seats.Seat.{Seat}
use Rattle.cards.specs.Refusals.{topmost}
use Rattle.cards.specs.Seats.{seat_number}
use Rattle.cards.specs.Units.{is_game_value}
use Rattle.series.specs.declared.rows.Places.{Places}
use Rattle.series.specs.declared.rows.Places.TheVariants.{Three, Four}
use Rattle.series.specs.declared.rows.Row.{Row}
use Rattle.series.specs.declared.rows.Row.TheVariants.{PassedIn, Game}

abbrev pub places_number : Places → ℕ
places_number Three = 3
places_number Four = 4

-- A list has three or four places.
abbrev pub is_places : ℕ → Bool
is_places n = n == 3 || n == 4

-- A list has at most 48 rows.
abbrev pub most_rows : ℕ
most_rows = 48

-- A row's role as a number: the declarer's seat, or 255 where the deal was passed in.
abbrev pub role_number : Row → ℕ
role_number PassedIn = 255
role_number (Game declarer points) = seat_number declarer

-- What a row counts for its declarer; 0 where the deal was passed in.
abbrev pub points_of : Row → ℤ
points_of PassedIn = pos 0
points_of (Game declarer points) = points.0

-- A deal that was passed in is a row and no game.
abbrev pub is_game : Row → Bool
is_game PassedIn = false
is_game (Game declarer points) = true

-- Whether a row may stand on a list.
abbrev pub is_row : Row → Bool
is_row PassedIn = true
is_row (Game declarer points) = is_game_value points.0

-- Whether all of these rows may stand on a list.
abbrev pub are_rows : List Row → Bool
are_rows [] = true
are_rows (row ∷ rows) = is_row row && are_rows rows

-- The row of this role and these points.
abbrev pub IsRowOf : ℕ → ℤ → Row → Type 0
IsRowOf role points row = (role_number row ≡ role) × (points_of row ≡ points)

-- A role is a seat or 255.
abbrev pub is_role : ℕ → Bool
is_role role = nat_le role 2 || role == 255

-- Points that go with a role: 0 without a declarer, else what a game can count.
abbrev pub goes_with : ℕ → ℤ → Bool
goes_with role points = cond (role == 255) (int_le points (pos 0) && int_le (pos 0) points) (is_game_value points)

-- Why there is no row of this role and these points.
abbrev pub row_refusal : ℕ → ℤ → Option Refusal
row_refusal role points = topmost ((NoSuchRole, not (is_role role)) ∷ ((PointsNotAllowed, not (goes_with role points)) ∷ []))

-- Why a row is not entered on a list that has so many rows.
abbrev pub entry_refusal : ℕ → ℕ → ℤ → Option Refusal
entry_refusal rows role points =
    topmost ((NoSuchRole, not (is_role role)) ∷ ((ListFull, nat_le most_rows rows) ∷ ((PointsNotAllowed, not (goes_with role points)) ∷ [])))

-- The role of a declarer, or of none.
abbrev pub declarer_number : Option Seat → ℕ
declarer_number None = 255
declarer_number (Some declarer) = seat_number declarer

-- What a role names: a declarer or none, or it is no role.
abbrev pub DeclarerNamed : ℕ → Result (Option Seat) Refusal → Type 0
DeclarerNamed role (Ok declarer) = declarer_number declarer ≡ role
DeclarerNamed role (Err refusal) = (refusal ≡ NoSuchRole) × (is_role role ≡ false)

-- What making a row of a declarer or none gives.
abbrev pub RowOf : Option Seat → ℤ → Result Row Refusal → Type 0
RowOf declarer points (Ok row) = IsRowOf (declarer_number declarer) points row × (is_row row ≡ true)
RowOf declarer points (Err refusal) = (refusal ≡ PointsNotAllowed) × (goes_with (declarer_number declarer) points ≡ false)

-- What making a row gives: the row, which may stand on a list, or why there is none.
abbrev pub RowMade : ℕ → ℤ → Result Row Refusal → Type 0
RowMade role points (Ok row) = (row_refusal role points ≡ None) × IsRowOf role points row × (is_row row ≡ true)
RowMade role points (Err refusal) = row_refusal role points ≡ Some refusal

-- The rows of a list after one more was entered.
abbrev pub Entered : ℕ → ℤ → List Row → List Row → Type 0
Entered role points before after = (row : Row) × IsRowOf role points row × (after ≡ before ++ row ∷ [])
