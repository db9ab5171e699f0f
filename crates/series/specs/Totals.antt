-- What a list counts for a place: sums over its rows.
use Rattle.std.specs.Prelude.{◌≡◌, ℕ, ◌+◌, ◌*◌, ◌%◌, ◌≤◌, Bool, false, cond, not, ◌&&◌, ◌||◌, List, [], ◌∷◌, ℤ, pos, ◌+ℤ◌, ◌-ℤ◌, neg_ℤ, ◌≤ℤ◌, Ok, Err, Result, ◌==◌, int_lt, nat_lt}
use Rattle.cards.specs.declared.seats.Seat.{Seat}
use Rattle.cards.specs.declared.seats.Seat.TheVariants.{Forehand, Middlehand, Rearhand}
use Rattle.cards.specs.declared.refusals.Refusal.{Refusal}
use Rattle.cards.specs.declared.refusals.Refusal.TheVariants.{NoSuchEntry}
use Rattle.cards.specs.Seats.{seat_number}
use Rattle.series.specs.declared.rows.Row.{Row}
use Rattle.series.specs.declared.rows.Row.TheVariants.{PassedIn, Game}
use Rattle.series.specs.declared.totals.Tally.{Tally}
use Rattle.series.specs.declared.totals.Totals.{Totals}
use Rattle.series.specs.Rows.{most_rows, points_of}

-- Row i of a list of n places is dealt by place i modulo n.
abbrev pub dealer : ℕ → ℕ → ℕ
dealer n i = i % n

-- Forehand, middlehand and rearhand are the next three places after the dealer.
abbrev pub place_of : ℕ → ℕ → Seat → ℕ
place_of n i seat = (dealer n i + 1 + seat_number seat) % n

-- Whether a place has a seat in row i: at a table of four the dealer sits out.
abbrev pub sits : ℕ → ℕ → ℕ → Bool
sits n place i = place_of n i Forehand == place || place_of n i Middlehand == place || place_of n i Rearhand == place

-- Whether a place is the declarer of row i.
abbrev pub declares : ℕ → ℕ → ℕ → Row → Bool
declares n place i PassedIn = false
declares n place i (Game declarer points) = place_of n i declarer == place

-- Whether a place is a defender of row i.
abbrev pub defends : ℕ → ℕ → ℕ → Row → Bool
defends n place i PassedIn = false
defends n place i (Game declarer points) = sits n place i && not (place_of n i declarer == place)

-- A game is won if it counts more than 0, and lost if it counts less.
abbrev pub is_won : Row → Bool
is_won row = int_lt (pos 0) (points_of row)

abbrev pub is_lost : Row → Bool
is_lost row = int_lt (points_of row) (pos 0)

-- The sum over rows, the first of them being row i, of what each counts.
abbrev pub sum_over : (ℕ → Row → ℤ) → ℕ → List Row → ℤ
sum_over counts i [] = pos 0
sum_over counts i (row ∷ rows) = counts i row +ℤ sum_over counts (i + 1) rows

-- The number of rows, the first of them being row i, that pass a test.
abbrev pub number_of : (ℕ → Row → Bool) → ℕ → List Row → ℕ
number_of test i [] = 0
number_of test i (row ∷ rows) = cond (test i row) 1 0 + number_of test (i + 1) rows

module _ (n place : ℕ) where
  -- What row i counts for the place.
  abbrev pub counts_for : ℕ → Row → ℤ
  counts_for i row = cond (declares n place i row) (points_of row) (pos 0)

  -- Whether the place won, lost, or defended a lost game in row i.
  abbrev pub wins_in : ℕ → Row → Bool
  wins_in i row = declares n place i row && is_won row

  abbrev pub loses_in : ℕ → Row → Bool
  loses_in i row = declares n place i row && is_lost row

  abbrev pub defends_loss_in : ℕ → Row → Bool
  defends_loss_in i row = defends n place i row && is_lost row

  -- The sums over all rows.
  abbrev pub game_points : List Row → ℤ
  game_points rows = sum_over counts_for 0 rows

  abbrev pub games_won : List Row → ℕ
  games_won rows = number_of wins_in 0 rows

  abbrev pub games_lost : List Row → ℕ
  games_lost rows = number_of loses_in 0 rows

  -- How many games the place defended that their declarer lost.
  abbrev pub losses_defended : List Row → ℕ
  losses_defended rows = number_of defends_loss_in 0 rows

-- A tally holds a place's sums, each within what 48 rows can count.
pub record IsTally (n place : ℕ) (rows : List Row) (tally : Tally) : Type 0 where
  pub points : tally.points.0 ≡ game_points n place rows
  pub won : tally.won ≡ games_won n place rows
  pub lost : tally.lost ≡ games_lost n place rows
  pub defended : tally.defended ≡ losses_defended n place rows
  pub low : neg_ℤ (pos (540 * most_rows)) ≤ℤ tally.points.0
  pub high : tally.points.0 ≤ℤ pos (264 * most_rows)
  pub few : (tally.won ≤ most_rows) × (tally.lost ≤ most_rows) × (tally.defended ≤ most_rows)

-- Game points, 50 for each game won, less 50 for each game lost, and 40 for each loss defended.
abbrev pub rating_of : ℤ → ℕ → ℕ → ℕ → ℤ
rating_of points won lost defended = ((points +ℤ pos (50 * won)) -ℤ pos (50 * lost)) +ℤ pos (40 * defended)

-- All that a list of n places counts for a place.
abbrev pub totals_of : ℕ → ℕ → List Row → Totals
totals_of n place rows = record {
  points = record { 0 = game_points n place rows };
  won = games_won n place rows;
  lost = games_lost n place rows;
  rating = record { 0 = rating_of (game_points n place rows) (games_won n place rows) (games_lost n place rows) (losses_defended n place rows) };
}

-- The totals of a place, or 27 where it is not there.
abbrev pub totals_answer : ℕ → ℕ → List Row → Result Totals Refusal
totals_answer n place rows = cond (nat_lt place n) (Ok (totals_of n place rows)) (Err NoSuchEntry)
