-- The report on the file of a list: a line for each place, and the place that is first.
use Rattle.std.specs.Prelude.{◌≡◌, ℕ, true, List, ◌++◌, map, Some, None, codes, decimal, Option}
use Rattle.std.specs.List.{range_with_len, flat_map}
use Rattle.cards.specs.declared.refusals.Refusal.{Refusal}
use Rattle.cards.specs.First.{IsFirst}
use Rattle.cards.specs.Refusals.{refusal_number}
use Rattle.series.specs.declared.rows.Places.{Places}
use Rattle.series.specs.declared.rows.Row.{Row}
use Rattle.series.specs.declared.totals.Totals.{Totals}
use Rattle.series.specs.Format.{file_of, file_refusal}
use Rattle.series.specs.Lines.{totals_text}
use Rattle.series.specs.Rows.{places_number, are_rows}
use Rattle.series.specs.Totals.{totals_of}
use Rattle.ranking.specs.declared.standings.Entry.{Entry}
use Rattle.ranking.specs.Standings.{is_ahead, rank_at, EarliestOfRankOne}

-- What totals are ranked by.
abbrev pub entry_of : Totals → Entry
entry_of totals = record { rating = totals.rating; won = totals.won; lost = totals.lost }

-- What a place of a list is ranked by.
abbrev pub entry_for : ℕ → List Row → ℕ → Entry
entry_for n rows place = entry_of (totals_of n place rows)

-- The entries of all places of a list.
abbrev pub entries_of : ℕ → List Row → List Entry
entries_of n rows = map (entry_for n rows) (range_with_len 0 n)

-- A place's line: its number, game points, games won, games lost, rating and rank.
abbrev pub line_text : ℕ → Totals → ℕ → List ℕ
line_text place totals rank = totals_text place totals ++ (codes " " ++ (decimal rank ++ codes "\n"))

-- The line of a place of a list.
abbrev pub place_text : ℕ → List Row → ℕ → List ℕ
place_text n rows place = line_text place (totals_of n place rows) (rank_at (entries_of n rows) place)

-- The lines of all places, and a last one with the place that is first: the earliest of rank 1.
abbrev pub IsStanding : ℕ → List Row → List ℕ → Type 0
IsStanding n rows text =
    (first : ℕ)
    × IsFirst is_ahead (entries_of n rows) first
    × EarliestOfRankOne (entries_of n rows) first
    × (text ≡ flat_map (place_text n rows) (range_with_len 0 n) ++ (decimal first ++ codes "\n"))

-- The report on a file: the standing of the list whose file it is, or the refusal's number alone.
abbrev pub ReportBy : Option Refusal → List ℕ → List ℕ → Type 0
ReportBy None file text = (places : Places) × (rows : List Row) × (are_rows rows ≡ true) × (file_of places rows ≡ file) × IsStanding (places_number places) rows text
ReportBy (Some refusal) file text = text ≡ decimal (refusal_number refusal) ++ codes "\n"

abbrev pub IsReport : List ℕ → List ℕ → Type 0
IsReport file text = ReportBy (file_refusal file) file text
