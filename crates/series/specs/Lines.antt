-- The totals of a place as text.
use Rattle.std.specs.Prelude.{ℕ, List, ◌++◌, codes, decimal}
use Rattle.std.specs.Fmt.{signed_decimal}
use Rattle.series.specs.declared.totals.Totals.{Totals}

-- Game points, games won, games lost and rating, with a space between each two.
abbrev pub totals_numbers : Totals → List ℕ
totals_numbers totals =
    signed_decimal totals.points.0 ++ (codes " " ++ (decimal totals.won ++ (codes " " ++ (decimal totals.lost ++ (codes " " ++ signed_decimal totals.rating.0)))))

-- A place's number, game points, games won, games lost and rating.
abbrev pub totals_text : ℕ → Totals → List ℕ
totals_text place totals = decimal place ++ (codes " " ++ totals_numbers totals)
