-- One more row at the end of rows that may stand on a list.
use Rattle.std.proofs.Common.{◌≡◌, true, List, [], ◌∷◌, ◌++◌, refl}
use Rattle.std.proofs.lemmas.Bool.{and_parts, and_from}
use Rattle.series.specs.declared.rows.Row.{Row}
use Rattle.series.specs.Rows.{is_row, are_rows}

pub are_rows-push : (rows : List Row) (row : Row) → are_rows rows ≡ true → is_row row ≡ true → are_rows (rows ++ row ∷ []) ≡ true
are_rows-push [] row all one = and_from (is_row row) true one refl
are_rows-push (x ∷ rows) row all one =
    let parts = and_parts (is_row x) (are_rows rows) all in
    and_from (is_row x) (are_rows (rows ++ row ∷ [])) parts.0 (are_rows-push rows row parts.1 one)
