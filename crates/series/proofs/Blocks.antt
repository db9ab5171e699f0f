-- Rows' bytes laid one after the other into a buffer, for `write_rows` and `write`.
use Rattle.std.proofs.Common.{◌≡◌, ℕ, ◌+◌, ◌-◌, ◌*◌, List, [], ◌∷◌, ◌++◌, length, take, drop, sym, refl, ap, ◌∙◌, append_assoc, arith}
use borrow.Rule.Slice.PartMut.{put_mid}
use Rattle.std.specs.List.{flat_map}
use Rattle.std.proofs.lemmas.List.{take_at, drop_at, drop-drop, length-append, length-drop, take_rest, drop_all, append-nil}
use Rattle.series.specs.declared.rows.Row.{Row}
use Rattle.series.specs.declared.rows.Places.{Places}
use Rattle.series.specs.Rows.{places_number}
use Rattle.series.specs.Format.{games, header, row_bytes, file_of, file_length}

pub length_rows : (rows : List Row) → length (flat_map row_bytes rows) ≡ 4 * length rows
length_rows [] = refl
length_rows (row ∷ rows) = omega (arith, length-append (row_bytes row) (flat_map row_bytes rows), length_rows rows)

pub length_header : (places rows games : ℕ) → length (header places rows games) ≡ 16
unfolding header
length_header places rows games = refl

pub length_file : (places : Places) (rows : List Row) → length (file_of places rows) ≡ file_length (length rows)
length_file places rows =
    let head = header (places_number places) (length rows) (games rows) in
    omega (arith, length-append head (flat_map row_bytes rows), length_header (places_number places) (length rows) (games rows), length_rows rows)

-- a header, and behind it what was written into the rest of the buffer
pub file_put : (head body old part whole : List ℕ) (n : ℕ) → length head ≡ 16 → length body ≡ n → whole ≡ head ++ drop 16 old → part ≡ body ++ drop n (take (length whole - 16) (drop 16 whole)) → put_mid 16 (length whole - 16) whole part ≡ (head ++ body) ++ drop (16 + n) old
file_put head body old part whole n long size is wrote =
    let rest : drop 16 whole ≡ drop 16 old = ap (drop 16) is ∙ drop_at head (drop 16 old) 16 long in
    let front : take 16 whole ≡ head = ap (take 16) is ∙ take_at head (drop 16 old) 16 long in
    let none : drop (length whole - 16) (drop 16 whole) ≡ [] = drop_all (length whole - 16) (drop 16 whole) (omega (arith, length-drop 16 whole)) in
    let body_end : part ≡ body ++ drop (16 + n) old = wrote ∙ ap (λ ys. body ++ ys) (ap (drop n) (take_rest whole 16 ∙ rest) ∙ drop-drop n 16 old) in
    ap (λ p. p ++ (part ++ drop (length whole - 16) (drop 16 whole))) front
    ∙ (ap (λ q. head ++ (part ++ q)) none
    ∙ (ap (λ q. head ++ q) (append-nil part ∙ body_end) ∙ sym (append_assoc head body (drop (16 + n) old))))
