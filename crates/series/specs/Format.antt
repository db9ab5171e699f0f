-- The file of a list: which bytes it has, and why other bytes are refused.
use Rattle.std.specs.Prelude.{◌≡◌, ℕ, suc, ◌+◌, ◌-◌, ◌*◌, ◌/◌, ◌%◌, ◌<◌, ◌≤◌, Bool, true, false, cond, not, ◌&&◌, List, [], ◌∷◌, ◌++◌, map, length, drop, ℤ, pos, negsuc, Some, None, Ok, Err, codes, count_by, Option, Result, ◌==◌, nat_le, nat_lt, slice_index}
use Rattle.std.specs.List.{flat_map}
use Rattle.cards.specs.declared.refusals.Refusal.{Refusal}
use Rattle.cards.specs.declared.refusals.Refusal.TheVariants.{BufferTooShort, FileTooShort, WrongTag, NotAList, RowNotAllowed, WrongGamesCount}
use Rattle.cards.specs.Refusals.{topmost}
use Rattle.arrayvec.specs.ArrayVec.{ArrayVec}
use Rattle.series.specs.declared.rows.Places.{Places}
use Rattle.series.specs.declared.reading.Header.{Header}
use Rattle.series.specs.declared.lists.Listed.{Listed}
use Rattle.series.specs.declared.rows.Row.{Row}
use Rattle.series.specs.Rows.{places_number, is_places, is_role, goes_with, role_number, points_of, is_game, is_row, are_rows, most_rows}

-- A number in two and in four bytes, low byte first.
abbrev pub in_two : ℕ → List ℕ
in_two n = n % 256 ∷ (n / 256 % 256 ∷ [])

abbrev pub in_four : ℕ → List ℕ
in_four n = n % 256 ∷ (n / 256 % 256 ∷ (n / 65536 % 256 ∷ (n / 16777216 % 256 ∷ [])))

-- A signed number as the unsigned one of the same 16 bits.
abbrev pub bits16 : ℤ → ℕ
bits16 (pos n) = n
bits16 (negsuc n) = 65536 - suc n

-- How many rows are games: those with a declarer.
abbrev pub games : List Row → ℕ
games rows = count_by is_game rows

-- A row's four bytes: role, zero, points.
abbrev pub row_bytes : Row → List ℕ
row_bytes row = role_number row ∷ (0 ∷ in_two (bits16 (points_of row)))

-- The length of the file of so many rows.
abbrev pub file_length : ℕ → ℕ
file_length rows = 16 + 4 * rows

-- A file begins with these letters.
abbrev pub tag : List ℕ
tag = codes "SKL1"

-- The first 16 bytes: tag, places, zero, rows, games, offset of the first row, whole length.
unfoldable pub header : ℕ → ℕ → ℕ → List ℕ
header places rows games =
    tag ++ (places ∷ (0 ∷ (in_two rows ++ (in_two games ++ (in_two 16 ++ in_four (file_length rows))))))

-- The file of a list.
abbrev pub file_of : Places → List Row → List ℕ
file_of places rows = header (places_number places) (length rows) (games rows) ++ flat_map row_bytes rows

-- What a buffer holds after a file was written into its front.
abbrev pub written : List ℕ → List ℕ → List ℕ
written file before = file ++ drop (length file) before

-- A file written into a buffer, and how many bytes that were; a buffer that is too short is left whole.
abbrev pub Written : List ℕ → List ℕ → List ℕ → Result ℕ Refusal → Type 0
Written file before after (Ok count) = (count ≡ length file) × (length file ≤ length before) × (after ≡ written file before)
Written file before after (Err refusal) = (refusal ≡ BufferTooShort) × (length before < length file) × (after ≡ before)

-- The numbers that two and four bytes hold from a place on, low byte first.
abbrev pub two_at : List ℕ → ℕ → ℕ
two_at bytes i = slice_index bytes i + slice_index bytes (i + 1) * 256

abbrev pub four_at : List ℕ → ℕ → ℕ
four_at bytes i = slice_index bytes i + slice_index bytes (i + 1) * 256 + slice_index bytes (i + 2) * 65536 + slice_index bytes (i + 3) * 16777216

-- A signed number of 16 bits from the unsigned one.
abbrev pub signed16 : ℕ → ℤ
signed16 n = cond (nat_lt n 32768) (pos n) (negsuc (65536 - suc n))

-- A row as a file has it.
pub record RawRow : Type 0 where
  pub role : ℕ
  pub second : ℕ
  pub points : ℤ

-- The row in four bytes.
abbrev pub raw_from : ℕ → ℕ → ℕ → ℕ → RawRow
raw_from a b c d = record { role = a; second = b; points = signed16 (c + d * 256) }

-- The row in the four bytes from a place on.
abbrev pub raw_at : List ℕ → ℕ → RawRow
raw_at bytes at = raw_from (slice_index bytes at) (slice_index bytes (at + 1)) (slice_index bytes (at + 2)) (slice_index bytes (at + 3))

-- The rows in these bytes, four bytes each.
abbrev pub raw_rows : List ℕ → List RawRow
raw_rows [] = []
raw_rows (a ∷ []) = []
raw_rows (a ∷ (b ∷ [])) = []
raw_rows (a ∷ (b ∷ (c ∷ []))) = []
raw_rows (a ∷ (b ∷ (c ∷ (d ∷ rest)))) = raw_from a b c d ∷ raw_rows rest

-- What a file has of a row of a list.
abbrev pub raw_of : Row → RawRow
raw_of row = record { role = role_number row; second = 0; points = points_of row }

-- A row of a file: a role, a zero, and points that go with the role.
abbrev pub is_raw_row : RawRow → Bool
is_raw_row raw = is_role raw.role && goes_with raw.role raw.points && raw.second == 0

abbrev pub are_raw_rows : List RawRow → Bool
are_raw_rows [] = true
are_raw_rows (raw ∷ raws) = is_raw_row raw && are_raw_rows raws

abbrev pub is_raw_game : RawRow → Bool
is_raw_game raw = not (raw.role == 255)

-- The fields of the header, and the rows from its offset on.
abbrev pub rows_field : List ℕ → ℕ
rows_field file = two_at file 6

abbrev pub games_field : List ℕ → ℕ
games_field file = two_at file 8

abbrev pub offset_field : List ℕ → ℕ
offset_field file = two_at file 10

abbrev pub length_field : List ℕ → ℕ
length_field file = four_at file 12

abbrev pub rows_in : List ℕ → List RawRow
rows_in file = raw_rows (drop (offset_field file) file)

-- Whether a file begins with the tag.
abbrev pub is_tag : List ℕ → Bool
is_tag file = slice_index file 0 == slice_index tag 0 && slice_index file 1 == slice_index tag 1 && slice_index file 2 == slice_index tag 2 && slice_index file 3 == slice_index tag 3

-- Whether the other header fields are those of these bytes, the games aside.
abbrev pub is_header : List ℕ → Bool
is_header file =
    is_places (slice_index file 4)
    && slice_index file 5 == 0
    && nat_le (rows_field file) most_rows
    && offset_field file == 16
    && length_field file == file_length (rows_field file)
    && length_field file == length file

-- Why bytes are not the file of a list: what is refused in the header, and then in the rows.
abbrev pub header_refusals : List ℕ → List (Refusal × Bool)
header_refusals file =
    (FileTooShort, nat_lt (length file) 16) ∷ ((WrongTag, not (is_tag file)) ∷ ((NotAList, not (is_header file)) ∷ []))

abbrev pub row_refusals : List ℕ → List (Refusal × Bool)
row_refusals file =
    (RowNotAllowed, not (are_raw_rows (rows_in file))) ∷ ((WrongGamesCount, not (games_field file == count_by is_raw_game (rows_in file))) ∷ [])

-- The refusal of a file: the topmost that fits.
unfoldable pub file_refusal : List ℕ → Option Refusal
file_refusal file = topmost (header_refusals file ++ row_refusals file)

-- What reading a header gives: its fields, or why it is none.
abbrev pub HeaderRead : List ℕ → Result Header Refusal → Type 0
HeaderRead file (Ok head) =
    (topmost (header_refusals file) ≡ None)
    × (places_number head.places ≡ slice_index file 4)
    × (head.games ≡ games_field file)
    × (head.offset ≡ offset_field file)
HeaderRead file (Err refusal) = topmost (header_refusals file) ≡ Some refusal

-- What reading a row's four bytes gives.
abbrev pub RowRead : List ℕ → Result Row Refusal → Type 0
RowRead bytes (Ok row) = (raw_at bytes 0 ≡ raw_of row) × (is_row row ≡ true)
RowRead bytes (Err refusal) = (refusal ≡ RowNotAllowed) × (is_raw_row (raw_at bytes 0) ≡ false)

-- What reading rows gives, four bytes each.
abbrev pub RowsRead : List ℕ → Result (ArrayVec Row) Refusal → Type 0
RowsRead part (Ok rows) = (raw_rows part ≡ map raw_of rows.items) × (length rows.items ≡ length part / 4) × (are_rows rows.items ≡ true)
RowsRead part (Err refusal) = (refusal ≡ RowNotAllowed) × (are_raw_rows (raw_rows part) ≡ false)

-- What reading a file gives: the list whose file it is, or why it is none.
abbrev pub FileRead : List ℕ → Result Listed Refusal → Type 0
FileRead file (Ok listed) =
    (file_refusal file ≡ None) × (file_of listed.places listed.rows.items ≡ file)
FileRead file (Err refusal) = file_refusal file ≡ Some refusal

-- A file read into a list: it has rows that may stand on one and this file, or it is refused and the list is as it was.
abbrev pub ListRead : List ℕ → Result (Unit {0}) Refusal → Places → List Row → Places → List Row → Type 0
ListRead file (Ok _) places rows new_places new_rows = (are_rows new_rows ≡ true) × (file_of new_places new_rows ≡ file)
ListRead file (Err refusal) places rows new_places new_rows = (new_places ≡ places) × (new_rows ≡ rows)

-- Whatever list the file was written from, it is accepted, and that list is what it gives.
abbrev pub ReadBack : List ℕ → Result (Unit {0}) Refusal → Places → List Row → Type 0
ReadBack file answer new_places new_rows =
    (places : Places) (rows : List Row) → are_rows rows ≡ true → length rows ≤ most_rows → file ≡ file_of places rows → (answer ≡ Ok tt) × (new_places ≡ places) × (new_rows ≡ rows)
