-- The bytes of a list and the list of bytes, for `read`.
use Rattle.std.proofs.Common.{◌≡◌, ℕ, ◌+◌, ◌-◌, ◌*◌, ◌/◌, ◌%◌, ◌<◌, ◌≤◌, Bool, true, false, not, eqb, ltb, leb, List, [], ◌∷◌, ◌++◌, map, length, get_or, drop, Some, None, Ok, count_by, Result, sym, refl, ap, ◌∙◌, subst, arith}
use Rattle.std.specs.List.{flat_map}
use Rattle.std.proofs.lemmas.List.{drop_at, get_or-drop, length-drop}
use Rattle.std.proofs.lemmas.Bool.{and_from, eqb-true, eqb-false, le-ltb, le-leb, eq-eqb, ne_eqb}
use Rattle.std.proofs.lemmas.List.Sums.{count_by-le-length}
use Rattle.cards.specs.declared.refusals.Refusal.{Refusal}
use Rattle.cards.specs.declared.refusals.Refusal.TheVariants.{FileTooShort, WrongTag, NotAList, RowNotAllowed, WrongGamesCount}
use Rattle.cards.specs.Refusals.{topmost, answered}
use Rattle.cards.proofs.Topmost.{none_from}
use Rattle.series.specs.declared.rows.Places.{Places}
use Rattle.series.specs.declared.rows.Places.TheVariants.{Three, Four}
use Rattle.series.specs.declared.rows.Row.{Row}
use Rattle.series.specs.Rows.{places_number, is_places, is_game, are_rows}
use Rattle.series.specs.Format.{games, header, file_of, file_length, row_bytes, raw_of, raw_rows, are_raw_rows, is_raw_game, rows_field, games_field, offset_field, length_field, rows_in, is_tag, is_header, header_refusals, file_refusal, ListRead, ReadBack}
use Rattle.series.proofs.Blocks.{length_header, length_file}
use Rattle.series.proofs.Rounds.{two_join, small_join, raws_of, bytes_of, raw_games, raws_good, same_rows}
use Rattle.series.proofs.Headers.{HeaderFacts, header_facts, head_is, rows_refused, games_refused, accepted}

module _ (file : List ℕ) (small : (i : ℕ) → get_or file i 0 < 256) (facts : HeaderFacts file) where
  -- the list that was read has these bytes for its file
  pub read_is : (places : Places) (rows : List Row) → places_number places ≡ get_or file 4 0 → length rows ≡ rows_field file → rows_in file ≡ map raw_of rows → games rows ≡ games_field file → file_of places rows ≡ file
  read_is places rows seats count is played =
      let body : drop 16 file ≡ flat_map row_bytes rows =
      bytes_of (drop 16 file) rows
      (λ i. subst (λ k. k < 256) (sym (get_or-drop 16 file i 0)) (small (16 + i)))
      (omega (arith, length-drop 16 file, facts.rows, facts.whole))
      (ap (λ k. raw_rows (drop k file)) (sym facts.offset) ∙ is) in
      ap (λ k. header (places_number places) k (games rows) ++ flat_map row_bytes rows) count
      ∙ (ap (λ ks. header (places_number places) (rows_field file) (games rows) ++ ks) (sym body)
      ∙ sym (head_is file small facts (places_number places) (games rows) seats played))

-- the file of a list, field by field
module _ (places : Places) (rows : List Row) where
  byte_four : get_or (file_of places rows) 4 0 ≡ places_number places
  unfolding header
  byte_four = refl

  rest_of : drop 16 (file_of places rows) ≡ flat_map row_bytes rows
  rest_of = drop_at (header (places_number places) (length rows) (games rows)) (flat_map row_bytes rows) 16 (length_header (places_number places) (length rows) (games rows))

  tag_of : is_tag (file_of places rows) ≡ true
  unfolding header
  tag_of = refl

  rows_of : rows_field (file_of places rows) ≡ length rows % 256 + length rows / 256 % 256 * 256
  unfolding header
  rows_of = refl

  games_of : games_field (file_of places rows) ≡ games rows % 256 + games rows / 256 % 256 * 256
  unfolding header
  games_of = refl

  offset_of : offset_field (file_of places rows) ≡ 16
  unfolding header
  offset_of = refl

  length_of : length_field (file_of places rows) ≡ (let n = file_length (length rows) in n % 256 + n / 256 % 256 * 256 + n / 65536 % 256 * 65536 + n / 16777216 % 256 * 16777216)
  unfolding header
  length_of = refl

  zero_of : get_or (file_of places rows) 5 0 ≡ 0
  unfolding header
  zero_of = refl

places_good : (places : Places) → is_places (places_number places) ≡ true
places_good Three = refl
places_good Four = refl

same_places : (p q : Places) → places_number p ≡ places_number q → p ≡ q
same_places Three Three e = refl
same_places Three Four e = absurd (omega arith)
same_places Four Three e = absurd (omega arith)
same_places Four Four e = refl

-- the file of a list is accepted
module _ (places : Places) (rows : List Row) (good : are_rows rows ≡ true) (few : length rows ≤ 48) where
  rows_in_lem : rows_in (file_of places rows) ≡ map raw_of rows
  rows_in_lem = ap (λ k. raw_rows (drop k (file_of places rows))) (offset_of places rows) ∙ (ap raw_rows (rest_of places rows) ∙ raws_of rows good)

  rows_field_lem : rows_field (file_of places rows) ≡ length rows
  rows_field_lem = rows_of places rows ∙ two_join (length rows) (omega arith)

  length_field_lem : length_field (file_of places rows) ≡ file_length (length rows)
  length_field_lem = length_of places rows ∙ small_join (file_length (length rows)) (omega arith)

  games_field_lem : games_field (file_of places rows) ≡ games rows
  games_field_lem = games_of places rows ∙ two_join (games rows) (omega (arith, count_by-le-length is_game rows))

  header_good : is_header (file_of places rows) ≡ true
  header_good =
      let file = file_of places rows in
      let p : is_places (get_or file 4 0) ≡ true = ap is_places (byte_four places rows) ∙ places_good places in
      let z : eqb (get_or file 5 0) 0 ≡ true = eq-eqb _ 0 (zero_of places rows) in
      let r : leb (rows_field file) 48 ≡ true = le-leb _ 48 (omega (arith, rows_field_lem)) in
      let o : eqb (offset_field file) 16 ≡ true = eq-eqb _ 16 (offset_of places rows) in
      let l : eqb (length_field file) (file_length (rows_field file)) ≡ true = eq-eqb _ _ (length_field_lem ∙ ap file_length (sym rows_field_lem)) in
      let w : eqb (length_field file) (length file) ≡ true = eq-eqb _ _ (length_field_lem ∙ sym (length_file places rows)) in
      and_from _ _ (and_from _ _ (and_from _ _ (and_from _ _ (and_from _ _ p z) r) o) l) w

  pub file_accepted : file_refusal (file_of places rows) ≡ None
  file_accepted =
      let file = file_of places rows in
      let long : ltb (length file) 16 ≡ false = le-ltb (length file) 16 (omega (arith, length_file places rows)) in
      let head : topmost (header_refusals file) ≡ None =
      none_from FileTooShort _ ((WrongTag, not (is_tag file)) ∷ ((NotAList, not (is_header file)) ∷ [])) long
      (none_from WrongTag _ ((NotAList, not (is_header file)) ∷ []) (ap not (tag_of places rows)) (none_from NotAList _ [] (ap not header_good) refl)) in
      accepted file head
      (ap are_raw_rows rows_in_lem ∙ raws_good rows good)
      (eq-eqb _ _ (games_field_lem ∙ sym (ap (count_by is_raw_game) rows_in_lem ∙ raw_games rows)))

-- two lists with one file are the same
pub file_same : (p q : Places) (r s : List Row) → are_rows r ≡ true → are_rows s ≡ true → file_of p r ≡ file_of q s → (p ≡ q) × (r ≡ s)
file_same p q r s good fine e = (
  same_places p q (sym (byte_four p r) ∙ (ap (λ file. get_or file 4 0) e ∙ byte_four q s)),
  same_rows r s (sym (raws_of r good) ∙ (ap raw_rows (sym (rest_of p r) ∙ (ap (drop 16) e ∙ rest_of q s)) ∙ raws_of s fine)),
)

-- a file whose header stands, read from its offset on
module _ (file : List ℕ) (ok : topmost (header_refusals file) ≡ None) (part : List ℕ) (offset : ℕ) (is : part ≡ drop offset file) (from : offset ≡ offset_field file) where
  in_part : raw_rows part ≡ rows_in file
  in_part = ap raw_rows (is ∙ ap (λ k. drop k file) from)

  pub part_refused : are_raw_rows (raw_rows part) ≡ false → file_refusal file ≡ Some RowNotAllowed
  part_refused bad = rows_refused file ok (ap are_raw_rows (sym in_part) ∙ bad)

  module _ (rows : List Row) (long : length rows ≡ length part / 4) where
    rows_count : length rows ≡ rows_field file
    rows_count =
        let facts = header_facts file ok in
        let rest : length part ≡ length file - offset = ap length is ∙ length-drop offset file in
        omega (arith, facts.offset, facts.rows, facts.whole)

  module _ (rows : List Row) (raws : raw_rows part ≡ map raw_of rows) (fine : are_rows rows ≡ true) (stated : ℕ) {right : Bool} (told : right ≡ eqb (games rows) stated) (said : stated ≡ games_field file) where
    rows_are : rows_in file ≡ map raw_of rows
    rows_are = sym in_part ∙ raws

    good : are_raw_rows (rows_in file) ≡ true
    good = ap are_raw_rows rows_are ∙ raws_good rows fine

    raw_played : count_by is_raw_game (rows_in file) ≡ games rows
    raw_played = ap (count_by is_raw_game) rows_are ∙ raw_games rows

    pub games_differ : right ≡ false → file_refusal file ≡ Some WrongGamesCount
    games_differ wrong =
        let differ = eqb-false _ _ (sym told ∙ wrong) in
        games_refused file ok good (ne_eqb (games_field file) (count_by is_raw_game (rows_in file)) (λ e. differ (sym raw_played ∙ (sym e ∙ sym said))))

    pub list_read : ((i : ℕ) → get_or file i 0 < 256) → length rows ≡ length part / 4 → (places : Places) → places_number places ≡ get_or file 4 0 → right ≡ true → (file_refusal file ≡ None) × (file_of places rows ≡ file)
    list_read small long places seats yes-games =
        let facts = header_facts file ok in
        let same = eqb-true _ _ (sym told ∙ yes-games) in (
          accepted file ok good (eq-eqb (games_field file) (count_by is_raw_game (rows_in file)) (sym said ∙ (sym same ∙ sym raw_played))),
          read_is file small facts places rows seats (rows_count rows long) rows_are (same ∙ said),
        )

-- what was written is read back
pub read_back : (file : List ℕ) (answer : Result (Unit {0}) Refusal) (p q : Places) (r s : List Row) → are_rows s ≡ true → answer ≡ answered (file_refusal file) tt → ListRead file answer p r q s → ReadBack file answer q s
read_back file answer p q r s fine said list = λ places rows good few is.
    let none : file_refusal file ≡ None = ap file_refusal is ∙ file_accepted places rows good few in
    let ok : answer ≡ Ok tt = said ∙ ap (λ o. answered o tt) none in
    let new : ListRead file (Ok tt) p r q s = subst (λ a. ListRead file a p r q s) ok list in
    let same = file_same q places s rows fine good (new.1 ∙ is) in
    (ok, same.0, same.1)
