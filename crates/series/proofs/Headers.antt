-- What a header says, and which refusal of a file comes first, for `read`.
use Rattle.std.proofs.Common.{◌≡◌, ℕ, ◌<◌, ◌≤◌, Bool, true, false, not, eqb, ltb, leb, List, [], ◌∷◌, ◌++◌, length, get_or, drop, Some, None, count_by, sym, ap, ◌∙◌, arith}
use Rattle.std.proofs.lemmas.List.{drop_more}
use Rattle.std.proofs.lemmas.Bool.{and_parts, not-false, ltb-false, leb-true, eqb-true}
use Rattle.cards.specs.declared.refusals.Refusal.{Refusal}
use Rattle.cards.specs.declared.refusals.Refusal.TheVariants.{FileTooShort, WrongTag, NotAList, RowNotAllowed, WrongGamesCount}
use Rattle.cards.specs.Refusals.{topmost}
use Rattle.cards.proofs.Topmost.{none_parts, topmost_past, topmost_early}
use Rattle.series.specs.Rows.{is_places}
use Rattle.series.specs.Format.{in_two, in_four, games, header, file_length, are_raw_rows, is_raw_game, rows_field, games_field, offset_field, length_field, rows_in, is_tag, is_header, header_refusals, row_refusals, file_refusal}
use Rattle.series.proofs.Rounds.{two_back, four_back}

-- a refused header is a refused file
pub header_refused : (file : List ℕ) (refusal : Refusal) → topmost (header_refusals file) ≡ Some refusal → file_refusal file ≡ Some refusal
unfolding file_refusal
header_refused file refusal e = topmost_early (header_refusals file) (row_refusals file) refusal e

abbrev pub same_games : List ℕ → Bool
same_games file = eqb (games_field file) (count_by is_raw_game (rows_in file))

module _ (file : List ℕ) (ok : topmost (header_refusals file) ≡ None) where
  rest : file_refusal file ≡ topmost (row_refusals file)
  unfolding file_refusal
  rest = topmost_past (header_refusals file) (row_refusals file) ok

  pub rows_refused : are_raw_rows (rows_in file) ≡ false → file_refusal file ≡ Some RowNotAllowed
  rows_refused bad = rest ∙ ap (λ b. topmost ((RowNotAllowed, not b) ∷ ((WrongGamesCount, not (same_games file)) ∷ []))) bad

  module _ (good : are_raw_rows (rows_in file) ≡ true) where
    left : file_refusal file ≡ topmost ((WrongGamesCount, not (same_games file)) ∷ [])
    left = rest ∙ ap (λ b. topmost ((RowNotAllowed, not b) ∷ ((WrongGamesCount, not (same_games file)) ∷ []))) good

    pub games_refused : same_games file ≡ false → file_refusal file ≡ Some WrongGamesCount
    games_refused bad = left ∙ ap (λ b. topmost ((WrongGamesCount, not b) ∷ [])) bad

    pub accepted : same_games file ≡ true → file_refusal file ≡ None
    accepted same = left ∙ ap (λ b. topmost ((WrongGamesCount, not b) ∷ [])) same

-- what a header that is not refused has
pub record HeaderFacts (file : List ℕ) : Type 0 where
  pub long : 16 ≤ length file
  pub tag : (get_or file 0 0 ≡ 83) × (get_or file 1 0 ≡ 75) × (get_or file 2 0 ≡ 76) × (get_or file 3 0 ≡ 49)
  pub zero : get_or file 5 0 ≡ 0
  pub few : rows_field file ≤ 48
  pub offset : offset_field file ≡ 16
  pub rows : length_field file ≡ file_length (rows_field file)
  pub whole : length_field file ≡ length file

pub header_facts : (file : List ℕ) → topmost (header_refusals file) ≡ None → HeaderFacts file
header_facts file ok =
    let a = none_parts FileTooShort (ltb (length file) 16) ((WrongTag, not (is_tag file)) ∷ ((NotAList, not (is_header file)) ∷ [])) ok in
    let b = none_parts WrongTag (not (is_tag file)) ((NotAList, not (is_header file)) ∷ []) a.1 in
    let c = none_parts NotAList (not (is_header file)) [] b.1 in
    let t3 = and_parts _ (eqb (get_or file 3 0) 49) (not-false (is_tag file) b.0) in
    let t2 = and_parts _ (eqb (get_or file 2 0) 76) t3.0 in
    let t1 = and_parts (eqb (get_or file 0 0) 83) (eqb (get_or file 1 0) 75) t2.0 in
    let h5 = and_parts _ (eqb (length_field file) (length file)) (not-false (is_header file) c.0) in
    let h4 = and_parts _ (eqb (length_field file) (file_length (rows_field file))) h5.0 in
    let h3 = and_parts _ (eqb (offset_field file) 16) h4.0 in
    let h2 = and_parts _ (leb (rows_field file) 48) h3.0 in
    let h1 = and_parts (is_places (get_or file 4 0)) (eqb (get_or file 5 0) 0) h2.0 in
    record {
      long = ltb-false (length file) 16 a.0;
      tag = (eqb-true _ 83 t1.0, eqb-true _ 75 t1.1, eqb-true _ 76 t2.1, eqb-true _ 49 t3.1);
      zero = eqb-true _ 0 h1.1;
      few = leb-true _ 48 h2.1;
      offset = eqb-true _ 16 h3.1;
      rows = eqb-true _ _ h4.1;
      whole = eqb-true _ _ h5.1;
    }

-- a file from its first 16 bytes on
sixteen : (file : List ℕ) → 16 ≤ length file → file ≡ get_or file 0 0 ∷ (get_or file 1 0 ∷ (get_or file 2 0 ∷ (get_or file 3 0 ∷ (get_or file 4 0 ∷ (get_or file 5 0 ∷ (get_or file 6 0 ∷ (get_or file 7 0 ∷ (get_or file 8 0 ∷ (get_or file 9 0 ∷ (get_or file 10 0 ∷ (get_or file 11 0 ∷ (get_or file 12 0 ∷ (get_or file 13 0 ∷ (get_or file 14 0 ∷ (get_or file 15 0 ∷ (drop 16 file))))))))))))))))
sixteen file long =
    let d0 = drop_more file 0 0 (omega arith) in
    let d1 = drop_more file 1 0 (omega arith) in
    let d2 = drop_more file 2 0 (omega arith) in
    let d3 = drop_more file 3 0 (omega arith) in
    let d4 = drop_more file 4 0 (omega arith) in
    let d5 = drop_more file 5 0 (omega arith) in
    let d6 = drop_more file 6 0 (omega arith) in
    let d7 = drop_more file 7 0 (omega arith) in
    let d8 = drop_more file 8 0 (omega arith) in
    let d9 = drop_more file 9 0 (omega arith) in
    let d10 = drop_more file 10 0 (omega arith) in
    let d11 = drop_more file 11 0 (omega arith) in
    let d12 = drop_more file 12 0 (omega arith) in
    let d13 = drop_more file 13 0 (omega arith) in
    let d14 = drop_more file 14 0 (omega arith) in
    let d15 = drop_more file 15 0 (omega arith) in
    cc

module _ (file : List ℕ) (small : (i : ℕ) → get_or file i 0 < 256) (facts : HeaderFacts file) where
  pub head_is : (n count : ℕ) → n ≡ get_or file 4 0 → count ≡ games_field file → file ≡ header n (rows_field file) count ++ drop 16 file
  unfolding header
  head_is n count places games =
      let front = sixteen file facts.long in
      let tag = facts.tag in
      let zero = facts.zero in
      let rows = two_back (get_or file 6 0) (get_or file 7 0) (small 6) (small 7) in
      let played : in_two count ≡ get_or file 8 0 ∷ (get_or file 9 0 ∷ []) = ap in_two games ∙ two_back (get_or file 8 0) (get_or file 9 0) (small 8) (small 9) in
      let offset : in_two 16 ≡ get_or file 10 0 ∷ (get_or file 11 0 ∷ []) = ap in_two (sym facts.offset) ∙ two_back (get_or file 10 0) (get_or file 11 0) (small 10) (small 11) in
      let whole : in_four (file_length (rows_field file)) ≡ get_or file 12 0 ∷ (get_or file 13 0 ∷ (get_or file 14 0 ∷ (get_or file 15 0 ∷ []))) =
      ap in_four (sym facts.rows) ∙ four_back (get_or file 12 0) (get_or file 13 0) (get_or file 14 0) (get_or file 15 0) (small 12) (small 13) (small 14) (small 15) in
      cc
