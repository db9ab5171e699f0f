-- Rows as a file has them, for `read_row` and `read_rows`.
use Rattle.std.proofs.Common.{◌≡◌, ℕ, zero, suc, ◌+◌, ◌/◌, ◌<◌, true, false, List, [], ◌∷◌, ◌++◌, map, length, get_or, take, sym, refl, ap, ◌∙◌, arith}
use Rattle.std.specs.Simd.{first_chunks}
use Rattle.std.proofs.lemmas.List.{length-append, map_push, take_more}
use Rattle.std.proofs.lemmas.Bool.{and_left, and_right}
use Rattle.series.specs.declared.rows.Row.{Row}
use Rattle.series.specs.Rows.{is_row, are_rows}
use Rattle.series.specs.Format.{RawRow, is_raw_row, are_raw_rows, raw_rows, raw_from, raw_at, raw_of}
use Rattle.series.proofs.Pushes.{are_rows-push}

pub raw_short : (bytes : List ℕ) → length bytes < 4 → raw_rows bytes ≡ []
raw_short [] lt = refl
raw_short (a ∷ []) lt = refl
raw_short (a ∷ (b ∷ [])) lt = refl
raw_short (a ∷ (b ∷ (c ∷ []))) lt = refl
raw_short (a ∷ (b ∷ (c ∷ (d ∷ rest)))) lt = absurd (omega arith)

-- the row in four bytes that stand alone
abbrev pub raw_in : List ℕ → RawRow
raw_in bytes = raw_at bytes 0

-- the rows in a part are those in its blocks of four bytes
pub raws_are : (n : ℕ) (part : List ℕ) → n ≡ length part / 4 → raw_rows part ≡ map raw_in (first_chunks 4 n part)
raws_are zero part is = raw_short part (omega arith)
raws_are (suc n) [] is = absurd (omega arith)
raws_are (suc n) (a ∷ []) is = absurd (omega arith)
raws_are (suc n) (a ∷ (b ∷ [])) is = absurd (omega arith)
raws_are (suc n) (a ∷ (b ∷ (c ∷ []))) is = absurd (omega arith)
raws_are (suc n) (a ∷ (b ∷ (c ∷ (d ∷ rest)))) is = ap (λ raws. raw_from a b c d ∷ raws) (raws_are n rest (omega arith))

-- the first blocks are read
pub record FrontRead (blocks : List (List ℕ)) (i : ℕ) (rows : List Row) : Type 0 where
  pub count : length rows ≡ i
  pub raws : map raw_in (take i blocks) ≡ map raw_of rows
  pub good : are_rows rows ≡ true

pub front_bad : (blocks : List (List ℕ)) (i : ℕ) (d : List ℕ) → i < length blocks → is_raw_row (raw_in (get_or blocks i d)) ≡ false → are_raw_rows (map raw_in blocks) ≡ false
front_bad [] i d lt bad = absurd (omega arith)
front_bad (block ∷ blocks) zero d lt bad = and_left (is_raw_row (raw_in block)) (are_raw_rows (map raw_in blocks)) bad
front_bad (block ∷ blocks) (suc i) d lt bad = and_right (is_raw_row (raw_in block)) (are_raw_rows (map raw_in blocks)) (front_bad blocks i d (omega arith) bad)

pub front_more : (blocks : List (List ℕ)) (i : ℕ) (d : List ℕ) (rows : List Row) (row : Row) → FrontRead blocks i rows → i < length blocks → raw_in (get_or blocks i d) ≡ raw_of row → is_row row ≡ true → FrontRead blocks (i + 1) (rows ++ row ∷ [])
front_more blocks i d rows row sofar lt is good = record {
  count = omega (arith, length-append rows (row ∷ []), sofar.count);
  raws =
      ap (map raw_in) (take_more blocks i d lt)
      ∙ (map_push raw_in (take i blocks) (get_or blocks i d)
      ∙ (ap (λ raws. raws ++ raw_in (get_or blocks i d) ∷ []) sofar.raws
      ∙ (ap (λ raw. map raw_of rows ++ raw ∷ []) is ∙ sym (map_push raw_of rows row))));
  good = are_rows-push rows row sofar.good good;
}
