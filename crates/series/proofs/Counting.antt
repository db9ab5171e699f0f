-- A tally that grows row by row, for `tally`.
use Rattle.std.proofs.Common.{◌≡◌, ℕ, zero, suc, ◌+◌, ◌*◌, ◌<◌, ◌≤◌, Bool, true, false, cond, List, [], ◌∷◌, length, get_or, drop, pos, ◌+ℤ◌, neg_ℤ, ◌≤ℤ◌, arith}
use Rattle.std.proofs.lemmas.Int.{ints}
use Rattle.std.proofs.lemmas.List.{at_drop_more}
use Rattle.std.proofs.lemmas.Bool.{and_parts}
use Rattle.series.specs.declared.rows.Row.{Row}
use Rattle.series.specs.declared.totals.Tally.{Tally}
use Rattle.series.specs.Rows.{is_row, are_rows}
use Rattle.series.specs.Totals.{sum_over, number_of, counts_for, wins_in, loses_in, defends_loss_in, game_points, games_won, games_lost, losses_defended}

pub row_at : (rows : List Row) (i : ℕ) (d : Row) → are_rows rows ≡ true → i < length rows → is_row (get_or rows i d) ≡ true
row_at [] i d all lt = absurd (omega arith)
row_at (row ∷ rows) zero d all lt = (and_parts (is_row row) (are_rows rows) all).0
row_at (row ∷ rows) (suc i) d all lt = row_at rows i d (and_parts (is_row row) (are_rows rows) all).1 (omega arith)

-- i rows are counted: what is left makes up each sum
pub record Counted (n place : ℕ) (rows : List Row) (i : ℕ) (tally : Tally) : Type 0 where
  pub points : tally.points.0 +ℤ sum_over (counts_for n place) i (drop i rows) ≡ game_points n place rows
  pub won : tally.won + number_of (wins_in n place) i (drop i rows) ≡ games_won n place rows
  pub lost : tally.lost + number_of (loses_in n place) i (drop i rows) ≡ games_lost n place rows
  pub defended : tally.defended + number_of (defends_loss_in n place) i (drop i rows) ≡ losses_defended n place rows
  pub low : neg_ℤ (pos (540 * i)) ≤ℤ tally.points.0
  pub high : tally.points.0 ≤ℤ pos (264 * i)
  pub few : (tally.won ≤ i) × (tally.lost ≤ i) × (tally.defended ≤ i)

bit_low : (b : Bool) → cond b 1 0 ≤ 1
bit_low true = omega arith
bit_low false = omega arith

module _ (n place : ℕ) (rows : List Row) where
  -- what is left after row i, where some test counted it or not
  left : (test : ℕ → Row → Bool) (i : ℕ) (d : Row) → i < length rows → number_of test i (drop i rows) ≡ cond (test i (get_or rows i d)) 1 0 + number_of test (i + 1) (drop (i + 1) rows)
  left test i d lt = at_drop_more (number_of test i) rows i d lt

  module _ (i : ℕ) (d : Row) (tally after : Tally) (sofar : Counted n place rows i tally) (lt : i < length rows) where
    pub counted-more :
        after.points.0 ≡ tally.points.0 +ℤ counts_for n place i (get_or rows i d)
        → after.won ≡ tally.won + cond (wins_in n place i (get_or rows i d)) 1 0
        → after.lost ≡ tally.lost + cond (loses_in n place i (get_or rows i d)) 1 0
        → after.defended ≡ tally.defended + cond (defends_loss_in n place i (get_or rows i d)) 1 0
        → neg_ℤ (pos (540 * (i + 1))) ≤ℤ after.points.0
        → after.points.0 ≤ℤ pos (264 * (i + 1))
        → Counted n place rows (i + 1) after
    counted-more points won lost defended low high =
        let row = get_or rows i d in
        let rest : sum_over (counts_for n place) i (drop i rows) ≡ counts_for n place i row +ℤ sum_over (counts_for n place) (i + 1) (drop (i + 1) rows) = at_drop_more (sum_over (counts_for n place) i) rows i d lt in
        record {
          points = omega (arith, ints, sofar.points);
          won = omega (arith, sofar.won, left (wins_in n place) i d lt);
          lost = omega (arith, sofar.lost, left (loses_in n place) i d lt);
          defended = omega (arith, sofar.defended, left (defends_loss_in n place) i d lt);
          low = low;
          high = high;
          few = (
            omega (arith, sofar.few.0, bit_low (wins_in n place i row)),
            omega (arith, sofar.few.1, bit_low (loses_in n place i row)),
            omega (arith, sofar.few.2, bit_low (defends_loss_in n place i row)),
          );
        }
