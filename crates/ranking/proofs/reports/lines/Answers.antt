use Rattle.std.proofs.Common.{◌≡◌, ◌<◌, [], ◌∷◌, ◌++◌, decimal, append_assoc, length, vec_items, string_bytes, refl, ap, ◌∙◌, sym, arith}
use Rattle.std.specs.List.{range_with_len, flat_map}
use Rattle.cards.specs.declared.refusals.Refusal.TheVariants.{NoSuchEntry}
use Rattle.series.specs.Lines.{totals_numbers}
use Rattle.series.specs.Rows.{places_number}
use Rattle.series.specs.Totals.{totals_of}
use Rattle.ranking.specs.Reports.{entries_of, line_text, place_text}
use Rattle.ranking.specs.Standings.{rank_at}
use Rattle.ranking.proofs.Tables.{answer_is, length_entries, text_more}
use Rattle.ranking.proofs.reports.lines.Goals as goal

pub loop-place-preserved : goal.loop-place-preserved
loop-place-preserved c =
    let sheet = c.args.list.now.sheet in
    let n = places_number sheet.places in
    let rows = vec_items sheet.rows in
    let k = c.loop-place.place-counter in
    let entries = entries_of n rows in
    let bound : c.from-place-end.result ≡ n = c.from-place-end.ensures ∙ ap places_number c.places.ensures in
    let long = length_entries n rows entries refl in
    let lt : k < n = omega arith in
    let total = answer_is k n c.unwrap-totals.result (totals_of n k rows) NoSuchEntry lt (sym c.unwrap-totals.ensures ∙ c.totals.ensures) in
    let ranked = answer_is k (length entries) c.unwrap-rank.result (rank_at entries k) NoSuchEntry (omega arith) (sym c.unwrap-rank.ensures ∙ c.rank_of.ensures) in
    let line = sym (append_assoc (decimal k) (32 ∷ totals_numbers c.unwrap-totals.result) (32 ∷ (decimal c.unwrap-rank.result ++ 10 ∷ [])))
    ∙ (ap (λ t. line_text k t c.unwrap-rank.result) total ∙ ap (line_text k (totals_of n k rows)) ranked) in
    text_more (place_text n rows) k (string_bytes c.loop-place.text) (string_bytes c.writeln.new.self) c.loop-place.invariant
    (c.in_ok-writeln.ensures.bytes ∙ ap (λ bytes. string_bytes c.loop-place.text ++ bytes) line)

pub returns : goal.returns
returns c =
    let sheet = c.args.list.now.sheet in
    let n = places_number sheet.places in
    let bound : c.from-place-end.result ≡ n = c.from-place-end.ensures ∙ ap places_number c.places.ensures in
    let end : c.loop-place.place-counter ≡ n = omega arith in
    c.loop-place.invariant ∙ ap (λ k. flat_map (place_text n (vec_items sheet.rows)) (range_with_len 0 k)) end
