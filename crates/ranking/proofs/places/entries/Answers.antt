use Rattle.std.proofs.Common.{◌≡◌, vec_items, ap, ◌∙◌, sym, lit<, arith}
use Rattle.cards.specs.declared.refusals.Refusal.TheVariants.{NoSuchEntry}
use Rattle.series.specs.Rows.{places_number}
use Rattle.series.specs.Totals.{totals_of}
use Rattle.ranking.specs.Reports.{entry_of}
use Rattle.ranking.proofs.Tables.{answer_is, few_places, length_counted, entries_more}
use Rattle.ranking.proofs.places.entries.Goals as goal

pub push-requires : goal.push-requires
push-requires c =
    let sheet = c.args.list.now.sheet in
    let n = places_number sheet.places in
    let bound : c.from-place-end.result ≡ n = c.from-place-end.ensures ∙ ap places_number c.places.ensures in
    let long = length_counted n (vec_items sheet.rows) c.loop-place.place _ c.loop-place.invariant in
    (lit< tt, omega (arith, few_places sheet.places))

pub loop-place-preserved : goal.loop-place-preserved
loop-place-preserved c =
    let sheet = c.args.list.now.sheet in
    let n = places_number sheet.places in
    let rows = vec_items sheet.rows in
    let k = c.loop-place.place in
    let bound : c.from-place-end.result ≡ n = c.from-place-end.ensures ∙ ap places_number c.places.ensures in
    let is = answer_is k n c.unwrap.result (totals_of n k rows) NoSuchEntry (omega arith) (sym c.unwrap.ensures ∙ c.totals.ensures) in
    c.push.ensures.items ∙ entries_more n rows k _ _ c.loop-place.invariant (c.from.ensures ∙ ap entry_of is)
