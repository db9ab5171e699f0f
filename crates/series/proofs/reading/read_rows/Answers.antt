use Rattle.std.proofs.Common.{◌≡◌, map, sym, refl, ap, ◌∙◌, arith}
use Rattle.std.proofs.lemmas.List.{take_all}
use Rattle.std.proofs.lemmas.Result.{err_from_is_err_and}
use Rattle.series.specs.Format.{raw_rows, are_raw_rows}
use Rattle.series.proofs.Raws.{raw_in, raws_are, front_bad, front_more}
use Rattle.series.proofs.reading.read_rows.Goals as goal

pub returns-in_err-read_row : goal.returns-in_err-read_row
returns-in_err-read_row c =
    let p = err_from_is_err_and c.from_residual.result c.from_residual.ensures.1 in
    let raws : raw_rows c.args.part.now ≡ map raw_in c.as_chunks.result.0.now = raws_are _ c.args.part.now refl ∙ ap (map raw_in) (sym c.as_chunks.ensures.front) in
    let bad = c.in_err-read_row.ensures in
    rw (p.1, p.2) (bad.0, ap are_raw_rows raws ∙ front_bad c.as_chunks.result.0.now c.loop-bytes.bytes-index _ (omega arith) bad.1)

pub loop-bytes-preserved : goal.loop-bytes-preserved
loop-bytes-preserved c =
    let read = c.in_ok-read_row.ensures in
    rw c.push.ensures.items (front_more _ _ _ _ _ c.loop-bytes.invariant (omega arith) read.0 read.1)

pub returns : goal.returns
returns c =
    let blocks = c.as_chunks.result.0.now in
    let raws : raw_rows c.args.part.now ≡ map raw_in blocks = raws_are _ c.args.part.now refl ∙ ap (map raw_in) (sym c.as_chunks.ensures.front) in
    let all = c.loop-bytes.invariant in (
      raws ∙ (ap (map raw_in) (sym (take_all c.loop-bytes.bytes-index blocks (omega arith))) ∙ all.raws),
      omega (arith, all.count, c.as_chunks.ensures.front_len),
      all.good,
    )
