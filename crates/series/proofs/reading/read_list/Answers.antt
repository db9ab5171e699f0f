use Rattle.std.proofs.Common.{ℕ, ◌<◌, get_or, ap, ◌∙◌, eqb, arith}
use Rattle.std.proofs.lemmas.Result.{err_from_is_err_and}
use Rattle.series.specs.Format.{games}
use Rattle.series.proofs.Filing.{part_refused, games_differ, list_read}
use Rattle.series.proofs.Headers.{header_refused}
use Rattle.series.proofs.reading.read_list.Goals as goal

pub returns-in_err-header : goal.returns-in_err-header
returns-in_err-header c =
    let p = err_from_is_err_and c.from_residual.result c.from_residual.ensures.1 in
    rw (p.1, p.2) (header_refused c.args.file.now _ c.in_err-header.ensures)

pub returns-in_err-rows : goal.returns-in_err-rows
returns-in_err-rows c =
    let p = err_from_is_err_and c.from_residual-in_err-rows.result c.from_residual-in_err-rows.ensures.1 in
    let head = c.in_ok-header.ensures in
    let bad = c.in_err-rows.ensures in
    rw (p.1, p.2, bad.0) (part_refused c.args.file.now head.0 _ _ c.rows_part.ensures head.3 bad.1)

pub returns-then-not-games_agree : goal.returns-then-not-games_agree
returns-then-not-games_agree c =
    let head = c.in_ok-header.ensures in
    let read = c.in_ok-rows.ensures in
    let told = c.games_agree.ensures ∙ ap (λ rows. eqb (games rows) c.in_ok-header.header.games) c.as_slice.ensures.value in
    games_differ c.args.file.now head.0 _ _ c.rows_part.ensures head.3 c.in_ok-rows.rows.items read.0 read.2 _ told head.2 c.if-not-games_agree.true

pub returns : goal.returns
returns c =
    let file = c.args.file.now in
    let head = c.in_ok-header.ensures in
    let read = c.in_ok-rows.ensures in
    let small : (i : ℕ) → get_or file i 0 < 256 = λ i. omega (arith, c.type_inv.file i) in
    let told = c.games_agree.ensures ∙ ap (λ rows. eqb (games rows) c.in_ok-header.header.games) c.as_slice.ensures.value in
    list_read file head.0 _ _ c.rows_part.ensures head.3 c.in_ok-rows.rows.items read.0 read.2 _ told head.2 small read.1 _ head.1 c.if-not-games_agree.false
