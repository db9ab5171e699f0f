use Rattle.std.proofs.Common.{Ok, Err, vec_items, sym, refl, ap, ◌∙◌}
use Rattle.std.proofs.lemmas.Result.{err_from_is_err_and}
use Rattle.cards.specs.Refusals.{answered}
use Rattle.series.specs.Format.{file_of}
use Rattle.series.proofs.Filing.{read_back}
use Rattle.series.proofs.reading.ClosedList.read.Goals as goal

pub returns-in_err-listed-clause-back : goal.returns-in_err-listed-clause-back
returns-in_err-listed-clause-back c =
    let old = c.args.self.now.sheet in
    let p = err_from_is_err_and c.from_residual.result c.from_residual.ensures.1 in
    rw (p.1, p.2)
    (read_back c.args.file.now (Err c.in_err-listed.field-0.0) old.places old.places (vec_items old.rows) (vec_items old.rows) old.valid
    (sym (ap (λ o. answered o tt) c.in_err-listed.ensures)) (refl, refl))

pub returns-clause-back : goal.returns-clause-back
returns-clause-back c =
    let old = c.args.self.now.sheet in
    let new = c.refill.new.self in
    let is = c.refill.ensures in
    let read = c.in_ok-listed.ensures in
    read_back c.args.file.now (Ok tt) old.places new.places (vec_items old.rows) (vec_items new.rows) new.valid
    (sym (ap (λ o. answered o tt) read.0))
    (new.valid, ap (λ places. file_of places (vec_items new.rows)) is.places ∙ (ap (file_of c.in_ok-listed.listed.places) is.rows ∙ read.1))
