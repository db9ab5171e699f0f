use Rattle.std.proofs.Common.{vec_items, string_bytes}
use Rattle.std.proofs.lemmas.Result.{IfOk-weaker}
use Rattle.ranking.proofs.Tables.{report_standing}
use Rattle.ranking.proofs.reports.report.Goals as goal

pub returns-in-Ok : goal.returns-in-Ok
returns-in-Ok c =
    let sheet = c.read.new.self.sheet in
    let read = c.in-Ok.ensures in
    IfOk-weaker c.standing.result _ _
    (λ text h. report_standing c.args.file.now (string_bytes text) sheet.places (vec_items sheet.rows) read.answer read.list.0 read.list.1 h)
    c.standing.ensures
