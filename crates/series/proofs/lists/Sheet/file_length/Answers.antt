use Rattle.std.proofs.Common.{vec_items, arith}
use Rattle.series.proofs.Blocks.{length_file}
use Rattle.series.proofs.lists.Sheet.file_length.Goals as goal

pub returns : goal.returns
returns c =
    let sheet = c.args.self.now in
    omega (arith, length_file sheet.places (vec_items sheet.rows), c.len.ensures, sheet.rows.ok.0)
