use Rattle.std.proofs.Common.{vec_items, ap, ◌∙◌, arith}
use Rattle.series.specs.Rows.{are_rows}
use Rattle.series.proofs.Pushes.{are_rows-push}
use Rattle.series.proofs.lists.Sheet.add.Goals as goal

pub invariant_of-self : goal.invariant_of-self
invariant_of-self c =
    let sheet = c.args.self.now in
    let after = c.push_reserved.ensures in
    record {
      few = omega (arith, after.len, c.requires.0);
      room = omega (arith, after.capacity, sheet.room);
      valid = ap are_rows after.items ∙ are_rows-push (vec_items sheet.rows) c.args.row sheet.valid c.requires.1;
    }
