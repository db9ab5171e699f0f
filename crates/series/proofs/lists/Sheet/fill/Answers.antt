use Rattle.std.proofs.Common.{◌≡◌, ◌*◌, ◌++◌, length, drop, vec_items, sym, ap, ◌∙◌, arith}
use Rattle.std.specs.List.{flat_map}
use Rattle.std.proofs.lemmas.List.{length-append, length-drop, length-take, take_rest}
use Rattle.series.specs.Rows.{places_number}
use Rattle.series.specs.Format.{games, header, row_bytes}
use Rattle.series.proofs.Blocks.{length_header, length_rows, length_file, file_put}
use Rattle.series.proofs.lists.Sheet.fill.Goals as goal

pub write_rows-requires : goal.write_rows-requires
write_rows-requires c =
    let sheet = c.args.self.now in
    let old = c.args.buffer.now in
    let front = c.copy_from_slice.new.self in
    let long = length_file sheet.places (vec_items sheet.rows) in
    let same : length (front ++ drop 16 old) ≡ length old =
    omega (arith, c.requires, length-append front (drop 16 old), length-drop 16 old, c.copy_from_slice.ensures.len, length-take 16 old) in
    omega (arith, c.requires, ap length (take_rest (front ++ drop 16 old) 16), length-drop 16 (front ++ drop 16 old))

pub returns : goal.returns
returns c =
    let sheet = c.args.self.now in
    let rows = vec_items sheet.rows in
    let old = c.args.buffer.now in
    let n = places_number sheet.places in
    let copied = c.copy_from_slice.ensures.after ∙ c.header-header.ensures in
    file_put (header n (length rows) (games rows)) (flat_map row_bytes rows) old c.write_rows.new.buffer _ (4 * length rows) (length_header n (length rows) (games rows)) (length_rows rows) (ap (λ xs. xs ++ drop 16 old) copied) c.write_rows.ensures
    ∙ ap (λ k. (header n (length rows) (games rows) ++ flat_map row_bytes rows) ++ drop k old) (sym (length_file sheet.places rows))
