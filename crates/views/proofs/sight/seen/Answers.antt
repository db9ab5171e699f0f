use Rattle.std.proofs.Common.{length, replicate, ap, ◌∙◌, arith}
use Rattle.std.proofs.lemmas.List.{append-nil}
use Rattle.rules.specs.Piles.{marked}
use Rattle.rules.specs.Sight.{sight_of}
use Rattle.views.proofs.Parting.{padded_length, three_length, sight_written}
use Rattle.views.proofs.sight.seen.Goals as goal

pub slice_bounds-bytes-end-4 : goal.slice_bounds-bytes-end-4
slice_bounds-bytes-end-4 c =
    let long =
    three_length (replicate 42 255) c.copy_from_slice.new.self c.copy_from_slice-2.new.self c.copy_from_slice-3.new.self
    c.copy_from_slice.ensures.len (ap length (c.copy_from_slice-2.ensures.after ∙ c.listed.ensures) ∙ padded_length 12 255 (marked c.held_marks-hand.result)) (ap length (c.copy_from_slice-3.ensures.after ∙ c.listed-2.ensures) ∙ padded_length 10 255 (marked c.shown_marks.result)) in
    omega arith

pub returns : goal.returns
returns c =
    sight_written c.args.deal.now c.args.seat (replicate 42 255) (omega arith) c.held_marks-hand.result c.shown_marks.result c.put_marks.result
    c.held_marks-hand.ensures c.shown_marks.ensures c.put_marks.ensures
    c.count_marked.result c.copy_from_slice.new.self c.copy_from_slice-2.new.self c.copy_from_slice-3.new.self c.copy_from_slice-4.new.self
    c.count_marked.ensures c.copy_from_slice.ensures.len (c.copy_from_slice.ensures.after ∙ c.head.ensures)
    (c.copy_from_slice-2.ensures.after ∙ c.listed.ensures) (c.copy_from_slice-3.ensures.after ∙ c.listed-2.ensures) (c.copy_from_slice-4.ensures.after ∙ c.listed-3.ensures)
    ∙ append-nil (sight_of c.args.deal.now c.args.seat)
