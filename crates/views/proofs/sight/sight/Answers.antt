use Rattle.std.proofs.Common.{arith, ap, ◌∙◌, ◌++◌, drop}
use Rattle.std.proofs.lemmas.List.{length-take-le}
use Rattle.cards.specs.Seats.{seat_at}
use Rattle.views.proofs.Parting.{seen}
use Rattle.views.proofs.sight.sight.Goals as goal

pub slice_bounds-copy_from_slice-end-2 : goal.slice_bounds-copy_from_slice-end-2
slice_bounds-copy_from_slice-end-2 c =
    let saw = seen c.args.deal.now c.args.buffer.now (seat_at c.args.seat) c.in_ok-bytes.bytes c.in_ok-bytes.ensures in
    omega (arith, length-take-le 42 c.args.buffer.now saw.0)

pub copy_from_slice-requires : goal.copy_from_slice-requires
copy_from_slice-requires c =
    let saw = seen c.args.deal.now c.args.buffer.now (seat_at c.args.seat) c.in_ok-bytes.bytes c.in_ok-bytes.ensures in
    omega (arith, length-take-le 42 c.args.buffer.now saw.0)

pub returns : goal.returns
returns c =
    let saw = seen c.args.deal.now c.args.buffer.now (seat_at c.args.seat) c.in_ok-bytes.bytes c.in_ok-bytes.ensures in
    record { answer = saw.1; buffer = ap (λ bytes. bytes ++ drop 42 c.args.buffer.now) c.copy_from_slice.ensures.after ∙ saw.2 }
