-- What follows for a deal from how a call was admitted or refused, for `act`.
use Rattle.std.proofs.Common.{◌≡◌, ℕ, Bool, true, not, List, ◌∷◌, Some, None, Err, Result, refl, sym, ap, ◌∙◌}
use Rattle.std.proofs.lemmas.Bool.{cond-true, not-false}
use Rattle.cards.specs.declared.refusals.Refusal.{Refusal}
use Rattle.cards.specs.declared.refusals.Refusal.TheVariants.{DealIsSettled, NotThisSeatsTurn, NotInThisMoment}
use Rattle.cards.specs.declared.seats.Seat.{Seat}
use Rattle.cards.specs.declared.seats.Seat.TheVariants.{Forehand, Middlehand, Rearhand}
use Rattle.cards.specs.Seats.{seat_number, seat_at}
use Rattle.cards.specs.Refusals.{answered}
use Rattle.cards.proofs.Topmost.{none_parts}
use Rattle.kinds.specs.Meanings.{Meaning}
use Rattle.rules.specs.declared.calls.Act.{Act}
use Rattle.rules.specs.declared.calls.Call.{Call}
use Rattle.rules.specs.declared.deals.Common.{Common}
use Rattle.rules.specs.declared.deals.Deal.{Deal}
use Rattle.rules.specs.Acts.{call_of}
use Rattle.rules.specs.Moments.{is_at, in_row}
use Rattle.rules.specs.Piles.{is_seat, holding}
use Rattle.rules.specs.Refusing.{own_refusals, refusal_of, refusal_by, is_none}
use Rattle.rules.specs.Steps.{step, after_call}

-- an act comes from a call that stands in its moment's row
pub in_its_row : (m : Meaning) (c : Common) (hand : List Bool) (seat : Seat) (call : Call) (act : Act) → refusal_of m c hand seat call ≡ None → call_of act ≡ call → in_row c.moment (call_of act) ≡ true
unfolding refusal_of
in_its_row m c hand seat call act none is =
    let rows : List (Refusal × Bool) = (NotInThisMoment, not (in_row c.moment call)) ∷ own_refusals m c hand call in
    let all = none_parts DealIsSettled (is_at 7 c.moment) ((NotThisSeatsTurn, not (is_seat seat c.turn)) ∷ rows) none in
    let later = none_parts NotThisSeatsTurn (not (is_seat seat c.turn)) rows all.1 in
    let parts = none_parts NotInThisMoment (not (in_row c.moment call)) (own_refusals m c hand call) later.1 in
    ap (in_row c.moment) is ∙ not-false _ parts.0

seat_back : (seat : Seat) → seat_at (seat_number seat) ≡ Some seat
seat_back Forehand = refl
seat_back Middlehand = refl
seat_back Rearhand = refl

-- what is answered and what becomes of the deal, for the seat of a number
module _ (m : Meaning) (deal : Deal) (seat : Seat) (number : ℕ) (of : seat_number seat ≡ number) (call : Call) where
  seated : seat_at number ≡ Some seat
  seated = ap seat_at (sym of) ∙ seat_back seat

  pub refused : (refusal same : Refusal) → refusal_of m deal.common (holding seat deal.piles) seat call ≡ Some refusal → same ≡ refusal → ◌≡◌ {A = Result Unit Refusal} (Err same) (answered (refusal_by m deal (seat_at number) call) tt)
  refused refusal same is e = ap Err e ∙ sym (ap (λ s. answered (refusal_by m deal s call) tt) seated ∙ ap (λ r. answered r tt) is)

  pub accepted : (same : Call) (after : Deal) → refusal_of m deal.common (holding seat deal.piles) seat call ≡ None → same ≡ call → after ≡ step m deal seat same → after ≡ after_call m deal (seat_at number) call
  accepted same after none e is =
      is
      ∙ (ap (step m deal seat) e
      ∙ sym (ap (λ s. after_call m deal s call) seated ∙ cond-true _ _ _ (ap is_none none)))
