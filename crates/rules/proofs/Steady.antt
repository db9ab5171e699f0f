-- There are fewer than ten tricks while the play goes on, after every call too.
use Rattle.std.proofs.Common.{◌≡◌, ℕ, suc, ◌+◌, ◌<◌, Bool, true, false, cond, eqb, sym, refl, subst, arith}
use Rattle.std.proofs.lemmas.Bool.{eqb-false, both_ways, or_parts, cond_both}
use Rattle.cards.specs.declared.deck.Card.{Card}
use Rattle.cards.specs.declared.seats.Seat.{Seat}
use Rattle.cards.specs.declared.seats.Seat.TheVariants.{Forehand}
use Rattle.cards.specs.Deck.{card_at}
use Rattle.kinds.specs.Meanings.{Meaning}
use Rattle.rules.specs.declared.calls.Call.{Call}
use Rattle.rules.specs.declared.calls.Call.TheVariants.{Bid, Hold, Pass, Take, Put, Announce, Play}
use Rattle.rules.specs.declared.deals.Common.{Common}
use Rattle.rules.specs.declared.deals.Deal.{Deal}
use Rattle.rules.specs.declared.deals.Pair.{Pair}
use Rattle.rules.specs.declared.deals.Pair.TheVariants.{MiddlehandToForehand, RearhandToForehand, RearhandToMiddlehand}
use Rattle.rules.specs.declared.deals.Trick.{Trick}
use Rattle.rules.specs.declared.deals.Trick.TheVariants.{Empty, One, Two, Full}
use Rattle.rules.specs.declared.moments.Moment.TheVariants.{Playing, Settled}
use Rattle.rules.specs.Bidding.{bids_next, declares, leaves_forehand, passed_in, bidder_passes, hearer_passes}
use Rattle.rules.specs.Board.{is_declarer, taker_of}
use Rattle.rules.specs.Moments.{is_at, in_row}
use Rattle.rules.specs.Steps.{settles, plays, next, step, Few}

abbrev FewIn : Common → Type 0
FewIn c = is_at 6 c.moment ≡ true → c.board.taken.declarer + c.board.taken.defenders < 10

module _ (m : Meaning) (c : Common) (seat : Seat) where
  bidder_few : (pair : Pair) → FewIn (bidder_passes c pair)
  bidder_few MiddlehandToForehand = λ _. omega arith
  bidder_few RearhandToForehand = cond_both (eqb c.bid 0) (leaves_forehand c) (declares c Forehand c.bid) FewIn (λ _ _. omega arith) (λ _ _. omega arith)
  bidder_few RearhandToMiddlehand = λ _. omega arith

  hearer_few : (pair : Pair) → FewIn (hearer_passes c pair)
  hearer_few MiddlehandToForehand = λ _. omega arith
  hearer_few RearhandToForehand = λ _. omega arith
  hearer_few RearhandToMiddlehand = λ _. omega arith

  filled_few : (ours over : Bool) (x y : ℕ) → x + y < 10 → (over ≡ false → suc (x + y) ≡ 10 → ⊥) → is_at 6 (cond over Settled Playing) ≡ true → cond ours (suc x) x + cond ours y (suc y) < 10
  filled_few ours true x y few goes_on playing = absurd (both_ways false refl playing)
  filled_few true false x y few goes_on playing = let more = goes_on refl in omega arith
  filled_few false false x y few goes_on playing = let more = goes_on refl in omega arith

  plays_few : (card : Card) (trick : Trick) → c.board.taken.declarer + c.board.taken.defenders < 10 → FewIn (plays m c seat card trick)
  plays_few card Empty few = λ _. few
  plays_few card (One a) few = λ _. few
  plays_few card (Two a b) few =
      let ours = is_declarer c.contract (taker_of m c.board.leader a b card) in
      let tricks = suc (c.board.taken.declarer + c.board.taken.defenders) in
      filled_few ours (settles m ours tricks) c.board.taken.declarer c.board.taken.defenders few (λ e. eqb-false tricks 10 (or_parts _ _ e).0)
  plays_few card (Full a b d) few = λ _. few

  few_next : FewIn c → (call : Call) → in_row c.moment call ≡ true → FewIn (next m c seat call)
  unfolding next
  few_next few (Bid value) row = λ _. omega arith
  few_next few Hold row = cond_both (is_at 2 c.moment) (declares c Forehand 18) (bids_next c c.pair) FewIn (λ _ _. omega arith) (λ _ _. omega arith)
  few_next few Pass row =
      cond_both (is_at 2 c.moment) (passed_in c) (cond (is_at 0 c.moment) (bidder_passes c c.pair) (hearer_passes c c.pair)) FewIn
      (λ _ _. omega arith)
      (λ _. cond_both (is_at 0 c.moment) (bidder_passes c c.pair) (hearer_passes c c.pair) FewIn (λ _. bidder_few c.pair) (λ _. hearer_few c.pair))
  few_next few Take row = λ _. omega arith
  few_next few (Put a b) row = λ _. omega arith
  few_next few (Announce game level) row = λ _. omega arith
  few_next few (Play card) row = plays_few (card_at card) c.board.trick (few row)

pub few_step : (m : Meaning) (deal : Deal) (seat : Seat) (call : Call) → Few deal → in_row deal.common.moment call ≡ true → (after : Deal) → after ≡ step m deal seat call → Few after
few_step m deal seat call few row after is = subst Few (sym is) (few_next m deal.common seat few call row)
