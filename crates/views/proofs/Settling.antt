-- A settled deal's bid, and with it the game points, for `points`.
use Rattle.std.proofs.Common.{◌≡◌, ℕ, Bool, true, false, List, Some, Ok, Err, Result, MatchResult, sym, refl, ap, ◌∙◌, arith}
use Rattle.std.specs.Result.{result_ok}
use mathlib.Core.Bool.{Bool-set}
use Rattle.std.proofs.lemmas.Bool.{both_ways}
use Rattle.cards.specs.declared.deck.Card.{Card}
use Rattle.cards.specs.declared.refusals.Refusal.{Refusal}
use Rattle.cards.specs.declared.units.GamePoints.{GamePoints}
use Rattle.cards.specs.Seats.{seat_number}
use Rattle.worth.specs.declared.bids.Bid.{Bid}
use Rattle.worth.specs.declared.finished.Finished.{Finished}
use Rattle.worth.specs.BidValues.{is_bid}
use Rattle.worth.specs.Tops.{tops_of}
use Rattle.rules.specs.declared.deals.Announcement.{Announcement}
use Rattle.rules.specs.declared.deals.Contract.TheVariants.{Announced}
use Rattle.rules.specs.declared.deals.Deal.{Deal}
use Rattle.worth.specs.Rated.{Worth}
use Rattle.rules.specs.Results.{bid_at, bid_when, points_of}
use Rattle.views.specs.Results.{declarer_eyes, defender_eyes, finished_in, points_in}

-- there is one bid of a value: all proofs that it is a bid value are alike
bid_when_lem : (bid : Bid) (is : Bool) (valued : is_bid bid.value ≡ is) → bid_when bid.value is valued ≡ Some bid
bid_when_lem bid true valued = ap (λ v. Some (record { value = bid.value; valued = v })) (Bool-set (is_bid bid.value) true valued bid.valued)
bid_when_lem bid false none = absurd (both_ways (is_bid bid.value) none bid.valued)

bid_is : (bid : Bid) (value : ℕ) → bid.value ≡ value → bid_at value ≡ Some bid
bid_is bid value is = ap bid_at (sym is) ∙ bid_when_lem bid (is_bid bid.value) refl

-- the bid that a conversion answers has the value that was asked for
pub bid_of : (bid : Bid) (value : ℕ) (Q : Refusal → Type 0) (r : Result Bid Refusal) → Some bid ≡ result_ok r → MatchResult r (λ (b : Bid). b.value ≡ value) Q → bid.value ≡ value
bid_of bid value Q (Ok other) is says = let same : bid ≡ other = cc in ap (λ (b : Bid). b.value) same ∙ says
bid_of bid value Q (Err refusal) is says = let z : ◌≡◌ {A = ℕ} 0 1 = cc in absurd (omega arith)

pub points_are : (worth : Worth) (deal : Deal) (a : Announcement) (bid : Bid) (twelve : List Card) (game : Finished) (points : GamePoints)
    → deal.common.contract ≡ Announced a → bid.value ≡ deal.common.bid → deal.twelve ≡ Some twelve → game ≡ finished_in deal a bid → points.0 ≡ worth.counts (tops_of worth.run twelve) game
    → (seat_number a.declarer, points) ≡ points_in worth deal
points_are worth deal a bid twelve game points announced valued held ended counts =
    (λ i. (seat_number a.declarer, record { 0 = (counts ∙ ap (worth.counts (tops_of worth.run twelve)) ended) i }))
    ∙ sym (λ i. points_of worth (announced i) (bid_is bid deal.common.bid valued i) (held i) (declarer_eyes deal) (defender_eyes deal) deal.common.board.taken)
