-- The law of runs: what every run from every cut pack keeps, under every kind.
use Rattle.std.specs.Prelude.{◌≡◌, ℕ, ◌+◌, ◌≤◌, Bool, true, false, List, [], ◌∷◌, ◌++◌, map, length, Some, None, Ok, Option, Result, ◌≢◌, nat_eq}
use Rattle.std.specs.List.{AllByRecursion}
use Rattle.cards.specs.declared.deck.Card.{Card}
use Rattle.cards.specs.declared.refusals.Refusal.{Refusal}
use Rattle.cards.specs.declared.seats.Seat.{Seat}
use Rattle.cards.specs.declared.seats.Seat.TheVariants.{Forehand}
use Rattle.cards.specs.declared.units.GamePoints.{GamePoints}
use Rattle.kinds.specs.Meanings.{Meaning}
use Rattle.worth.specs.BidValues.{is_bid}
use Rattle.rules.specs.declared.deals.Deal.{Deal}
use Rattle.rules.specs.declared.deals.Pile.{Pile}
use Rattle.runs.specs.declared.requests.Request.{Request}
use Rattle.rules.specs.Board.{declarer_of, open_cards, last_cards}
use Rattle.rules.specs.Dealing.{IsCutPack, dealt_to, start}
use Rattle.runs.specs.Fairness.{Alike, got}
use Rattle.rules.specs.Piles.{pile_in, is_declarers, is_defenders, eyes_where, hand_and_skat}
use Rattle.runs.specs.Progress.{OneActs}
use Rattle.runs.specs.Reckoning.{Made, Play', highest_bid, declarer_in, contract_in, plays_in, tricks_in, open_in, taken_in, leader_in, last_in, is_settled_in, pile_of, InTurn, OneTakes}
use Rattle.worth.specs.Rated.{Worth}
use Rattle.rules.specs.Results.{is_settled, bid_at, points_of, result_of}
use Rattle.runs.specs.Reach.{ended_by, requests_of, OneKind}
use Rattle.runs.specs.Runs.{ended, accepted}

-- The law of a kind: two different cards of one class have different ranks.
abbrev pub Lawful : Meaning → Type 0
Lawful m = (a b : Card) → m.class a ≡ m.class b → m.rank a ≡ m.rank b → a ≡ b

-- A table agrees with what is reckoned from the pack, the kind and the accepted calls alone.
pub record Agrees (m : Meaning) (pack : List Card) (calls : List Made) (deal : Deal) : Type 0 where
  pub settled : is_settled deal ≡ is_settled_in m calls
  pub declarer : declarer_of deal.common.contract ≡ declarer_in calls
  pub contract : deal.common.contract ≡ contract_in calls
  pub bid : deal.common.bid ≡ highest_bid calls
  pub taken : deal.common.board.taken ≡ taken_in m calls
  pub leader : deal.common.board.leader ≡ leader_in m calls
  pub opened : open_cards deal.common.board.trick ≡ map (λ (play : Play'). play.1) (open_in calls)
  pub last : last_cards deal.common.board.trick ≡ last_in calls
  -- Each card lies in the one pile that is reckoned for it.
  pub piles : (card : Card) → pile_in deal.piles card ≡ pile_of m card calls (dealt_to pack card)
  -- Between two tricks of a deal that is not settled, who took the last is to lead.
  pub leads : is_settled_in m calls ≡ false → open_in calls ≡ [] → (plays_in calls ≢ []) → deal.common.turn ≡ leader_in m calls

-- What a run from a pack keeps under a kind.
pub record Law (m : Meaning) (pack : List Card) (run : List Request) : Type 0 where
  -- Nothing is betrayed: under every second run that is alike for a seat, that seat gets the same answers.
  pub fair : (seat : Seat) (pack' : List Card) (run' : List Request) → IsCutPack pack' → Alike m seat pack pack' run run'
      → got m seat (start pack) run ≡ got m seat (start pack') run'
  -- No card is lost: the table agrees with the reckoning, the cards were played in turn, and each full trick went to the one seat whose card neither other beats.
  pub agrees : Agrees m pack (accepted m (start pack) run) (ended m (start pack) run)
  pub turns : InTurn m Forehand (plays_in (accepted m (start pack) run))
  pub takers : AllByRecursion (OneTakes m) (tricks_in (accepted m (start pack) run))
  -- After thirty cards the eyes of both sides make 120.
  pub eyes : length (plays_in (accepted m (start pack) run)) ≡ 30
      → eyes_where is_declarers (pile_in (ended m (start pack) run).piles) + eyes_where is_defenders (pile_in (ended m (start pack) run).piles) ≡ 120
  -- It goes on and it ends.
  pub acts : is_settled_in m (accepted m (start pack) run) ≡ false → OneActs m (ended m (start pack) run)
  pub short : length (accepted m (start pack) run) ≤ 161
  pub thirty : length (plays_in (accepted m (start pack) run)) ≤ 30
  -- The highest bid, if there is one, is a bid value.
  pub valued : nat_eq (highest_bid (accepted m (start pack) run)) 0 ≡ false → is_bid (highest_bid (accepted m (start pack) run)) ≡ true

-- The result that is reckoned: the worth of the declarer's ten dealt cards and the skat of the pack, with the reckoned bid, announcement, eyes and tricks.
abbrev pub twelve_in : List Card → Option Seat → Option (List Card)
twelve_in pack None = None
twelve_in pack (Some seat) = Some (hand_and_skat seat (start pack).piles)

abbrev pub eyes_in : Meaning → List Card → List Made → (Pile → Bool) → ℕ
eyes_in m pack calls counts = eyes_where counts (λ card. pile_of m card calls (dealt_to pack card))

abbrev pub reckoned_result : Meaning → Worth → List Card → List Made → ℕ × GamePoints
reckoned_result m worth pack calls =
    points_of worth (contract_in calls) (bid_at (highest_bid calls)) (twelve_in pack (declarer_in calls)) (eyes_in m pack calls is_declarers) (eyes_in m pack calls is_defenders) (taken_in m calls)

-- The law of the result: once a run under a rated kind is settled, the result is the reckoned one.
abbrev pub ResultLaw : Meaning → Worth → List Card → List Request → Type 0
ResultLaw m worth pack run =
    is_settled_in m (accepted m (start pack) run) ≡ true
    → result_of worth (ended m (start pack) run) ≡ Ok (reckoned_result m worth pack (accepted m (start pack) run))

-- Every run of every kind from every cut pack keeps the law.
abbrev pub EveryRun : Type 0
EveryRun = (m : Meaning) (pack : List Card) (run : List Request) → Lawful m → IsCutPack pack → Law m pack run

abbrev pub EveryResult : Type 0
EveryResult = (m : Meaning) (worth : Worth) (pack : List Card) (run : List Request) → IsCutPack pack → ResultLaw m worth pack run

-- A call under a kind: for every run, under this kind from the announcement on, that reaches one deal, the run with one request more reaches another and keeps the law.
abbrev pub Continues : Meaning → Deal → Deal → Request → Type 0
Continues m before behind request =
    (pack : List Card) (run : List (Meaning × Request))
    → IsCutPack pack
    → OneKind m (start pack) run
    → before ≡ ended_by (start pack) run
    → (behind ≡ ended m (start pack) (requests_of run ++ request ∷ [])) × Law m pack (requests_of run ++ request ∷ [])

-- A result under a rated kind: for every such run that reaches the deal and is settled, it is the reckoned one.
abbrev pub Counts : Meaning → Worth → Deal → Result (ℕ × GamePoints) Refusal → Type 0
Counts m worth deal result =
    (pack : List Card) (run : List (Meaning × Request))
    → IsCutPack pack
    → OneKind m (start pack) run
    → deal ≡ ended_by (start pack) run
    → is_settled_in m (accepted m (start pack) (requests_of run)) ≡ true
    → result ≡ Ok (reckoned_result m worth pack (accepted m (start pack) (requests_of run)))
