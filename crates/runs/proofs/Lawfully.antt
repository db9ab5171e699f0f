-- The law of every run, and a run with one request more.
use Rattle.std.proofs.Common.{◌≡◌, ℕ, true, eqb, List, [], ◌∷◌, ◌++◌, Ok, Option, Result, sym, refl, ap, ◌∙◌, subst}
use Rattle.std.proofs.lemmas.Bool.{cond-true}
use Rattle.cards.specs.declared.refusals.Refusal.{Refusal}
use Rattle.cards.specs.declared.units.GamePoints.{GamePoints}
use Rattle.kinds.specs.Meanings.{Meaning}
use Rattle.worth.specs.BidValues.{is_bid}
use Rattle.rules.specs.declared.deals.Deal.{Deal}
use Rattle.rules.specs.Dealing.{start}
use Rattle.rules.specs.Piles.{is_declarers, is_defenders, eyes_where}
use Rattle.worth.specs.Rated.{Worth}
use Rattle.rules.specs.Results.{bid_at, points_of, result_of}
use Rattle.runs.specs.declared.requests.Request.{Request}
use Rattle.runs.specs.Law.{EveryRun, EveryResult, Continues, Counts, Lawful, twelve_in}
use Rattle.runs.specs.Reach.{requests_of}
use Rattle.runs.specs.Runs.{after, ended, answer, answers, accepted}
use Rattle.runs.proofs.Acting.{one_acts}
use Rattle.runs.proofs.Agreeing.{settled_is, agreeing, eyes_of_lem}
use Rattle.runs.proofs.Copying.{copied_twelve}
use Rattle.runs.proofs.Follow.{fairly}
use Rattle.runs.proofs.Kindless.{under_one}
use Rattle.runs.proofs.Limit.{bounded}
use Rattle.runs.proofs.Told.{told_run}

pub every_run : EveryRun
every_run m pack run law w =
    let calls = accepted m (start pack) run in
    let deal = ended m (start pack) run in
    let told = told_run m pack run w in
    record {
      fair = λ seat pack' run' w' alike. fairly m seat pack pack' run run' alike;
      agrees = agreeing m pack calls deal told;
      turns = told.board.turns;
      takers = told.board.takers law;
      eyes = eyes_of_lem m pack calls deal told;
      acts = λ live. one_acts m deal told.sound (settled_is m pack calls deal told ∙ live);
      short = bounded m pack run w;
      thirty = told.thirty;
      valued = λ some. subst (λ n. is_bid n ≡ true) told.known.bid (told.valued (ap (λ n. eqb n 0) told.known.bid ∙ some));
    }

pub every_result : EveryResult
every_result m worth pack run w over =
    let calls = accepted m (start pack) run in
    let deal = ended m (start pack) run in
    let a = agreeing m pack calls deal (told_run m pack run w) in
    let settled = a.settled ∙ over in
    let twelve = copied_twelve m pack run w settled ∙ ap (twelve_in pack) a.declarer in
    cond-true _ _ _ settled
    ∙ (λ i. Ok
    (points_of worth (a.contract i) (bid_at (a.bid i)) (twelve i) (eyes_where is_declarers (λ card. a.piles card i)) (eyes_where is_defenders (λ card. a.piles card i)) (a.taken i)))

pub ended_more : (m : Meaning) (t : Deal) (run : List Request) (r : Request) → ended m t (run ++ r ∷ []) ≡ after m (ended m t run) r
ended_more m t [] r = refl
ended_more m t (x ∷ run) r = ended_more m (after m t x) run r

pub answers_more : (m : Meaning) (worth : Option Worth) (t : Deal) (run : List Request) (r : Request)
    → answers m worth t (run ++ r ∷ []) ≡ answers m worth t run ++ answer m worth (ended m t run) r ∷ []
answers_more m worth t [] r = refl
answers_more m worth t (x ∷ run) r = ap (λ xs. answer m worth t x ∷ xs) (answers_more m worth (after m t x) run r)

-- a deal that a run reaches, and one request more
pub continues : (m : Meaning) (u v : Deal) (r : Request) → Lawful m → v ≡ after m u r → Continues m u v r
continues m u v r law f pack run w one e = (
  f ∙ ap (λ x. after m x r) (e ∙ under_one m (start pack) run one) ∙ sym (ended_more m (start pack) (requests_of run) r),
  every_run m pack (requests_of run ++ r ∷ []) law w,
)

pub counts : (m : Meaning) (worth : Worth) (deal : Deal) (answer : Result (ℕ × GamePoints) Refusal) → answer ≡ result_of worth deal → Counts m worth deal answer
counts m worth deal answer f pack run w one e over =
    f ∙ ap (result_of worth) (e ∙ under_one m (start pack) run one) ∙ every_result m worth pack (requests_of run) w over
