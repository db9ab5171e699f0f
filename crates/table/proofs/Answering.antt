-- One request more of a run, answered in its line.
use Rattle.std.proofs.Common.{◌≡◌, ℕ, ◌+◌, ◌<◌, ◌≤◌, List, [], ◌∷◌, ◌++◌, length, get_or, take, set, Option, sym, ap, ◌∙◌, arith}
use Rattle.std.proofs.lemmas.List.{take_more, take_more_set, take_all, map_push, map-set, get_or-map, set-get_or, length-map}
use Rattle.kinds.specs.Meanings.{Meaning}
use Rattle.rules.specs.declared.deals.Deal.{Deal}
use Rattle.worth.specs.Rated.{Worth}
use Rattle.runs.specs.declared.requests.Answer.{Answer}
use Rattle.runs.specs.Runs.{after, answer, answers, ended}
use Rattle.runs.proofs.Lawfully.{ended_more, answers_more}
use Rattle.table.specs.declared.asked.Asked.{Asked}
use Rattle.table.specs.Lines.{request_of, answer_of, requests_in, answers_in}

-- the first i requests are answered, the one for the result by a worth that counts
pub record Answered (m : Meaning) (counts : Option Worth → Type 0) (start : Deal) (lines : List Asked) (i : ℕ) (deal : Deal) (asked : List Asked) : Type 0 where
  pub requests : requests_in asked ≡ requests_in lines
  pub reached : deal ≡ ended m start (take i (requests_in lines))
  pub answered : (worth : Option Worth) → counts worth → answers_in (take i asked) ≡ answers m worth start (take i (requests_in lines))

module _ (m : Meaning) (counts : Option Worth → Type 0) (start : Deal) (lines : List Asked) (i : ℕ) (deal : Deal) (asked : List Asked) (h : Answered m counts start lines i deal asked) where
  pub answered_more : (d : Asked) (deal' : Deal) (reply : Option Answer) → i < length asked
      → deal' ≡ after m deal (get_or asked i d).request → ((worth : Option Worth) → counts worth → reply ≡ answer m worth deal (get_or asked i d).request)
      → Answered m counts start lines (i + 1) deal' (set asked i (record { request = (get_or asked i d).request; answer = reply }))
  answered_more d deal' reply lt moved replied =
      let request = (get_or asked i d).request in
      let new : Asked = record { request = request; answer = reply } in
      let all : i < length (requests_in lines) = omega (arith, ap length h.requests, length-map asked request_of) in
      let this : request ≡ get_or (requests_in asked) i d.request = sym (get_or-map request_of asked i d d.request lt) in
      let same : request ≡ get_or (requests_in lines) i d.request = this ∙ ap (λ rs. get_or rs i d.request) h.requests in
      let next : take (i + 1) (requests_in lines) ≡ take i (requests_in lines) ++ request ∷ [] =
      take_more (requests_in lines) i d.request all ∙ ap (λ r. take i (requests_in lines) ++ r ∷ []) (sym same) in
      record {
        requests =
            map-set request_of asked i new ∙ ap (λ r. set (requests_in asked) i r) this
            ∙ set-get_or (requests_in asked) i d.request ∙ h.requests;
        reached =
            moved ∙ ap (λ x. after m x request) h.reached
            ∙ sym (ap (ended m start) next ∙ ended_more m start (take i (requests_in lines)) request);
        answered = λ worth by.
            ap answers_in (take_more_set asked i new lt) ∙ map_push answer_of (take i asked) new
            ∙ (λ k. h.answered worth by k ++ (replied worth by ∙ ap (λ x. answer m worth x request) h.reached) k ∷ [])
            ∙ sym (ap (answers m worth start) next ∙ answers_more m worth start (take i (requests_in lines)) request);
      }

  pub all_reached : length lines ≤ i → deal ≡ ended m start (requests_in lines)
  all_reached l = h.reached ∙ ap (ended m start) (take_all i (requests_in lines) (omega (arith, length-map lines request_of)))

  pub all_answered : length lines ≤ i → length asked ≤ i → (worth : Option Worth) → counts worth → answers_in asked ≡ answers m worth start (requests_in lines)
  all_answered l k worth by =
      ap answers_in (sym (take_all i asked k)) ∙ h.answered worth by
      ∙ ap (answers m worth start) (take_all i (requests_in lines) (omega (arith, length-map lines request_of)))
