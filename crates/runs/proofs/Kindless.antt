-- Before the announcement no call reads the kind, so a run under one kind from then on is a run under that kind.
use Rattle.std.proofs.Common.{◌≡◌, ℕ, Bool, true, false, cond, leb, List, [], ◌∷◌, Some, None, Option, sym, refl, ap, ◌∙◌}
use Rattle.std.proofs.lemmas.Bool.{both_ways}
use Rattle.cards.specs.declared.seats.Seat.{Seat}
use Rattle.cards.specs.Seats.{seat_at}
use Rattle.kinds.specs.Meanings.{Meaning}
use Rattle.rules.specs.declared.calls.Call.{Call}
use Rattle.rules.specs.declared.calls.Call.TheVariants.{Bid, Hold, Pass, Take, Put, Announce, Play}
use Rattle.rules.specs.declared.deals.Deal.{Deal}
use Rattle.rules.specs.Moments.{moment_number}
use Rattle.rules.specs.Refusing.{refusal_of, is_accepted}
use Rattle.rules.specs.Steps.{next, moved, step}
use Rattle.runs.specs.declared.requests.Request.{Request}
use Rattle.runs.specs.declared.requests.Request.TheVariants.{Act, Sight, Permitted, Result}
use Rattle.runs.specs.Reach.{ended_by, requests_of, is_announced, OneKind}
use Rattle.runs.specs.Runs.{after, after_call, ended}
use Rattle.runs.proofs.Facts.{accepted_fine, is_moment}

-- a card is refused before the announcement
stays : (m : Meaning) (t : Deal) (s : Seat) (k : ℕ) (b : Bool) → is_announced t ≡ false → is_accepted m t s (Play k) ≡ b → cond b (step m t s (Play k)) t ≡ t
stays m t s k true l e =
    absurd (both_ways _ l (ap (λ w. leb 6 (moment_number w)) (is_moment t.common.moment 6 (accepted_fine m t s (Play k) e).row)))
stays m t s k false l e = refl

kindless_by : (m n : Meaning) (t : Deal) (s : Seat) (call : Call) → is_announced t ≡ false → after_call m t (Some s) call ≡ after_call n t (Some s) call
unfolding refusal_of next moved
kindless_by m n t s (Bid x) l = refl
kindless_by m n t s Hold l = refl
kindless_by m n t s Pass l = refl
kindless_by m n t s Take l = refl
kindless_by m n t s (Put a b) l = refl
kindless_by m n t s (Announce g v) l = refl
kindless_by m n t s (Play k) l = stays m t s k (is_accepted m t s (Play k)) l refl ∙ sym (stays n t s k (is_accepted n t s (Play k)) l refl)

kindless_call : (m n : Meaning) (t : Deal) (o : Option Seat) (call : Call) → is_announced t ≡ false → after_call m t o call ≡ after_call n t o call
kindless_call m n t None call l = refl
kindless_call m n t (Some s) call l = kindless_by m n t s call l

kindless : (m n : Meaning) (t : Deal) (r : Request) → is_announced t ≡ false → after m t r ≡ after n t r
kindless m n t (Act x call) l = kindless_call m n t (seat_at x) call l
kindless m n t (Sight x room) l = refl
kindless m n t (Permitted x) l = refl
kindless m n t Result l = refl

one_after : (m n : Meaning) (t : Deal) (r : Request) (b : Bool) → is_announced t ≡ b → (b ≡ true → n ≡ m) → after n t r ≡ after m t r
one_after m n t r true l h = ap (λ x. after x t r) (h refl)
one_after m n t r false l h = kindless n m t r l

pub under_one : (m : Meaning) (t : Deal) (run : List (Meaning × Request)) → OneKind m t run → ended_by t run ≡ ended m t (requests_of run)
under_one m t [] h = refl
under_one m t (x ∷ run) h =
    let same = one_after m x.0 t x.1 (is_announced t) refl h.0 in
    under_one m (after x.0 t x.1) run h.1 ∙ ap (λ u. ended m u (requests_of run)) same
