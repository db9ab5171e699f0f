-- What holds of every run, by the calls that were accepted so far.
use Rattle.std.proofs.Common.{◌≡◌, Bool, true, false, cond, List, [], ◌∷◌, ◌++◌, Some, None, Option, sym, refl, subst, append_assoc, append-nil}
use Rattle.cards.specs.declared.seats.Seat.{Seat}
use Rattle.cards.specs.Seats.{seat_at}
use Rattle.kinds.specs.Meanings.{Meaning}
use Rattle.rules.specs.declared.calls.Call.{Call}
use Rattle.rules.specs.declared.deals.Deal.{Deal}
use Rattle.rules.specs.Refusing.{is_accepted}
use Rattle.rules.specs.Steps.{step}
use Rattle.runs.specs.declared.requests.Request.{Request}
use Rattle.runs.specs.declared.requests.Request.TheVariants.{Act, Sight, Permitted, Result}
use Rattle.runs.specs.Runs.{after_call, ended, accepted, accepted_by}

module _ (m : Meaning) (P : List (Seat × Call) → Deal → Type 0)
    (more : (calls : List (Seat × Call)) (t : Deal) (s : Seat) (call : Call)
    → is_accepted m t s call ≡ true → P calls t → P (calls ++ (s, call) ∷ []) (step m t s call)) where
  abbrev Onward : List Request → Type 0
  Onward run = (calls : List (Seat × Call)) (t : Deal) → P calls t → P (calls ++ accepted m t run) (ended m t run)

  one : (calls : List (Seat × Call)) (t : Deal) (s : Seat) (call : Call) (run : List Request) (b : Bool) → is_accepted m t s call ≡ b
      → Onward run → P calls t
      → P (calls ++ cond b ((s, call) ∷ accepted m (cond b (step m t s call) t) run) (accepted m (cond b (step m t s call) t) run))
      (ended m (cond b (step m t s call) t) run)
  one calls t s call run true e on h =
      subst (λ (cs : List (Seat × Call)). P cs (ended m (step m t s call) run))
      (append_assoc calls ((s, call) ∷ []) (accepted m (step m t s call) run))
      (on (calls ++ (s, call) ∷ []) (step m t s call) (more calls t s call e h))
  one calls t s call run false e on h = on calls t h

  by : (calls : List (Seat × Call)) (t : Deal) (o : Option Seat) (call : Call) (run : List Request) → Onward run → P calls t
      → P (calls ++ accepted_by m t o call (accepted m (after_call m t o call) run)) (ended m (after_call m t o call) run)
  by calls t None call run on h = on calls t h
  by calls t (Some s) call run on h = one calls t s call run (is_accepted m t s call) refl on h

  onward : (run : List Request) → Onward run
  onward [] calls t h = subst (λ (cs : List (Seat × Call)). P cs t) (sym (append-nil calls)) h
  onward (Act n call ∷ run) calls t h = by calls t (seat_at n) call run (onward run) h
  onward (Sight n room ∷ run) calls t h = onward run calls t h
  onward (Permitted n ∷ run) calls t h = onward run calls t h
  onward (Result ∷ run) calls t h = onward run calls t h

  pub by_calls : (run : List Request) (t : Deal) → P [] t → P (accepted m t run) (ended m t run)
  by_calls run t h = onward run [] t h
