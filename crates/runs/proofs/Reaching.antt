-- Deals that runs reach: fewer than ten tricks while the play goes on, and one request more.
use Rattle.std.proofs.Common.{◌≡◌, ◌+◌, ◌<◌, Bool, true, false, cond, List, [], ◌∷◌, ◌++◌, Some, None, Option, sym, refl, ap, ◌∙◌, subst}
use mathlib.Core.Logic.{∥∥₁_elim, ∥∥₁_map}
use native.Mathlib.Bridge.{le_prop}
use Rattle.cards.specs.declared.deck.Card.{Card}
use Rattle.cards.specs.declared.seats.Seat.{Seat}
use Rattle.cards.specs.Seats.{seat_at}
use Rattle.kinds.specs.Meanings.{Meaning}
use Rattle.rules.specs.declared.calls.Call.{Call}
use Rattle.rules.specs.declared.deals.Deal.{Deal}
use Rattle.rules.specs.declared.moments.Moment.TheVariants.{Playing}
use Rattle.rules.specs.Dealing.{IsCutPack, start}
use Rattle.rules.specs.Moments.{is_at}
use Rattle.rules.specs.Refusing.{is_accepted}
use Rattle.rules.specs.Steps.{step}
use Rattle.runs.specs.declared.requests.Request.{Request}
use Rattle.runs.specs.declared.requests.Request.TheVariants.{Act, Sight, Permitted, Result}
use Rattle.runs.specs.Reach.{ended_by, Reached}
use Rattle.runs.specs.Runs.{after, after_call}
use Rattle.runs.proofs.Facts.{is_moment}
use Rattle.runs.proofs.Sound.{Sound, phase_at, step_sound, start_sound}

sound_call : (m : Meaning) (t : Deal) (o : Option Seat) (call : Call) → Sound t → Sound (after_call m t o call)
sound_call m t None call h = h
sound_call m t (Some s) call h = go (is_accepted m t s call) refl
  where
    go : (b : Bool) → is_accepted m t s call ≡ b → Sound (cond b (step m t s call) t)
    go true e = step_sound m t s call e h
    go false e = h

sound_after : (m : Meaning) (t : Deal) (r : Request) → Sound t → Sound (after m t r)
sound_after m t (Act n call) h = sound_call m t (seat_at n) call h
sound_after m t (Sight n room) h = h
sound_after m t (Permitted n) h = h
sound_after m t Result h = h

sound_run : (t : Deal) (run : List (Meaning × Request)) → Sound t → Sound (ended_by t run)
sound_run t [] h = h
sound_run t (x ∷ run) h = sound_run (after x.0 t x.1) run (sound_after x.0 t x.1 h)

few_sound : (t : Deal) → Sound t → is_at 6 t.common.moment ≡ true → t.common.board.taken.declarer + t.common.board.taken.defenders < 10
few_sound t h e = (phase_at t Playing (is_moment t.common.moment 6 e) h).few

pub reached_few : (t : Deal) → Reached t → is_at 6 t.common.moment ≡ true → t.common.board.taken.declarer + t.common.board.taken.defenders < 10
reached_few t h e =
    ∥∥₁_elim h le_prop
    (λ p. few_sound t (subst Sound (sym p.3) (sound_run (start p.0) p.1 (start_sound p.0 p.2))) e)

pub reached_new : (pack : List Card) (t : Deal) → IsCutPack pack → t ≡ start pack → Reached t
reached_new pack t w e = ∣ (pack, [], w, e) ∣₁

by_more : (t : Deal) (run : List (Meaning × Request)) (x : Meaning × Request) → ended_by t (run ++ x ∷ []) ≡ after x.0 (ended_by t run) x.1
by_more t [] x = refl
by_more t (y ∷ run) x = by_more (after y.0 t y.1) run x

pub reached_more : (m : Meaning) (r : Request) (t u : Deal) → Reached t → u ≡ after m t r → Reached u
reached_more m r t u h e =
    ∥∥₁_map h
    (λ p. (
      p.0,
      p.1 ++ (m, r) ∷ [],
      p.2,
      e ∙ ap (λ x. after m x r) p.3 ∙ sym (by_more (start p.0) p.1 (m, r)),
    ))
