-- Small facts on seats, moments, refusals and accepted calls.
use Rattle.std.proofs.Common.{◌≡◌, ℕ, zero, suc, Bool, true, false, cond, not, ◌||◌, leb, List, [], ◌∷◌, map, Some, None, Option, refl, ap, ◌∙◌, arith}
use Rattle.std.proofs.lemmas.Bool.{eqb-true, both_ways, not-false}
use Rattle.cards.specs.declared.refusals.Refusal.{Refusal}
use Rattle.cards.specs.declared.seats.Seat.{Seat}
use Rattle.cards.specs.declared.seats.Seat.TheVariants.{Forehand, Middlehand, Rearhand}
use Rattle.cards.specs.Refusals.{topmost}
use Rattle.kinds.specs.Meanings.{Meaning}
use Rattle.rules.specs.declared.calls.Call.{Call}
use Rattle.rules.specs.declared.deals.Common.{Common}
use Rattle.rules.specs.declared.deals.Deal.{Deal}
use Rattle.rules.specs.declared.moments.Moment.{Moment}
use Rattle.rules.specs.declared.moments.Moment.TheVariants.{Bidding, Hearing, Alone, Deciding, Putting, Announcing, Playing, Settled}
use Rattle.rules.specs.Board.{is_the}
use Rattle.rules.specs.Moments.{moment_number, is_at, in_row}
use Rattle.rules.specs.Piles.{is_seat, holding}
use Rattle.rules.specs.Refusing.{refusal_of, own_refusals, is_none, is_accepted}

pub same_sym : (s t : Seat) → is_seat s t ≡ is_seat t s
same_sym Forehand Forehand = refl
same_sym Forehand Middlehand = refl
same_sym Forehand Rearhand = refl
same_sym Middlehand Forehand = refl
same_sym Middlehand Middlehand = refl
same_sym Middlehand Rearhand = refl
same_sym Rearhand Forehand = refl
same_sym Rearhand Middlehand = refl
same_sym Rearhand Rearhand = refl

pub same_refl : (s : Seat) → is_seat s s ≡ true
same_refl Forehand = refl
same_refl Middlehand = refl
same_refl Rearhand = refl

pub same_is : (s t : Seat) → is_seat s t ≡ true → s ≡ t
same_is Forehand Forehand e = refl
same_is Forehand Middlehand e = absurd (both_ways false refl e)
same_is Forehand Rearhand e = absurd (both_ways false refl e)
same_is Middlehand Forehand e = absurd (both_ways false refl e)
same_is Middlehand Middlehand e = refl
same_is Middlehand Rearhand e = absurd (both_ways false refl e)
same_is Rearhand Forehand e = absurd (both_ways false refl e)
same_is Rearhand Middlehand e = absurd (both_ways false refl e)
same_is Rearhand Rearhand e = refl

pub the_is : (o : Option Seat) (s : Seat) → is_the o s ≡ true → o ≡ Some s
the_is None s e = absurd (both_ways false refl e)
the_is (Some t) s e = ap Some (same_is t s e)

-- what is None
pub some_none : {A : Type 0} (x : A) → ◌≡◌ {A = Option A} (Some x) None → ⊥
some_none x e = let z : ◌≡◌ {A = ℕ} 0 1 = cc in omega arith

pub none_is : {A : Type 0} (o : Option A) → is_none o ≡ true → o ≡ None
none_is None e = refl
none_is (Some x) e = absurd (both_ways false refl e)

pub is_none_lem : {A : Type 0} (o : Option A) → o ≡ None → is_none o ≡ true
is_none_lem o e = ap is_none e

pub peel : (b : Bool) (r : Refusal) (x : Option Refusal) → cond b (Some r) x ≡ None → (b ≡ false) × (x ≡ None)
peel true r x e = absurd (some_none r e)
peel false r x e = (refl, e)

pub skip : (b : Bool) (r : Refusal) (x : Option Refusal) → b ≡ false → x ≡ None → cond b (Some r) x ≡ None
skip true r x e h = absurd (both_ways true e refl)
skip false r x e h = h

-- what an accepted call shows
pub record Fine (m : Meaning) (c : Common) (hand : List Bool) (s : Seat) (call : Call) : Type 0 where
  pub live : is_at 7 c.moment ≡ false
  pub turn : s ≡ c.turn
  pub row : in_row c.moment call ≡ true
  pub rest : topmost (own_refusals m c hand call) ≡ None

pub fine : (m : Meaning) (c : Common) (hand : List Bool) (s : Seat) (call : Call) → refusal_of m c hand s call ≡ None → Fine m c hand s call
unfolding refusal_of
fine m c hand s call e =
    let p2 = peel (is_at 7 c.moment) _ _ e in
    let p3 = peel (not (is_seat s c.turn)) _ _ p2.1 in
    let p4 = peel (not (in_row c.moment call)) _ _ p3.1 in
    record { live = p2.0; turn = same_is s c.turn (not-false _ p3.0); row = not-false _ p4.0; rest = p4.1 }

pub accepted_fine : (m : Meaning) (t : Deal) (s : Seat) (call : Call) → is_accepted m t s call ≡ true → Fine m t.common (holding s t.piles) s call
accepted_fine m t s call e = fine m t.common (holding s t.piles) s call (none_is _ e)

-- a moment by its number
abbrev decode : ℕ → Moment
decode zero = Bidding
decode (suc zero) = Hearing
decode (suc (suc zero)) = Alone
decode (suc (suc (suc zero))) = Deciding
decode (suc (suc (suc (suc zero)))) = Putting
decode (suc (suc (suc (suc (suc zero))))) = Announcing
decode (suc (suc (suc (suc (suc (suc zero)))))) = Playing
decode (suc (suc (suc (suc (suc (suc (suc n))))))) = Settled

decoded : (w : Moment) → w ≡ decode (moment_number w)
decoded Bidding = refl
decoded Hearing = refl
decoded Alone = refl
decoded Deciding = refl
decoded Putting = refl
decoded Announcing = refl
decoded Playing = refl
decoded Settled = refl

pub is_moment : (w : Moment) (n : ℕ) → is_at n w ≡ true → w ≡ decode n
is_moment w n e = decoded w ∙ ap decode (eqb-true (moment_number w) n e)

-- a hold stands in the auction
pub hold_row : (w : Moment) → (is_at 1 w || is_at 2 w) ≡ true → leb (moment_number w) 2 ≡ true
hold_row Bidding e = refl
hold_row Hearing e = refl
hold_row Alone e = refl
hold_row Deciding e = e
hold_row Putting e = e
hold_row Announcing e = e
hold_row Playing e = e
hold_row Settled e = e

pub map_map : {A B C : Type 0} (f : B → C) (h : A → C) (g : A → B) → ((p : A) → f (g p) ≡ h p) → (ps : List A) → map f (map g ps) ≡ map h ps
map_map f h g e [] = refl
map_map f h g e (p ∷ ps) = λ i. e p i ∷ map_map f h g e ps i
