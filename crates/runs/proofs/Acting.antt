-- One seat can act, and the eyes make 120.
use Rattle.std.proofs.Common.{◌≡◌, ℕ, zero, suc, ◌+◌, ◌<◌, Bool, true, false, cond, not, eqb, leb, ◌⊎◌, List, [], ◌∷◌, length, get_or, set, Some, None, sum_by, Option, sym, refl, ap, ◌∙◌, subst, inl, inr, add-zero, arith}
use Rattle.std.proofs.lemmas.List.{get_or-set_other, get_or-set_same, length-map}
use Rattle.std.proofs.lemmas.List.Sums.{sum_by-cons}
use Rattle.std.proofs.lemmas.Bool.{ne_eqb, le-ltb, both_ways, and_from, not_from_true, or_cases, or_from, or_left, or_right}
use Rattle.cards.specs.declared.deck.Card.{Card}
use Rattle.cards.specs.declared.seats.Seat.{Seat}
use Rattle.cards.specs.declared.seats.Seat.TheVariants.{Forehand, Middlehand, Rearhand}
use Rattle.cards.specs.Deck.{card_number, card_at, eyes_of}
use Rattle.cards.specs.Refusals.{topmost}
use Rattle.cards.specs.Seats.{seat_at}
use Rattle.kinds.specs.Meanings.{Meaning}
use Rattle.rules.specs.declared.calls.Call.{Call}
use Rattle.rules.specs.declared.calls.Call.TheVariants.{Pass, Take, Put, Announce, Play}
use Rattle.rules.specs.declared.deals.Deal.{Deal}
use Rattle.rules.specs.declared.deals.Pile.{Pile}
use Rattle.rules.specs.declared.deals.Pile.TheVariants.{InHand, InSkat, InTrick, WithDeclarer, WithDefenders}
use Rattle.rules.specs.declared.deals.Trick.{Trick}
use Rattle.rules.specs.declared.deals.Trick.TheVariants.{Empty, One, Two, Full}
use Rattle.rules.specs.declared.moments.Moment.{Moment}
use Rattle.rules.specs.declared.moments.Moment.TheVariants.{Bidding, Hearing, Alone, Deciding, Putting, Announcing, Playing, Settled}
use Rattle.rules.specs.Board.{follows, serves, any_of_class}
use Rattle.rules.specs.Moments.{moment_number, is_at, in_row}
use Rattle.rules.specs.Piles.{is_seat, is_held, holding, marked, marked_from, deck, pile_in, is_declarers, is_defenders, eyes_where}
use Rattle.rules.specs.Refusing.{refusal_of, refusal_by, own_refusals}
use Rattle.rules.specs.Results.{is_settled}
use Rattle.runs.specs.Progress.{OneActs}
use Rattle.runs.proofs.Counts.{bit, ones, is_open, lying, ones_set_false}
use Rattle.runs.proofs.Facts.{same_refl, some_none, skip, fine}
use Rattle.runs.proofs.Sound.{Sound, phase_at, turn_of, played_by}

find_one : (bs : List Bool) → 0 < ones bs → (k : ℕ) × (get_or bs k false ≡ true)
find_one [] h = absurd (omega arith)
find_one (true ∷ bs) h = (0, refl)
find_one (false ∷ bs) h = let l : 0 < ones bs = omega arith in let r = find_one bs l in (suc r.0, r.1)

pub within : (bs : List Bool) (k : ℕ) → get_or bs k false ≡ true → k < length bs
within [] k e = absurd (both_ways false refl e)
within (b ∷ bs) zero e = omega arith
within (b ∷ bs) (suc k) e = omega (arith, within bs k e)

-- two different cards
find_two : (bs : List Bool) → 1 < ones bs → (a b : ℕ) × (get_or bs a false ≡ true) × (get_or bs b false ≡ true) × (a ≡ b → ⊥)
find_two bs h =
    let l : 0 < ones bs = omega arith in
    let r = find_one bs l in
    let x : bit (get_or bs r.0 false) ≡ 1 = ap bit r.1 in
    let l' : 0 < ones (set bs r.0 false) = omega (arith, ones_set_false bs r.0, x) in
    let u = find_one (set bs r.0 false) l' in
    let same_place : u.0 ≡ r.0 → ⊥ =
    λ e. both_ways _ (get_or-set_same bs r.0 false false (within bs r.0 r.1)) (subst (λ (k : ℕ). get_or (set bs r.0 false) k false ≡ true) e u.1) in
    (u.0, r.0, sym (get_or-set_other bs r.0 u.0 false false same_place) ∙ u.1, r.1, same_place)

-- the seat to act is refused for nothing but the call itself
accepts : (m : Meaning) (t : Deal) (call : Call) → is_settled t ≡ false → in_row t.common.moment call ≡ true
    → topmost (own_refusals m t.common (holding t.common.turn t.piles) call) ≡ None
    → refusal_by m t (Some t.common.turn) call ≡ None
unfolding refusal_of
accepts m t call e r h =
    skip _ _ _ e (skip _ _ _ (not_from_true _ (same_refl t.common.turn)) (skip _ _ _ (not_from_true _ r) h))

-- a card that may be laid
abbrev Found : Meaning → ℕ → ℕ → List Bool → Type 0
Found m x n bs = (i : ℕ) × (get_or bs i false ≡ true) × (eqb (m.class (card_at (n + i))) x ≡ true)

found_later : (m : Meaning) (x n : ℕ) (b : Bool) (bs : List Bool) → Found m x (suc n) bs → Found m x n (b ∷ bs)
found_later m x n b bs r =
    let e : n + suc r.0 ≡ suc n + r.0 = omega arith in
    (suc r.0, r.1, ap (λ k. eqb (m.class (card_at k)) x) e ∙ r.2)

any_card : (m : Meaning) (x n : ℕ) (bs : List Bool) → any_of_class m x (marked_from n bs) ≡ true → Found m x n bs
any_card m x n [] e = absurd (both_ways false refl e)
any_card m x n (true ∷ bs) e = go (any_card m x (suc n) bs) (or_cases _ _ e)
  where
    go : (any_of_class m x (marked_from (suc n) bs) ≡ true → Found m x (suc n) bs)
        → ((eqb (m.class (card_at n)) x ≡ true) ⊎ (any_of_class m x (marked_from (suc n) bs) ≡ true)) → Found m x n (true ∷ bs)
    go rec (inl h) = (0, refl, ap (λ k. eqb (m.class (card_at k)) x) (add-zero n) ∙ h)
    go rec (inr h) = found_later m x n true bs (rec h)
any_card m x n (false ∷ bs) e = found_later m x n false bs (any_card m x (suc n) bs e)

serving : (m : Meaning) (mine : List Bool) (a : Card) (b : Bool) → any_of_class m (m.class a) (marked mine) ≡ b → 0 < ones mine
    → (k : ℕ) × (get_or mine k false ≡ true) × (serves m mine a k ≡ true)
serving m mine a true e h =
    let r = any_card m (m.class a) 0 mine e in
    let z : 0 + r.0 ≡ r.0 = omega arith in
    (r.0, r.1, or_left _ _ (ap (λ k. eqb (m.class (card_at k)) (m.class a)) (sym z) ∙ r.2))
serving m mine a false e h = let r = find_one mine h in (r.0, r.1, or_right _ _ (ap not e))

playable : (m : Meaning) (mine : List Bool) (q : Trick) → 0 < ones mine → (k : ℕ) × (get_or mine k false ≡ true) × (follows m mine q k ≡ true)
playable m mine Empty h = let r = find_one mine h in (r.0, r.1, refl)
playable m mine (One a) h = serving m mine a _ refl h
playable m mine (Two a b) h = serving m mine a _ refl h
playable m mine (Full a b c) h = let r = find_one mine h in (r.0, r.1, refl)

-- the seat to act has not laid in the open trick
not_yet : (q : Trick) (l : Seat) → played_by q l (turn_of q l) ≡ 0
not_yet Empty l = refl
not_yet (One a) Forehand = refl
not_yet (One a) Middlehand = refl
not_yet (One a) Rearhand = refl
not_yet (Two a b) Forehand = refl
not_yet (Two a b) Middlehand = refl
not_yet (Two a b) Rearhand = refl
not_yet (Full a b c) l = refl

small : (t : Deal) (s : Seat) (k : ℕ) → Sound t → get_or (holding s t.piles) k false ≡ true → k < 32
small t s k h e = omega (arith, within (holding s t.piles) k e, length-map t.piles (is_held s), h.wide)

abbrev CanAct : Meaning → Deal → Type 0
CanAct m t = (call : Call) × (refusal_by m t (Some t.common.turn) call ≡ None)

can_put : (m : Meaning) (t : Deal) → Sound t → is_settled t ≡ false → t.common.moment ≡ Putting → CanAct m t
can_put m t h e w =
    let p = phase_at t Putting w h in
    let y : bit (is_seat t.common.turn t.common.turn) ≡ 1 = ap bit (same_refl t.common.turn) in
    let l : 1 < ones (holding t.common.turn t.piles) = omega (arith, p.hands t.common.turn, y) in
    let r = find_two _ l in
    let ha = small t _ r.0 h r.2 in
    let hb = small t _ r.1 h r.3 in (
      Put r.0 r.1,
      accepts m t (Put r.0 r.1) e (ap (λ x. in_row x (Put r.0 r.1)) w)
          (skip _ _ _ (or_from _ _ (le-ltb 31 r.0 (omega arith)) (le-ltb 31 r.1 (omega arith)))
          (skip _ _ _ (ne_eqb _ _ r.4) (skip _ _ _ (not_from_true _ (and_from _ _ r.2 r.3)) refl))),
    )

can_play : (m : Meaning) (t : Deal) → Sound t → is_settled t ≡ false → t.common.moment ≡ Playing → CanAct m t
can_play m t h e w =
    let p = phase_at t Playing w h in
    let z : played_by t.common.board.trick t.common.board.leader t.common.turn ≡ 0 =
    ap (played_by t.common.board.trick t.common.board.leader) p.order ∙ not_yet t.common.board.trick t.common.board.leader in
    let l : 0 < ones (holding t.common.turn t.piles) = omega (arith, p.room t.common.turn, p.few, z) in
    let r = playable m _ t.common.board.trick l in
    let hk = small t _ r.0 h r.1 in (
      Play r.0,
      accepts m t (Play r.0) e (ap (λ x. in_row x (Play r.0)) w)
          (skip _ _ _ (le-ltb 31 r.0 (omega arith)) (skip _ _ _ (not_from_true _ r.1) (skip _ _ _ (not_from_true _ r.2) refl))),
    )

can_act : (m : Meaning) (t : Deal) → Sound t → is_settled t ≡ false → (w : Moment) → t.common.moment ≡ w → CanAct m t
can_act m t h e Bidding w = (Pass, accepts m t Pass e (ap (λ x. in_row x Pass) w) refl)
can_act m t h e Hearing w = (Pass, accepts m t Pass e (ap (λ x. in_row x Pass) w) refl)
can_act m t h e Alone w = (Pass, accepts m t Pass e (ap (λ x. in_row x Pass) w) refl)
can_act m t h e Deciding w = (Take, accepts m t Take e (ap (λ x. in_row x Take) w) refl)
can_act m t h e Putting w = can_put m t h e w
can_act m t h e Announcing w = (Announce 0 0, accepts m t (Announce 0 0) e (ap (λ x. in_row x (Announce 0 0)) w) refl)
can_act m t h e Playing w = can_play m t h e w
can_act m t h e Settled w = absurd (both_ways _ e (ap (λ x. is_at 7 x) w))

-- and no other seat, nor a number that is no seat's
turn_alone : (m : Meaning) (t : Deal) (o : Option Seat) (call : Call) → refusal_by m t o call ≡ None → o ≡ Some t.common.turn
turn_alone m t None call e = absurd (some_none _ e)
turn_alone m t (Some s) call e = ap Some (fine m t.common (holding s t.piles) s call e).turn

pub one_acts : (m : Meaning) (t : Deal) → Sound t → is_settled t ≡ false → OneActs m t
one_acts m t h e =
    let can = can_act m t h e t.common.moment refl in
    record { seat = t.common.turn; call = can.0; can = can.1; alone = λ n other. turn_alone m t (seat_at n) other }

-- eyes
none_held : (s : Seat) (ps : List Pile) (k : ℕ) → ones (holding s ps) ≡ 0 → is_held s (get_or ps k InSkat) ≡ false
none_held s [] k h = refl
none_held s (p ∷ ps) zero h = go (is_held s p) refl
  where
    go : (b : Bool) → is_held s p ≡ b → is_held s p ≡ false
    go true e = let y : bit (is_held s p) ≡ 1 = ap bit e in absurd (omega arith)
    go false e = e
none_held s (p ∷ ps) (suc k) h = let z : ones (holding s ps) ≡ 0 = omega arith in none_held s ps k z

pub none_open : (ps : List Pile) (k : ℕ) → ones (lying ps) ≡ 0 → is_open (get_or ps k InSkat) ≡ false
none_open [] k h = refl
none_open (InHand t ∷ ps) zero h = refl
none_open (InSkat ∷ ps) zero h = refl
none_open (InTrick ∷ ps) zero h = absurd (omega arith)
none_open (WithDeclarer ∷ ps) zero h = refl
none_open (WithDefenders ∷ ps) zero h = refl
none_open (p ∷ ps) (suc k) h = let z : ones (lying ps) ≡ 0 = omega arith in none_open ps k z

one_side : (p : Pile) (n : ℕ) → ((s : Seat) → is_held s p ≡ false) → is_open p ≡ false → cond (is_declarers p) n 0 + cond (is_defenders p) n 0 ≡ n
one_side (InHand s) n h o = absurd (both_ways _ (h s) (same_refl s))
one_side InSkat n h o = omega arith
one_side InTrick n h o = absurd (both_ways true o refl)
one_side WithDeclarer n h o = omega arith
one_side WithDefenders n h o = omega arith

sums : (f g e : Card → ℕ) → ((c : Card) → f c + g c ≡ e c) → (cs : List Card) → sum_by f cs + sum_by g cs ≡ sum_by e cs
sums f g e h [] = refl
sums f g e h (c ∷ cs) = omega (arith, sum_by-cons f c cs, sum_by-cons g c cs, sum_by-cons e c cs, h c, sums f g e h cs)

all_eyes : sum_by eyes_of deck ≡ 120
unfolding deck
all_eyes = refl

eyes_all : (ps : List Pile) → ((s : Seat) → ones (holding s ps) ≡ 0) → ones (lying ps) ≡ 0
    → eyes_where is_declarers (pile_in ps) + eyes_where is_defenders (pile_in ps) ≡ 120
eyes_all ps h o =
    sums _ _ eyes_of
    (λ c. one_side (pile_in ps c) (eyes_of c) (λ s. none_held s ps (card_number c) (h s)) (none_open ps (card_number c) o)) deck
    ∙ all_eyes

eyes_at : (t : Deal) → Sound t → t.common.board.taken.declarer + t.common.board.taken.defenders ≡ 10 → (w : Moment) → t.common.moment ≡ w
    → eyes_where is_declarers (pile_in t.piles) + eyes_where is_defenders (pile_in t.piles) ≡ 120
eyes_at t h e Bidding w = absurd (omega (arith, h.still (ap (λ x. leb (moment_number x) 5) w)))
eyes_at t h e Hearing w = absurd (omega (arith, h.still (ap (λ x. leb (moment_number x) 5) w)))
eyes_at t h e Alone w = absurd (omega (arith, h.still (ap (λ x. leb (moment_number x) 5) w)))
eyes_at t h e Deciding w = absurd (omega (arith, h.still (ap (λ x. leb (moment_number x) 5) w)))
eyes_at t h e Putting w = absurd (omega (arith, h.still (ap (λ x. leb (moment_number x) 5) w)))
eyes_at t h e Announcing w = absurd (omega (arith, h.still (ap (λ x. leb (moment_number x) 5) w)))
eyes_at t h e Playing w = let p = phase_at t Playing w h in absurd (omega (arith, p.few))
eyes_at t h e Settled w = let p = phase_at t Settled w h in eyes_all t.piles (p.empty e) (p.gone e)

pub eyes_make : (t : Deal) → Sound t → t.common.board.taken.declarer + t.common.board.taken.defenders ≡ 10
    → eyes_where is_declarers (pile_in t.piles) + eyes_where is_defenders (pile_in t.piles) ≡ 120
eyes_make t h e = eyes_at t h e t.common.moment refl
