-- What stays true of a deal over every accepted call: how many cards each hand has, and whose turn it is.
use Rattle.std.proofs.Common.{◌≡◌, ℕ, zero, suc, ◌+◌, ◌<◌, Bool, true, false, cond, not, ◌||◌, eqb, ltb, leb, List, [], ◌∷◌, map, length, get_or, set, sym, refl, ap, ◌∙◌, subst, arith}
use Rattle.std.proofs.lemmas.List.{map-set, length-set, length-map, get_or-set_other}
use Rattle.std.proofs.lemmas.Bool.{eqb-false, ltb-false, both_ways, not-false, or_parts}
use Rattle.cards.specs.declared.deck.Card.{Card}
use Rattle.cards.specs.declared.seats.Seat.{Seat}
use Rattle.cards.specs.declared.seats.Seat.TheVariants.{Forehand, Middlehand, Rearhand}
use Rattle.cards.specs.Deck.{card_at}
use Rattle.cards.specs.Seats.{following}
use Rattle.kinds.specs.Meanings.{Meaning}
use Rattle.rules.specs.declared.calls.Call.{Call}
use Rattle.rules.specs.declared.calls.Call.TheVariants.{Bid, Hold, Pass, Take, Put, Announce, Play}
use Rattle.rules.specs.declared.deals.Board.{Board}
use Rattle.rules.specs.declared.deals.Common.{Common}
use Rattle.rules.specs.declared.deals.Deal.{Deal}
use Rattle.rules.specs.declared.deals.Pair.{Pair}
use Rattle.rules.specs.declared.deals.Pair.TheVariants.{MiddlehandToForehand, RearhandToForehand, RearhandToMiddlehand}
use Rattle.rules.specs.declared.deals.Pile.{Pile}
use Rattle.rules.specs.declared.deals.Pile.TheVariants.{InHand, InSkat, InTrick, WithDeclarer, WithDefenders}
use Rattle.rules.specs.declared.deals.Trick.{Trick}
use Rattle.rules.specs.declared.deals.Trick.TheVariants.{Empty, One, Two, Full}
use Rattle.rules.specs.declared.moments.Moment.{Moment}
use Rattle.rules.specs.declared.moments.Moment.TheVariants.{Bidding, Hearing, Alone, Deciding, Putting, Announcing, Playing, Settled}
use Rattle.rules.specs.Bidding.{fresh_board, bids_next, declares, leaves_forehand, passed_in, bidder_passes, hearer_passes}
use Rattle.rules.specs.Board.{is_declarer, taker_of}
use Rattle.rules.specs.Dealing.{IsCutPack, start}
use Rattle.rules.specs.Moments.{moment_number, is_at}
use Rattle.rules.specs.Piles.{is_seat, is_held, holding}
use Rattle.rules.specs.Refusing.{is_accepted}
use Rattle.rules.specs.Steps.{next, moved, step, lifted, gathered, laid, plays, settles, fills}
use Rattle.runs.specs.declared.requests.Request.{Request}
use Rattle.runs.specs.Runs.{ended}
use Rattle.runs.proofs.Counts.{bit, ones, is_open, lying, Even, ones_set_false, ones_set_true, ones_lifted, none_gathered, start_even, start_wide}
use Rattle.runs.proofs.Facts.{same_sym, same_is, peel, accepted_fine, is_moment, hold_row, map_map}
use Rattle.runs.proofs.Induct.{by_calls}
use Rattle.runs.proofs.Views.{held_gathered, held_lifted, put_fine}

-- the play
abbrev pub turn_of : Trick → Seat → Seat
turn_of Empty l = l
turn_of (One a) l = following l
turn_of (Two a b) l = following (following l)
turn_of (Full a b c) l = l

abbrev pub played_by : Trick → Seat → Seat → ℕ
played_by Empty l s = 0
played_by (One a) l s = bit (is_seat l s)
played_by (Two a b) l s = bit (is_seat l s) + bit (is_seat (following l) s)
played_by (Full a b c) l s = 0

abbrev pub on_table : Trick → ℕ
on_table Empty = 0
on_table (One a) = 1
on_table (Two a b) = 2
on_table (Full a b c) = 0

pub record InPlay (t : Seat) (q : Trick) (l : Seat) (n : ℕ) (ps : List Pile) : Type 0 where
  pub order : t ≡ turn_of q l
  pub room : (s : Seat) → ones (holding s ps) + (n + played_by q l s) ≡ 10
  pub few : n < 10
  pub down : ones (lying ps) ≡ on_table q

pub record Done (n : ℕ) (ps : List Pile) : Type 0 where
  pub empty : n ≡ 10 → (s : Seat) → ones (holding s ps) ≡ 0
  pub gone : n ≡ 10 → ones (lying ps) ≡ 0

pub record Lifted (t : Seat) (ps : List Pile) : Type 0 where
  pub hands : (s : Seat) → ones (holding s ps) ≡ 10 + (bit (is_seat t s) + bit (is_seat t s))
  pub none : ones (lying ps) ≡ 0

pub record Ten (ps : List Pile) : Type 0 where
  pub hands : (s : Seat) → ones (holding s ps) ≡ 10
  pub none : ones (lying ps) ≡ 0

abbrev pub Phase : Moment → Common → List Pile → Type 0
Phase Bidding c ps = Even ps
Phase Hearing c ps = Even ps
Phase Alone c ps = Even ps
Phase Deciding c ps = Even ps
Phase Putting c ps = Lifted c.turn ps
Phase Announcing c ps = Ten ps
Phase Playing c ps = InPlay c.turn c.board.trick c.board.leader (c.board.taken.declarer + c.board.taken.defenders) ps
Phase Settled c ps = Done (c.board.taken.declarer + c.board.taken.defenders) ps

pub record Sound (t : Deal) : Type 0 where
  pub wide : length t.piles ≡ 32
  pub phase : Phase t.common.moment t.common t.piles
  pub still : leb (moment_number t.common.moment) 5 ≡ true → t.common.board.taken.declarer + t.common.board.taken.defenders ≡ 0

-- a table in a moment that is known
pub phase_at : (t : Deal) (w : Moment) → t.common.moment ≡ w → Sound t → Phase w t.common t.piles
phase_at t w e h = subst (λ x. Phase x t.common t.piles) e h.phase

pub early : (w : Moment) (c : Common) (ps : List Pile) → leb (moment_number w) 2 ≡ true → Phase w c ps → Even ps
early Bidding c ps e h = h
early Hearing c ps e h = h
early Alone c ps e h = h
early Deciding c ps e h = absurd (both_ways false refl e)
early Putting c ps e h = absurd (both_ways false refl e)
early Announcing c ps e h = absurd (both_ways false refl e)
early Playing c ps e h = absurd (both_ways false refl e)
early Settled c ps e h = absurd (both_ways false refl e)

-- calls of the auction leave the cards
phase_cond : (ps : List Pile) (b : Bool) (x y : Common) → Phase x.moment x ps → Phase y.moment y ps → Phase (cond b x y).moment (cond b x y) ps
phase_cond ps true x y h k = h
phase_cond ps false x y h k = k

bidder_phase : (c : Common) (ps : List Pile) (p : Pair) → Even ps → Phase (bidder_passes c p).moment (bidder_passes c p) ps
bidder_phase c ps MiddlehandToForehand h = h
bidder_phase c ps RearhandToForehand h = phase_cond ps (eqb c.bid 0) (leaves_forehand c) (declares c Forehand c.bid) h h
bidder_phase c ps RearhandToMiddlehand h = h

hearer_phase : (c : Common) (ps : List Pile) (p : Pair) → Even ps → Phase (hearer_passes c p).moment (hearer_passes c p) ps
hearer_phase c ps MiddlehandToForehand h = h
hearer_phase c ps RearhandToForehand h = h
hearer_phase c ps RearhandToMiddlehand h = h

hold_phase : (m : Meaning) (c : Common) (s : Seat) (ps : List Pile) → Even ps → Phase (next m c s Hold).moment (next m c s Hold) ps
unfolding next
hold_phase m c s ps h = phase_cond ps (is_at 2 c.moment) (declares c Forehand 18) (bids_next c c.pair) h h

pass_phase : (m : Meaning) (c : Common) (s : Seat) (ps : List Pile) → Even ps → Phase (next m c s Pass).moment (next m c s Pass) ps
unfolding next
pass_phase m c s ps h =
    phase_cond ps (is_at 2 c.moment) (passed_in c)
    (cond (is_at 0 c.moment) (bidder_passes c c.pair) (hearer_passes c c.pair))
    (record { empty = λ (e : 0 ≡ 10). absurd (omega arith); gone = λ (e : 0 ≡ 10). absurd (omega arith) })
    (phase_cond ps (is_at 0 c.moment) (bidder_passes c c.pair) (hearer_passes c c.pair)
    (bidder_phase c ps c.pair h) (hearer_phase c ps c.pair h))

-- a card that is held lies in no other hand
whose_pile : (s v : Seat) (p : Pile) → is_held s p ≡ true → is_held v p ≡ is_seat s v
whose_pile s v (InHand t) h = ap (is_seat v) (sym (same_is s t h)) ∙ same_sym v s
whose_pile s v InSkat h = absurd (both_ways false refl h)
whose_pile s v InTrick h = absurd (both_ways false refl h)
whose_pile s v WithDeclarer h = absurd (both_ways false refl h)
whose_pile s v WithDefenders h = absurd (both_ways false refl h)

pub whose : (s v : Seat) (ps : List Pile) (k : ℕ) → get_or (holding s ps) k false ≡ true → get_or (holding v ps) k false ≡ is_seat s v
whose s v [] k h = absurd (both_ways false refl h)
whose s v (p ∷ ps) zero h = whose_pile s v p h
whose s v (p ∷ ps) (suc k) h = whose s v ps k h

leaves : (s v : Seat) (ps : List Pile) (k : ℕ) (p : Pile) → is_held v p ≡ false → get_or (holding s ps) k false ≡ true
    → ones (holding v (set ps k p)) + bit (is_seat s v) ≡ ones (holding v ps)
leaves s v ps k p z h =
    ap (λ bs. ones bs + bit (is_seat s v)) (map-set (is_held v) ps k p)
    ∙ ap (λ b. ones (set (holding v ps) k b) + bit (is_seat s v)) z
    ∙ ap (λ b. ones (set (holding v ps) k false) + bit b) (sym (whose s v ps k h))
    ∙ ones_set_false (holding v ps) k

-- take
opened_lifted : (s : Seat) (p : Pile) → is_open (lifted s p) ≡ is_open p
opened_lifted s (InHand t) = refl
opened_lifted s InSkat = refl
opened_lifted s InTrick = refl
opened_lifted s WithDeclarer = refl
opened_lifted s WithDefenders = refl

take_hand : (s v : Seat) (ps : List Pile) (b : Bool) → is_seat s v ≡ b → Even ps
    → ones (holding v (map (lifted s) ps)) ≡ 10 + (bit b + bit b)
take_hand s v ps true e h =
    subst (λ (x : Seat). ones (holding x (map (lifted s) ps)) ≡ 12) (same_is s v e) (omega (arith, ones_lifted s ps, h.hands s, h.skat))
take_hand s v ps false e h = ap ones (map_map (is_held v) (is_held v) (lifted s) (held_lifted v s e) ps) ∙ h.hands v

take_phase : (s : Seat) (ps : List Pile) → Even ps → Lifted s (map (lifted s) ps)
take_phase s ps h =
    record {
      hands = λ v. take_hand s v ps (is_seat s v) refl h;
      none = ap ones (map_map is_open is_open (lifted s) (opened_lifted s) ps) ∙ h.none;
    }

-- put
put_phase : (s : Seat) (ps : List Pile) (a b : ℕ) → (b ≡ a → ⊥) → get_or (holding s ps) a false ≡ true → get_or (holding s ps) b false ≡ true
    → Lifted s ps → Ten (set (set ps a InSkat) b InSkat)
put_phase s ps a b d ha hb h =
    let hb' : get_or (holding s (set ps a InSkat)) b false ≡ true =
    ap (λ bs. get_or bs b false) (map-set (is_held s) ps a InSkat) ∙ get_or-set_other (holding s ps) a b false false d ∙ hb in
    record {
      hands = λ v. omega (arith, leaves s v ps a InSkat refl ha, leaves s v (set ps a InSkat) b InSkat refl hb', h.hands v);
      none =
          ap ones (map-set is_open (set ps a InSkat) b InSkat ∙ ap (λ x. set x b false) (map-set is_open ps a InSkat))
          ∙ omega (arith, ones_set_false (set (lying ps) a false) b, ones_set_false (lying ps) a, h.none);
    }

-- play
lies_apart : (s : Seat) (ps : List Pile) (k : ℕ) → get_or (holding s ps) k false ≡ true → get_or (lying ps) k true ≡ false
lies_apart s [] k h = absurd (both_ways false refl h)
lies_apart s (InHand t ∷ ps) zero h = refl
lies_apart s (InSkat ∷ ps) zero h = refl
lies_apart s (InTrick ∷ ps) zero h = absurd (both_ways false refl h)
lies_apart s (WithDeclarer ∷ ps) zero h = refl
lies_apart s (WithDefenders ∷ ps) zero h = refl
lies_apart s (p ∷ ps) (suc k) h = lies_apart s ps k h

lies : (s : Seat) (ps : List Pile) (k : ℕ) → get_or (holding s ps) k false ≡ true → ones (lying (set ps k InTrick)) ≡ ones (lying ps) + 1
lies s ps k h =
    let e : bit (get_or (lying ps) k true) ≡ 0 = ap bit (lies_apart s ps k h) in
    ap ones (map-set is_open ps k InTrick) ∙ omega (arith, ones_set_true (lying ps) k, e)

three : (l s : Seat) → bit (is_seat l s) + bit (is_seat (following l) s) + bit (is_seat (following (following l)) s) ≡ 1
three Forehand Forehand = refl
three Forehand Middlehand = refl
three Forehand Rearhand = refl
three Middlehand Forehand = refl
three Middlehand Middlehand = refl
three Middlehand Rearhand = refl
three Rearhand Forehand = refl
three Rearhand Middlehand = refl
three Rearhand Rearhand = refl

lead_phase : (s l : Seat) (k n : ℕ) (x : Card) (ps : List Pile) (q : Trick) → ((v : Seat) → played_by q l v ≡ 0) → on_table q ≡ 0
    → get_or (holding s ps) k false ≡ true → InPlay s q l n ps → InPlay (following s) (One x) s n (set ps k InTrick)
lead_phase s l k n x ps q z y h i =
    record {
      order = refl;
      room = λ v. omega (arith, leaves s v ps k InTrick refl h, i.room v, z v);
      few = i.few;
      down = omega (arith, lies s ps k h, i.down);
    }

second_phase : (s l : Seat) (a x : Card) (k n : ℕ) (ps : List Pile)
    → get_or (holding s ps) k false ≡ true → InPlay s (One a) l n ps → InPlay (following s) (Two a x) l n (set ps k InTrick)
second_phase s l a x k n ps h i =
    record {
      order = ap following i.order;
      room = λ v. omega (arith, leaves s v ps k InTrick refl h, i.room v, ap (λ (x : Seat). bit (is_seat x v)) i.order);
      few = i.few;
      down = omega (arith, lies s ps k h, i.down);
    }

module _ (s l : Seat) (a b x : Card) (k n : ℕ) (ps : List Pile) (o : Bool) (h : get_or (holding s ps) k false ≡ true) (i : InPlay s (Two a b) l n ps) where
  third_room : (v : Seat) → ones (holding v (map (gathered o) (set ps k InTrick))) + suc n ≡ 10
  third_room v =
      ap (λ bs. ones bs + suc n) (map_map (is_held v) (is_held v) (gathered o) (held_gathered v o) (set ps k InTrick))
      ∙ omega (arith, leaves s v ps k InTrick refl h, i.room v, ap (λ (x : Seat). bit (is_seat x v)) i.order, three l v)

  third_done : Done (suc n) (map (gathered o) (set ps k InTrick))
  third_done =
      record { empty = λ e v. omega (arith, third_room v); gone = λ e. none_gathered o (set ps k InTrick) }

  third_play : (t : Seat) → (suc n ≡ 10 → ⊥) → InPlay t (Full a b x) t (suc n) (map (gathered o) (set ps k InTrick))
  third_play t d =
      record {
        order = refl;
        room = λ v. omega (arith, third_room v);
        few = omega (arith, i.few);
        down = none_gathered o (set ps k InTrick);
      }

pub counts : (o : Bool) (x y : ℕ) → suc (x + y) ≡ cond o (suc x) x + cond o y (suc y)
counts true x y = omega arith
counts false x y = omega arith

filled_phase : (m : Meaning) (c : Common) (t : Seat) (a b k : Card) (ps : List Pile) (r : Bool)
    → settles m (is_declarer c.contract t) (suc (c.board.taken.declarer + c.board.taken.defenders)) ≡ r
    → Done (suc (c.board.taken.declarer + c.board.taken.defenders)) ps
    → ((suc (c.board.taken.declarer + c.board.taken.defenders) ≡ 10 → ⊥) → InPlay t (Full a b k) t (suc (c.board.taken.declarer + c.board.taken.defenders)) ps)
    → Phase (cond r Settled Playing) (fills m c t a b k) ps
filled_phase m c t a b k ps true e d i =
    subst (λ (n : ℕ). Done n ps) (counts (is_declarer c.contract t) c.board.taken.declarer c.board.taken.defenders) d
filled_phase m c t a b k ps false e d i =
    subst (λ (n : ℕ). InPlay t (Full a b k) t n ps) (counts (is_declarer c.contract t) c.board.taken.declarer c.board.taken.defenders)
    (i (eqb-false _ _ (or_parts _ _ e).0))

play_phase : (m : Meaning) (c : Common) (s : Seat) (k : ℕ) (ps : List Pile) (q : Trick) → get_or (holding s ps) k false ≡ true
    → InPlay s q c.board.leader (c.board.taken.declarer + c.board.taken.defenders) ps
    → Phase (plays m c s (card_at k) q).moment (plays m c s (card_at k) q) (laid m c k q ps)
play_phase m c s k ps Empty h i = lead_phase s _ k _ (card_at k) ps Empty (λ v. refl) refl h i
play_phase m c s k ps (One a) h i = second_phase s _ a (card_at k) k _ ps h i
play_phase m c s k ps (Two a b) h i =
    let t = taker_of m c.board.leader a b (card_at k) in
    let o = is_declarer c.contract t in
    let n = c.board.taken.declarer + c.board.taken.defenders in
    filled_phase m c t a b (card_at k) (map (gathered o) (set ps k InTrick)) (settles m o (suc n)) refl
    (third_done s c.board.leader a b (card_at k) k n ps o h i)
    (third_play s c.board.leader a b (card_at k) k n ps o h i t)
play_phase m c s k ps (Full a b d) h i = lead_phase s _ k _ (card_at k) ps (Full a b d) (λ v. refl) refl h i

-- every accepted call
pub ten_from : (w : Moment) (c : Common) (ps : List Pile) → (is_at 3 w || is_at 5 w) ≡ true → Phase w c ps → Ten ps
ten_from Bidding c ps e h = absurd (both_ways false refl e)
ten_from Hearing c ps e h = absurd (both_ways false refl e)
ten_from Alone c ps e h = absurd (both_ways false refl e)
ten_from Deciding c ps e h = record { hands = h.hands; none = h.none }
ten_from Putting c ps e h = absurd (both_ways false refl e)
ten_from Announcing c ps e h = h
ten_from Playing c ps e h = absurd (both_ways false refl e)
ten_from Settled c ps e h = absurd (both_ways false refl e)

-- an accepted play
pub record PlayFine (c : Common) (hand : List Bool) (s : Seat) (k : ℕ) : Type 0 where
  pub playing : c.moment ≡ Playing
  pub turn : s ≡ c.turn
  pub small : k < 32
  pub has : get_or hand k false ≡ true

pub play_fine : (m : Meaning) (t : Deal) (s : Seat) (k : ℕ) → is_accepted m t s (Play k) ≡ true → PlayFine t.common (holding s t.piles) s k
play_fine m t s k e =
    let f = accepted_fine m t s (Play k) e in
    let p7 = peel (ltb 31 k) _ _ f.rest in
    let p9 = peel (not (get_or (holding s t.piles) k false)) _ _ p7.1 in
    let l = ltb-false 31 k p7.0 in
    record { playing = is_moment _ 6 f.row; turn = f.turn; small = omega arith; has = not-false _ p9.0 }

step_phase : (m : Meaning) (t : Deal) (s : Seat) (call : Call) → Sound t → is_accepted m t s call ≡ true
    → Phase (next m t.common s call).moment (next m t.common s call) (moved m t.common s call t.piles)
unfolding next moved
step_phase m t s (Bid n) h e = phase_at t Bidding (is_moment _ 0 (accepted_fine m t s (Bid n) e).row) h
step_phase m t s Hold h e = hold_phase m t.common s t.piles (early _ _ _ (hold_row _ (accepted_fine m t s Hold e).row) h.phase)
step_phase m t s Pass h e = pass_phase m t.common s t.piles (early _ _ _ (accepted_fine m t s Pass e).row h.phase)
step_phase m t s Take h e = take_phase s t.piles (phase_at t Deciding (is_moment _ 3 (accepted_fine m t s Take e).row) h)
step_phase m t s (Put a b) h e =
    let k = put_fine m t s a b e in
    put_phase s t.piles a b (λ same. eqb-false a b k.apart (sym same)) k.first k.second
    (subst (λ (x : Seat). Lifted x t.piles) (sym k.turn) (phase_at t Putting (is_moment _ 4 k.at4) h))
step_phase m t s (Announce g l) h e =
    let ten = ten_from _ _ _ (accepted_fine m t s (Announce g l) e).row h.phase in
    record { order = refl; room = λ v. omega (arith, ten.hands v); few = omega arith; down = ten.none }
step_phase m t s (Play c) h e =
    let p = play_fine m t s c e in
    play_phase m t.common s c t.piles t.common.board.trick p.has
    (subst (λ (x : Seat). InPlay x t.common.board.trick t.common.board.leader (t.common.board.taken.declarer + t.common.board.taken.defenders) t.piles)
    (sym p.turn) (phase_at t Playing p.playing h))

laid_wide : (m : Meaning) (c : Common) (k : ℕ) (q : Trick) (ps : List Pile) → length (laid m c k q ps) ≡ length ps
laid_wide m c k Empty ps = length-set ps k InTrick
laid_wide m c k (One a) ps = length-set ps k InTrick
laid_wide m c k (Two a b) ps = length-map (set ps k InTrick) _ ∙ length-set ps k InTrick
laid_wide m c k (Full a b d) ps = length-set ps k InTrick

moved_wide : (m : Meaning) (c : Common) (s : Seat) (call : Call) (ps : List Pile) → length (moved m c s call ps) ≡ length ps
unfolding moved
moved_wide m c s (Bid n) ps = refl
moved_wide m c s Hold ps = refl
moved_wide m c s Pass ps = refl
moved_wide m c s Take ps = length-map ps (lifted s)
moved_wide m c s (Put a b) ps = length-set (set ps a InSkat) b InSkat ∙ length-set ps a InSkat
moved_wide m c s (Announce g l) ps = refl
moved_wide m c s (Play k) ps = laid_wide m c k c.board.trick ps

-- no trick before the play
pub fresh_cond : (b : Bool) (x y : Common) → x.board ≡ fresh_board → y.board ≡ fresh_board → (cond b x y).board ≡ fresh_board
fresh_cond true x y h k = h
fresh_cond false x y h k = k

pub bidder_fresh : (c : Common) (p : Pair) → (bidder_passes c p).board ≡ fresh_board
bidder_fresh c MiddlehandToForehand = refl
bidder_fresh c RearhandToForehand = fresh_cond (eqb c.bid 0) (leaves_forehand c) (declares c Forehand c.bid) refl refl
bidder_fresh c RearhandToMiddlehand = refl

pub hearer_fresh : (c : Common) (p : Pair) → (hearer_passes c p).board ≡ fresh_board
hearer_fresh c MiddlehandToForehand = refl
hearer_fresh c RearhandToForehand = refl
hearer_fresh c RearhandToMiddlehand = refl

pub no_tricks : (b : Board) → b ≡ fresh_board → b.taken.declarer + b.taken.defenders ≡ 0
no_tricks b e = ap (λ x. x.taken.declarer + x.taken.defenders) e

filled_late : (r : Bool) → leb (moment_number (cond r Settled Playing)) 5 ≡ false
filled_late true = refl
filled_late false = refl

pub plays_late : (m : Meaning) (c : Common) (s : Seat) (k : Card) (q : Trick) → leb (moment_number (plays m c s k q).moment) 5 ≡ false
plays_late m c s k Empty = refl
plays_late m c s k (One a) = refl
plays_late m c s k (Two a b) = filled_late (settles m (is_declarer c.contract (taker_of m c.board.leader a b k)) (suc (c.board.taken.declarer + c.board.taken.defenders)))
plays_late m c s k (Full a b d) = refl

step_still : (m : Meaning) (c : Common) (s : Seat) (call : Call) → leb (moment_number (next m c s call).moment) 5 ≡ true
    → (next m c s call).board.taken.declarer + (next m c s call).board.taken.defenders ≡ 0
unfolding next
step_still m c s (Bid n) e = refl
step_still m c s Hold e = no_tricks _ (fresh_cond (is_at 2 c.moment) (declares c Forehand 18) (bids_next c c.pair) refl refl)
step_still m c s Pass e =
    no_tricks _ (fresh_cond (is_at 2 c.moment) (passed_in c) (cond (is_at 0 c.moment) (bidder_passes c c.pair) (hearer_passes c c.pair)) refl
    (fresh_cond (is_at 0 c.moment) (bidder_passes c c.pair) (hearer_passes c c.pair) (bidder_fresh c c.pair) (hearer_fresh c c.pair)))
step_still m c s Take e = refl
step_still m c s (Put a b) e = refl
step_still m c s (Announce g l) e = refl
step_still m c s (Play k) e = absurd (both_ways _ (plays_late m c s (card_at k) c.board.trick) e)

pub step_sound : (m : Meaning) (t : Deal) (s : Seat) (call : Call) → is_accepted m t s call ≡ true → Sound t → Sound (step m t s call)
step_sound m t s call e h =
    record {
      wide = moved_wide m t.common s call t.piles ∙ h.wide;
      still = step_still m t.common s call;
      phase = step_phase m t s call h e;
    }

pub start_sound : (pack : List Card) → IsCutPack pack → Sound (start pack)
unfolding start
start_sound pack w = record { wide = start_wide pack; phase = start_even pack w; still = λ e. refl }

pub ended_sound : (m : Meaning) (pack : List Card) (run : List Request) → IsCutPack pack → Sound (ended m (start pack) run)
ended_sound m pack run w = by_calls m (λ calls t. Sound t) (λ calls t s call e h. step_sound m t s call e h) run (start pack) (start_sound pack w)
