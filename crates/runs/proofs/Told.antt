-- The table agrees with what the accepted calls say, call by call.
use Rattle.std.proofs.Common.{◌≡◌, ℕ, zero, suc, ◌≤◌, Bool, true, false, cond, not, ◌||◌, eqb, leb, List, [], ◌∷◌, ◌++◌, length, get_or, set, Some, None, Option, sym, refl, ap, ◌∙◌, subst, inr, ⊎_elim, append-nil, arith}
use Rattle.std.proofs.lemmas.List.{get_or-map, get_or-set_other, length_push}
use Rattle.std.proofs.lemmas.Bool.{leb-true, le-leb, eqb-true, eqb-false, both_ways, not-false, or_cases}
use Rattle.cards.specs.declared.deck.Card.{Card}
use Rattle.cards.specs.declared.seats.Seat.{Seat}
use Rattle.cards.specs.declared.seats.Seat.TheVariants.{Forehand}
use Rattle.cards.specs.Deck.{card_number, card_at}
use Rattle.cards.specs.Dealing.{receiver}
use Rattle.cards.specs.Seats.{following}
use Rattle.cards.proofs.Cardinals.{card_below}
use Rattle.kinds.specs.Meanings.{Meaning}
use Rattle.rules.specs.declared.calls.Call.{Call}
use Rattle.rules.specs.declared.calls.Call.TheVariants.{Bid, Hold, Pass, Take, Put, Announce, Play}
use Rattle.rules.specs.declared.deals.Board.{Board}
use Rattle.rules.specs.declared.deals.Common.{Common}
use Rattle.rules.specs.declared.deals.Deal.{Deal}
use Rattle.rules.specs.declared.deals.Pair.{Pair}
use Rattle.rules.specs.declared.deals.Pair.TheVariants.{MiddlehandToForehand, RearhandToForehand, RearhandToMiddlehand}
use Rattle.rules.specs.declared.deals.Pile.{Pile}
use Rattle.rules.specs.declared.deals.Pile.TheVariants.{InSkat}
use Rattle.rules.specs.declared.deals.Trick.{Trick}
use Rattle.rules.specs.declared.deals.Trick.TheVariants.{Empty, One, Two, Full}
use Rattle.rules.specs.declared.moments.Moment.{Moment}
use Rattle.rules.specs.declared.moments.Moment.TheVariants.{Bidding, Hearing, Alone, Deciding, Putting, Announcing, Playing, Settled}
use Rattle.rules.specs.Bidding.{fresh_board, declares, bids_next, leaves_forehand, passed_in, bidder_passes, hearer_passes}
use Rattle.rules.specs.Board.{declarer_of}
use Rattle.rules.specs.Dealing.{IsCutPack, position_of, dealt_to, start}
use Rattle.rules.specs.Moments.{moment_number, is_at, in_row}
use Rattle.rules.specs.Piles.{pile_in}
use Rattle.rules.specs.Refusing.{is_accepted}
use Rattle.rules.specs.Steps.{next, moved, step, lifted, plays}
use Rattle.worth.specs.BidValues.{is_bid}
use Rattle.runs.specs.declared.requests.Request.{Request}
use Rattle.runs.specs.Runs.{accepted, ended}
use Rattle.runs.specs.Reckoning.{Made, Play', announced_in, declarer_in, is_any, is_take, is_put, play_of, plays_in, tricks_of, open_of, is_by, is_card, is_in, taken_up, unplayed, pile_of, contract_with, contract_for}
use Rattle.runs.proofs.Boards.{prefix, Differ, OnBoard, fresh_board_lem, re, is_ended, board_step, settles_is}
use Rattle.runs.proofs.Counts.{start_pile}
use Rattle.runs.proofs.Facts.{accepted_fine, is_moment, hold_row, peel}
use Rattle.runs.proofs.Grouping.{lead, follow, fill, length_groups, both_sides}
use Rattle.runs.proofs.Induct.{by_calls}
use Rattle.runs.proofs.Lying.{reckon, Ready, Distinct, distinct_step, lies_step, differs, dealt_closed, taken_closed, untaken_up, taken_up_lem, cond_closed}
use Rattle.runs.proofs.Sound.{Sound, phase_at, turn_of, play_fine, step_sound, start_sound, plays_late, fresh_cond, bidder_fresh, hearer_fresh}
use Rattle.runs.proofs.Stages.{StageAt, Known, Declared, declared, is_play, known_step}
use Rattle.runs.proofs.Tallies.{Tally, tally, declarer_of_tally, tally_more, plays_more, put_more, or_false}
use Rattle.runs.proofs.Views.{plays_contract}

pub record Told (m : Meaning) (pack : List Card) (calls : List Made) (t : Deal) : Type 0 where
  pub sound : Sound t
  pub known : Known m t.common (tally calls) (plays_in calls)
  pub valued : eqb t.common.bid 0 ≡ false → is_bid t.common.bid ≡ true
  pub board : OnBoard m (declarer_in calls) t.common.board (plays_in calls)
  pub distinct : Distinct t.common.board.trick
  pub apart : (y : Card) → is_any (is_card y) (open_of (plays_in calls)) ≡ true → is_any (is_in y) (tricks_of (plays_in calls)) ≡ false
  pub unput : leb (moment_number t.common.moment) 4 ≡ true → (y : Card) → is_any (is_put y) calls ≡ false
  pub piles : (y : Card) → pile_in t.piles y ≡ pile_of m y calls (dealt_to pack y)
  pub thirty : length (plays_in calls) ≤ 30

-- the deal
pub told_start : (m : Meaning) (pack : List Card) → IsCutPack pack → Told m pack [] (start pack)
unfolding start
told_start m pack w = record {
  sound = start_sound pack w;
  known = record { stage = (refl, record { first = refl; second = refl; third = refl }, record { untaken = refl; unnamed = refl; unplayed = refl }); bid = refl; contract = refl };
  valued = λ e. absurd (both_ways true e refl);
  board = fresh_board_lem m None;
  distinct = tt;
  apart = λ y e. absurd (both_ways false refl e);
  unput = λ e y. refl;
  piles = λ y. start_pile pack y ∙ sym (untaken_up None (dealt_to pack y));
  thirty = omega arith;
}

-- before the play there are no plays
pub early_plays : (m : Meaning) (w : Moment) (c : Common) (t : Tally) (ps : List Play') → leb (moment_number w) 5 ≡ true → StageAt m w c t ps → ps ≡ []
early_plays m Bidding c t ps e h = h.2.unplayed
early_plays m Hearing c t ps e h = h.3.unplayed
early_plays m Alone c t ps e h = h.3.unplayed
early_plays m Deciding c t ps e h = h.1.unplayed
early_plays m Putting c t ps e h = h.1.unplayed
early_plays m Announcing c t ps e h = h.1.unplayed
early_plays m Playing c t ps e h = absurd (both_ways false refl e)
early_plays m Settled c t ps e h = absurd (both_ways false refl e)

no_play : (s : Seat) (call : Call) → is_play call ≡ false → play_of s call ≡ []
no_play s (Bid n) e = refl
no_play s Hold e = refl
no_play s Pass e = refl
no_play s Take e = refl
no_play s (Put a b) e = refl
no_play s (Announce g l) e = refl
no_play s (Play k) e = absurd (both_ways true e refl)

early_to : (w : Moment) (n k : ℕ) → n ≤ k → leb (moment_number w) n ≡ true → leb (moment_number w) k ≡ true
early_to w n k l e = le-leb (moment_number w) k (omega (arith, leb-true (moment_number w) n e))

bid_row : (w : Moment) → is_at 0 w ≡ true → leb (moment_number w) 2 ≡ true
bid_row w e = ap (λ x. leb (moment_number x) 2) (is_moment w 0 e)

in_row_early : (w : Moment) (call : Call) → is_play call ≡ false → in_row w call ≡ true → leb (moment_number w) 5 ≡ true
in_row_early w (Bid n) x e = ap (λ y. leb (moment_number y) 5) (is_moment w 0 e)
in_row_early w Hold x e = early_to w 2 5 (omega arith) (hold_row w e)
in_row_early w Pass x e = early_to w 2 5 (omega arith) e
in_row_early w Take x e = ap (λ y. leb (moment_number y) 5) (is_moment w 3 e)
in_row_early w (Put a b) x e = ap (λ y. leb (moment_number y) 5) (is_moment w 4 e)
in_row_early w (Announce g l) x e =
    ⊎_elim (λ f. ap (λ y. leb (moment_number y) 5) (is_moment w 3 f)) (λ f. ap (λ y. leb (moment_number y) 5) (is_moment w 5 f)) (or_cases _ _ e)
in_row_early w (Play k) x e = absurd (both_ways true x refl)

-- no call before the play leaves a card on the board
next_board : (m : Meaning) (c : Common) (s : Seat) (call : Call) → is_play call ≡ false → (next m c s call).board ≡ fresh_board
unfolding next
next_board m c s (Bid n) e = refl
next_board m c s Hold e = fresh_cond (is_at 2 c.moment) (declares c Forehand 18) (bids_next c c.pair) refl refl
next_board m c s Pass e =
    fresh_cond (is_at 2 c.moment) (passed_in c) (cond (is_at 0 c.moment) (bidder_passes c c.pair) (hearer_passes c c.pair)) refl
    (fresh_cond (is_at 0 c.moment) (bidder_passes c c.pair) (hearer_passes c c.pair) (bidder_fresh c c.pair) (hearer_fresh c c.pair))
next_board m c s Take e = refl
next_board m c s (Put a b) e = refl
next_board m c s (Announce g l) e = refl
next_board m c s (Play k) e = absurd (both_ways true e refl)

-- the highest bid is a bid value
abbrev Valued : Common → Type 0
Valued c = eqb c.bid 0 ≡ false → is_bid c.bid ≡ true

valued_cond : (b : Bool) (x y : Common) → Valued x → Valued y → Valued (cond b x y)
valued_cond true x y h k = h
valued_cond false x y h k = k

valued_none : (e : ◌≡◌ {A = Bool} true false) → is_bid 0 ≡ true
valued_none e = absurd (both_ways true e refl)

valued_bidder : (c : Common) (p : Pair) → Valued c → Valued (bidder_passes c p)
valued_bidder c MiddlehandToForehand h = h
valued_bidder c RearhandToForehand h = valued_cond (eqb c.bid 0) (leaves_forehand c) (declares c Forehand c.bid) valued_none h
valued_bidder c RearhandToMiddlehand h = h

valued_hearer : (c : Common) (p : Pair) → Valued c → Valued (hearer_passes c p)
valued_hearer c MiddlehandToForehand h = h
valued_hearer c RearhandToForehand h = h
valued_hearer c RearhandToMiddlehand h = h

plays_bid : (m : Meaning) (c : Common) (s : Seat) (x : Card) (q : Trick) → (plays m c s x q).bid ≡ c.bid
plays_bid m c s x Empty = refl
plays_bid m c s x (One a) = refl
plays_bid m c s x (Two a b) = refl
plays_bid m c s x (Full a b d) = refl

valued_next : (m : Meaning) (t : Deal) (s : Seat) (call : Call) → is_accepted m t s call ≡ true → Valued t.common → Valued (next m t.common s call)
unfolding next
valued_next m t s (Bid n) e h = λ _. not-false _ (peel (not (is_bid n)) _ _ (accepted_fine m t s (Bid n) e).rest).0
valued_next m t s Hold e h = valued_cond (is_at 2 t.common.moment) (declares t.common Forehand 18) (bids_next t.common t.common.pair) (λ _. refl) h
valued_next m t s Pass e h =
    let c = t.common in
    valued_cond (is_at 2 c.moment) (passed_in c) (cond (is_at 0 c.moment) (bidder_passes c c.pair) (hearer_passes c c.pair)) valued_none
    (valued_cond (is_at 0 c.moment) (bidder_passes c c.pair) (hearer_passes c c.pair) (valued_bidder c c.pair h) (valued_hearer c c.pair h))
valued_next m t s Take e h = h
valued_next m t s (Put a b) e h = h
valued_next m t s (Announce g l) e h = h
valued_next m t s (Play k) e h = subst (λ (n : ℕ). eqb n 0 ≡ false → is_bid n ≡ true) (sym (plays_bid m t.common s (card_at k) t.common.board.trick)) h

-- where an unplayed card lies
untaken_pile : (y : Card) (calls : List Made) (p : Pile) → is_any is_take calls ≡ false → unplayed y calls p ≡ cond (is_any (is_put y) calls) InSkat p
untaken_pile y calls p e =
    ap (λ q. cond (is_any (is_put y) calls) InSkat q) (ap (λ b. taken_up (declarer_in calls) b p) e ∙ untaken_up (declarer_in calls) p)

put_there : (ps : List Pile) (a : ℕ) → get_or (set ps a InSkat) a InSkat ≡ InSkat
put_there [] a = refl
put_there (p ∷ ps) zero = refl
put_there (p ∷ ps) (suc a) = put_there ps a

put_one : (ps : List Pile) (a k : ℕ) (b : Bool) → eqb k a ≡ b → get_or (set ps a InSkat) k InSkat ≡ cond b InSkat (get_or ps k InSkat)
put_one ps a k true e = ap (λ y. get_or (set ps a InSkat) y InSkat) (eqb-true k a e) ∙ put_there ps a
put_one ps a k false e = get_or-set_other ps a k InSkat InSkat (eqb-false k a e)

put_two : (x y : Bool) (p : Pile) → cond y InSkat (cond x InSkat p) ≡ cond (x || y) InSkat p
put_two true true p = refl
put_two true false p = refl
put_two false true p = refl
put_two false false p = refl

-- the stage of the skat, by the moment
early_untaken : (m : Meaning) (w : Moment) (c : Common) (t : Tally) (ps : List Play') → leb (moment_number w) 3 ≡ true → StageAt m w c t ps → t.taken ≡ false
early_untaken m Bidding c t ps e h = h.2.untaken
early_untaken m Hearing c t ps e h = h.3.untaken
early_untaken m Alone c t ps e h = h.3.untaken
early_untaken m Deciding c t ps e h = h.1.untaken
early_untaken m Putting c t ps e h = absurd (both_ways false refl e)
early_untaken m Announcing c t ps e h = absurd (both_ways false refl e)
early_untaken m Playing c t ps e h = absurd (both_ways false refl e)
early_untaken m Settled c t ps e h = absurd (both_ways false refl e)

-- a call before the play
module _ (m : Meaning) (pack : List Card) (calls : List Made) (t : Deal) (s : Seat) (call : Call)
    (x : is_play call ≡ false) (e : is_accepted m t s call ≡ true) (h : Told m pack calls t) where
  abbrev more : List Made
  more = calls ++ (s, call) ∷ []

  same_plays : plays_in more ≡ plays_in calls
  same_plays = plays_more calls (s, call) ∙ ap (λ ps. plays_in calls ++ ps) (no_play s call x) ∙ append-nil (plays_in calls)

  no_plays : plays_in calls ≡ []
  no_plays = early_plays m t.common.moment t.common (tally calls) (plays_in calls) (in_row_early _ call x (accepted_fine m t s call e).row) h.known.stage

  known_more : Known m (next m t.common s call) (tally more) (plays_in more)
  known_more =
      subst (λ (ps : List Play'). Known m (next m t.common s call) (tally more) ps) (sym same_plays)
      (subst (λ (y : Tally). Known m (next m t.common s call) y (plays_in calls)) (sym (tally_more calls s call))
      (known_step m t (tally calls) (plays_in calls) s call x e h.known))

  -- without plays a card lies unplayed
  bare : (cs : List Made) → plays_in cs ≡ [] → (y : Card) (p : Pile) → pile_of m y cs p ≡ unplayed y cs p
  bare cs none y p = ap (λ ps. reckon m (declarer_in cs) y ps (unplayed y cs p)) none

  before_pile : (y : Card) → pile_in t.piles y ≡ unplayed y calls (dealt_to pack y)
  before_pile y = h.piles y ∙ bare calls no_plays y (dealt_to pack y)

  told_early : (piles' : (y : Card) → pile_in (moved m t.common s call t.piles) y ≡ unplayed y more (dealt_to pack y))
      → (leb (moment_number (next m t.common s call).moment) 4 ≡ true → (y : Card) → is_any (is_put y) more ≡ false)
      → Told m pack more (step m t s call)
  told_early piles' unput' =
      let none = same_plays ∙ no_plays in
      let fresh = next_board m t.common s call x in
      record {
        sound = step_sound m t s call e h.sound;
        known = known_more;
        valued = valued_next m t s call e h.valued;
        board =
            subst (λ (ps : List Play'). OnBoard m (declarer_in more) (next m t.common s call).board ps) (sym none)
            (subst (λ (b : Board). OnBoard m (declarer_in more) b []) (sym fresh) (fresh_board_lem m (declarer_in more)));
        distinct = subst (λ (b : Board). Distinct b.trick) (sym fresh) tt;
        apart = λ y f. absurd (both_ways _ (ap (λ ps. is_any (is_card y) (open_of ps)) none) f);
        unput = unput';
        piles = λ y. piles' y ∙ sym (bare more none y (dealt_to pack y));
        thirty = omega (arith, ap length none);
      }

  -- the auction moves no card
  still : leb (moment_number t.common.moment) 3 ≡ true → is_any is_take more ≡ is_any is_take calls → ((y : Card) → is_put y (s, call) ≡ false)
      → (y : Card) → pile_in t.piles y ≡ unplayed y more (dealt_to pack y)
  still early same free y =
      let untaken = early_untaken m t.common.moment t.common (tally calls) (plays_in calls) early h.known.stage in
      before_pile y ∙ untaken_pile y calls (dealt_to pack y) untaken
      ∙ ap (λ b. cond b InSkat (dealt_to pack y)) (sym (put_more y calls (s, call) ∙ ap (λ b. is_any (is_put y) calls || b) (free y) ∙ or_false _))
      ∙ sym (untaken_pile y more (dealt_to pack y) (same ∙ untaken))

  still_unput : leb (moment_number t.common.moment) 4 ≡ true → ((y : Card) → is_put y (s, call) ≡ false) → (y : Card) → is_any (is_put y) more ≡ false
  still_unput early free y = put_more y calls (s, call) ∙ ap (λ b. is_any (is_put y) calls || b) (free y) ∙ or_false _ ∙ h.unput early y

told_bid : (m : Meaning) (pack : List Card) (calls : List Made) (t : Deal) (s : Seat) (n : ℕ) → is_accepted m t s (Bid n) ≡ true → Told m pack calls t
    → Told m pack (calls ++ (s, Bid n) ∷ []) (step m t s (Bid n))
unfolding next moved
told_bid m pack calls t s n e h =
    let early = bid_row _ (accepted_fine m t s (Bid n) e).row in
    told_early m pack calls t s (Bid n) refl e h
    (still m pack calls t s (Bid n) refl e h (early_to _ 2 3 (omega arith) early) (ap (λ y. y.taken) (tally_more calls s (Bid n))) (λ y. refl))
    (λ _. still_unput m pack calls t s (Bid n) refl e h (early_to _ 2 4 (omega arith) early) (λ y. refl))

told_hold : (m : Meaning) (pack : List Card) (calls : List Made) (t : Deal) (s : Seat) → is_accepted m t s Hold ≡ true → Told m pack calls t
    → Told m pack (calls ++ (s, Hold) ∷ []) (step m t s Hold)
unfolding moved
told_hold m pack calls t s e h =
    let early = hold_row _ (accepted_fine m t s Hold e).row in
    told_early m pack calls t s Hold refl e h
    (still m pack calls t s Hold refl e h (early_to _ 2 3 (omega arith) early) (ap (λ y. y.taken) (tally_more calls s Hold)) (λ y. refl))
    (λ _. still_unput m pack calls t s Hold refl e h (early_to _ 2 4 (omega arith) early) (λ y. refl))

told_pass : (m : Meaning) (pack : List Card) (calls : List Made) (t : Deal) (s : Seat) → is_accepted m t s Pass ≡ true → Told m pack calls t
    → Told m pack (calls ++ (s, Pass) ∷ []) (step m t s Pass)
unfolding moved
told_pass m pack calls t s e h =
    let early = (accepted_fine m t s Pass e).row in
    told_early m pack calls t s Pass refl e h
    (still m pack calls t s Pass refl e h (early_to _ 2 3 (omega arith) early) (ap (λ y. y.taken) (tally_more calls s Pass)) (λ y. refl))
    (λ _. still_unput m pack calls t s Pass refl e h (early_to _ 2 4 (omega arith) early) (λ y. refl))

told_take : (m : Meaning) (pack : List Card) (calls : List Made) (t : Deal) (s : Seat) → is_accepted m t s Take ≡ true → Told m pack calls t
    → Told m pack (calls ++ (s, Take) ∷ []) (step m t s Take)
unfolding next moved
told_take m pack calls t s e h =
    let w = is_moment _ 3 (accepted_fine m t s Take e).row in
    let early : leb (moment_number t.common.moment) 3 ≡ true = ap (λ y. leb (moment_number y) 3) w in
    let before = early_to t.common.moment 3 4 (omega arith) early in
    let untaken = early_untaken m t.common.moment t.common (tally calls) (plays_in calls) early h.known.stage in
    let more = calls ++ (s, Take) ∷ [] in
    let who : declarer_in more ≡ Some s = declared (tally more) s (known_more m pack calls t s Take refl e h).stage.0 in
    let taken : is_any is_take more ≡ true = ap (λ y. y.taken) (tally_more calls s Take) in
    let unput = still_unput m pack calls t s Take refl e h before (λ y. refl) in
    told_early m pack calls t s Take refl e h
    (λ y.
    get_or-map (lifted s) t.piles (card_number y) InSkat InSkat (omega (arith, card_below y, h.sound.wide))
    ∙ ap (lifted s) (before_pile m pack calls t s Take refl e h y ∙ untaken_pile y calls (dealt_to pack y) untaken ∙ ap (λ b. cond b InSkat (dealt_to pack y)) (h.unput before y))
    ∙ sym (taken_up_lem s (dealt_to pack y))
    ∙ sym (λ i. cond (unput y i) InSkat (taken_up (who i) (taken i) (dealt_to pack y))))
    (λ _. unput)

told_put : (m : Meaning) (pack : List Card) (calls : List Made) (t : Deal) (s : Seat) (a b : ℕ) → is_accepted m t s (Put a b) ≡ true → Told m pack calls t
    → Told m pack (calls ++ (s, Put a b) ∷ []) (step m t s (Put a b))
unfolding next moved
told_put m pack calls t s a b e h =
    let w = is_moment _ 4 (accepted_fine m t s (Put a b) e).row in
    let before : leb (moment_number t.common.moment) 4 ≡ true = ap (λ y. leb (moment_number y) 4) w in
    let more = calls ++ (s, Put a b) ∷ [] in
    let same = tally_more calls s (Put a b) in
    told_early m pack calls t s (Put a b) refl e h
    (λ y.
    put_one (set t.piles a InSkat) b (card_number y) (eqb (card_number y) b) refl
    ∙ ap (λ p. cond (eqb (card_number y) b) InSkat p) (put_one t.piles a (card_number y) (eqb (card_number y) a) refl)
    ∙ put_two (eqb (card_number y) a) (eqb (card_number y) b) (pile_in t.piles y)
    ∙ ap (λ p. cond (eqb (card_number y) a || eqb (card_number y) b) InSkat p)
    (before_pile m pack calls t s (Put a b) refl e h y
    ∙ ap (λ z. cond z InSkat (taken_up (declarer_in calls) (is_any is_take calls) (dealt_to pack y))) (h.unput before y)
    ∙ sym (ap (λ z. taken_up (declarer_of_tally z) z.taken (dealt_to pack y)) same))
    ∙ ap (λ z. cond z InSkat (taken_up (declarer_in more) (is_any is_take more) (dealt_to pack y)))
    (sym (put_more y calls (s, Put a b) ∙ ap (λ z. z || (eqb (card_number y) a || eqb (card_number y) b)) (h.unput before y))))
    (λ late. absurd (both_ways false refl late))

told_announce : (m : Meaning) (pack : List Card) (calls : List Made) (t : Deal) (s : Seat) (g l : ℕ) → is_accepted m t s (Announce g l) ≡ true → Told m pack calls t
    → Told m pack (calls ++ (s, Announce g l) ∷ []) (step m t s (Announce g l))
unfolding next moved
told_announce m pack calls t s g l e h =
    let more = calls ++ (s, Announce g l) ∷ [] in
    let same = tally_more calls s (Announce g l) in
    told_early m pack calls t s (Announce g l) refl e h
    (λ y.
    before_pile m pack calls t s (Announce g l) refl e h y
    ∙ ap (λ z. cond z InSkat (taken_up (declarer_in calls) (is_any is_take calls) (dealt_to pack y))) (sym (put_more y calls (s, Announce g l) ∙ or_false _))
    ∙ sym (ap (λ z. cond (is_any (is_put y) more) InSkat (taken_up (declarer_of_tally z) z.taken (dealt_to pack y))) same))
    (λ late. absurd (both_ways false refl late))

-- the declarer of a contract that is reckoned
declarer_for : (s : Seat) (taken : Bool) (named : Option (ℕ × ℕ)) → declarer_of (contract_for s taken named) ≡ Some s
declarer_for s true None = refl
declarer_for s false None = refl
declarer_for s taken (Some x) = refl

pub declarer_with : (o : Option Seat) (taken : Bool) (named : Option (ℕ × ℕ)) → declarer_of (contract_with o taken named) ≡ o
declarer_with None taken named = refl
declarer_with (Some s) taken named = declarer_for s taken named

pub at_most_two : (q : Trick) (l : Seat) → length (prefix q l) ≤ 2
at_most_two Empty l = omega arith
at_most_two (One a) l = omega arith
at_most_two (Two a b) l = omega arith
at_most_two (Full a b c) l = omega arith

-- a card is played
module _ (m : Meaning) (pack : List Card) (calls : List Made) (t : Deal) (s : Seat) (k : ℕ) (e : is_accepted m t s (Play k) ≡ true) (h : Told m pack calls t) where
  abbrev after' : List Made
  after' = calls ++ (s, Play k) ∷ []

  abbrev c : Common
  c = t.common

  abbrev ps : List Play'
  ps = plays_in calls

  abbrev ps' : List Play'
  ps' = plays_in calls ++ (s, card_at k) ∷ []

  plays_now : plays_in after' ≡ ps'
  plays_now = plays_more calls (s, Play k)

  same_tally : tally after' ≡ tally calls
  same_tally = tally_more calls s (Play k)

  declarer_same : declarer_in after' ≡ declarer_in calls
  declarer_same = ap declarer_of_tally same_tally

  declares_so : declarer_of c.contract ≡ declarer_in calls
  declares_so = ap declarer_of h.known.contract ∙ declarer_with (declarer_in calls) (is_any is_take calls) (announced_in calls)

  in_turn : s ≡ turn_of c.board.trick c.board.leader
  in_turn = let p = play_fine m t s k e in p.turn ∙ (phase_at t Playing p.playing h.sound).order

  unplayed_same : (y : Card) → unplayed y calls (dealt_to pack y) ≡ unplayed y after' (dealt_to pack y)
  unplayed_same y =
      ap (λ z. cond z InSkat (taken_up (declarer_in calls) (is_any is_take calls) (dealt_to pack y))) (sym (put_more y calls (s, Play k) ∙ or_false _))
      ∙ sym (ap (λ z. cond (is_any (is_put y) after') InSkat (taken_up (declarer_of_tally z) z.taken (dealt_to pack y))) same_tally)

  ready : Ready m (declarer_in calls) (λ y. unplayed y calls (dealt_to pack y)) t.piles ps s k
  ready =
      let p = play_fine m t s k e in
      record {
        closed = λ y.
            cond_closed (is_any (is_put y) calls) (taken_up (declarer_in calls) (is_any is_take calls) (dealt_to pack y))
            (taken_closed (declarer_in calls) (is_any is_take calls) (dealt_to pack y) (dealt_closed (receiver (position_of y pack))));
        lies = h.piles;
        apart = h.apart;
        wide = h.sound.wide;
        small = p.small;
        has = p.has;
      }

  differ : Differ c.board.trick (card_at k)
  differ = differs m (declarer_in calls) (λ y. unplayed y calls (dealt_to pack y)) c t.piles ps s k ready c.board.trick h.board.lies h.distinct

  -- the stage after it
  module _ (d : Seat) (who : Declared d (tally calls)) (live : is_ended m (Some d) (tricks_of ps) ≡ false) where
    isd : declarer_in calls ≡ Some d
    isd = declared (tally calls) d who

    goes_on : (c' : Common) → tricks_of ps' ≡ tricks_of ps → StageAt m Playing c' (tally calls) ps'
    goes_on c' ts = (d, who, ap (is_ended m (Some d)) ts ∙ live)

    over_at : (c' : Common) (b : Bool) → is_ended m (Some d) (tricks_of ps') ≡ b → StageAt m (cond b Settled Playing) c' (tally calls) ps'
    over_at c' true f = inr (d, who, f)
    over_at c' false f = (d, who, f)

    next_stage : (q : Trick) → s ≡ turn_of q c.board.leader → OnBoard m (declarer_in calls) (re c q).board ps
        → StageAt m (plays m (re c q) s (card_at k) q).moment (plays m (re c q) s (card_at k) q) (tally calls) ps'
    next_stage Empty u g = goes_on c (lead ps (s, card_at k) g.lies).0
    next_stage (One a) u g = goes_on c (follow ps (c.board.leader, a) (s, card_at k) g.lies).0
    next_stage (Two a b) u g =
        let ts = (fill ps (c.board.leader, a) (following c.board.leader, b) (s, card_at k) g.lies).0 in
        let on = subst (λ (o : Option Seat). OnBoard m o (re c (Two a b)).board ps) isd g in
        over_at _ _ (sym (settles_is m (Some d) c s (card_at k) ps a b u (declares_so ∙ isd) on ts live))
    next_stage (Full a b f) u g = goes_on c (lead ps (s, card_at k) g.lies).0

  room : length (plays_in after') ≤ 30
  room =
      let p = play_fine m t s k e in
      let few = (phase_at t Playing p.playing h.sound).few in
      let sides = both_sides (is_by m (declarer_in calls)) (tricks_of ps) in
      omega (
        arith,
        few,
        sides,
        h.board.ours,
        h.board.theirs,
        length_groups ps,
        ap length h.board.lies,
        at_most_two c.board.trick c.board.leader,
        ap length plays_now,
        length_push ps (s, card_at k),
      )

  told_play : Told m pack after' (step m t s (Play k))
  unfolding next moved
  told_play =
      let q = c.board.trick in
      let c' = plays m c s (card_at k) q in
      let at = subst (λ (w : Moment). StageAt m w c (tally calls) ps) (play_fine m t s k e).playing h.known.stage in
      let board' = board_step m (declarer_in calls) c s (card_at k) ps q declares_so in_turn differ h.board in
      let lies' = lies_step m (declarer_in calls) (λ y. unplayed y calls (dealt_to pack y)) c t.piles ps s k ready q declares_so in_turn h.board.lies in
      record {
        sound = step_sound m t s (Play k) e h.sound;
        known =
            subst (λ (qs : List Play'). Known m c' (tally after') qs) (sym plays_now)
            (subst (λ (y : Tally). Known m c' y ps') (sym same_tally)
            (record {
              stage = next_stage at.0 at.1 at.2 q in_turn h.board;
              bid = plays_bid m c s (card_at k) q ∙ h.known.bid;
              contract = plays_contract m c s (card_at k) q ∙ h.known.contract;
            }));
        valued = valued_next m t s (Play k) e h.valued;
        board =
            subst (λ (qs : List Play'). OnBoard m (declarer_in after') c'.board qs) (sym plays_now)
            (subst (λ (o : Option Seat). OnBoard m o c'.board ps') (sym declarer_same) board');
        distinct = distinct_step m c s (card_at k) q differ;
        apart = subst (λ (qs : List Play'). (y : Card) → is_any (is_card y) (open_of qs) ≡ true → is_any (is_in y) (tricks_of qs) ≡ false) (sym plays_now) lies'.1;
        unput = λ early y. absurd (both_ways _ (plays_late m c s (card_at k) q) (early_to c'.moment 4 5 (omega arith) early));
        piles = λ y.
            lies'.0 y
            ∙ (λ i. reckon m (sym declarer_same i) y (sym plays_now i) (unplayed_same y i));
        thirty = room;
      }

told_step : (m : Meaning) (pack : List Card) (calls : List Made) (t : Deal) (s : Seat) (call : Call) → is_accepted m t s call ≡ true → Told m pack calls t
    → Told m pack (calls ++ (s, call) ∷ []) (step m t s call)
told_step m pack calls t s (Bid n) e h = told_bid m pack calls t s n e h
told_step m pack calls t s Hold e h = told_hold m pack calls t s e h
told_step m pack calls t s Pass e h = told_pass m pack calls t s e h
told_step m pack calls t s Take e h = told_take m pack calls t s e h
told_step m pack calls t s (Put a b) e h = told_put m pack calls t s a b e h
told_step m pack calls t s (Announce g l) e h = told_announce m pack calls t s g l e h
told_step m pack calls t s (Play k) e h = told_play m pack calls t s k e h

pub told_run : (m : Meaning) (pack : List Card) (run : List Request) → IsCutPack pack → Told m pack (accepted m (start pack) run) (ended m (start pack) run)
told_run m pack run w = by_calls m (Told m pack) (told_step m pack) run (start pack) (told_start m pack w)
