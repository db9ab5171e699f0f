-- Each accepted call brings the end nearer.
use Rattle.std.proofs.Common.{◌≡◌, ℕ, zero, suc, ◌+◌, ◌-◌, ◌*◌, ◌<◌, ◌≤◌, Bool, true, false, cond, not, ◌&&◌, ◌||◌, eqb, ltb, leb, ◌⊎◌, List, [], ◌∷◌, ◌++◌, length, sym, refl, ap, ◌∙◌, inl, inr, arith}
use Rattle.std.proofs.lemmas.List.{length_push}
use Rattle.std.proofs.lemmas.Bool.{eqb-true, both_ways, and_parts, and_from, and_right, not-false, ltb-true, leb-false, lt-ltb, le-ltb, cases_lt}
use Rattle.std.proofs.lemmas.Bool.Decides.{nat_tests}
use Rattle.cards.specs.declared.deck.Card.{Card}
use Rattle.cards.specs.declared.seats.Seat.{Seat}
use Rattle.cards.specs.declared.seats.Seat.TheVariants.{Forehand}
use Rattle.cards.specs.Deck.{card_at}
use Rattle.kinds.specs.Meanings.{Meaning}
use Rattle.rules.specs.declared.calls.Call.{Call}
use Rattle.rules.specs.declared.calls.Call.TheVariants.{Bid, Hold, Pass, Take, Put, Announce, Play}
use Rattle.rules.specs.declared.deals.Common.{Common}
use Rattle.rules.specs.declared.deals.Deal.{Deal}
use Rattle.rules.specs.declared.deals.Pair.{Pair}
use Rattle.rules.specs.declared.deals.Pair.TheVariants.{MiddlehandToForehand, RearhandToForehand, RearhandToMiddlehand}
use Rattle.rules.specs.declared.deals.Trick.{Trick}
use Rattle.rules.specs.declared.deals.Trick.TheVariants.{Empty, One, Two, Full}
use Rattle.rules.specs.declared.moments.Moment.{Moment}
use Rattle.rules.specs.declared.moments.Moment.TheVariants.{Bidding, Hearing, Alone, Deciding, Putting, Announcing, Playing, Settled}
use Rattle.rules.specs.Bidding.{bids_next, declares, leaves_forehand, passed_in, bidder_passes, hearer_passes}
use Rattle.rules.specs.Board.{is_declarer, taker_of}
use Rattle.rules.specs.Dealing.{IsCutPack, start}
use Rattle.rules.specs.Moments.{moment_number, is_at}
use Rattle.rules.specs.Refusing.{is_accepted}
use Rattle.rules.specs.Steps.{next, step, plays}
use Rattle.worth.specs.BidValues.{is_bid}
use Rattle.runs.specs.declared.requests.Request.{Request}
use Rattle.runs.specs.Runs.{accepted}
use Rattle.runs.proofs.Counts.{bit}
use Rattle.runs.proofs.Facts.{peel, accepted_fine, is_moment}
use Rattle.runs.proofs.Induct.{by_calls}
use Rattle.runs.proofs.Sound.{Sound, phase_at, on_table, play_fine, step_sound, start_sound}
use Rattle.runs.proofs.Views.{put_fine}

-- bid values above a bid
abbrev below : ℕ → (ℕ → Bool) → ℕ
below zero f = 0
below (suc n) f = below n f + bit (f n)

higher : ℕ → ℕ → Bool
higher h k = is_bid k && ltb h k

above : ℕ → ℕ
above h = below 265 (higher h)

above_none : above 0 ≡ 63
unfolding above higher
above_none = refl

bit_le : (x y : Bool) → (x ≡ true → y ≡ true) → bit x ≤ bit y
bit_le true true h = omega arith
bit_le true false h = absurd (both_ways false refl (h refl))
bit_le false y h = omega arith

below_le : (f g : ℕ → Bool) → ((k : ℕ) → f k ≡ true → g k ≡ true) → (n : ℕ) → below n f ≤ below n g
below_le f g h zero = omega arith
below_le f g h (suc n) = omega (arith, below_le f g h n, bit_le (f n) (g n) (h n))

below_lt : (f g : ℕ → Bool) → ((k : ℕ) → f k ≡ true → g k ≡ true) → (v : ℕ) → f v ≡ false → g v ≡ true
    → (n : ℕ) → v < n → below n f < below n g
below_lt f g h v p q zero l = absurd (omega arith)
below_lt f g h v p q (suc n) l = go (below_lt f g h v p q n) (cases_lt v n)
  where
    go : (v < n → below n f < below n g) → ((v < n) ⊎ (n ≤ v)) → below n f + bit (f n) < below n g + bit (g n)
    go ih (inl k) = omega (arith, ih k, bit_le (f n) (g n) (h n))
    go ih (inr k) =
        let e : v ≡ n = omega arith in
        let x : bit (f n) ≡ 0 = ap bit (ap f (sym e) ∙ p) in
        let y : bit (g n) ≡ 1 = ap bit (ap g (sym e) ∙ q) in
        omega (arith, below_le f g h n)

value_small : (v : ℕ) → is_bid v ≡ true → v < 265
value_small v e = grind (arith, nat_tests)

above_falls : (h v : ℕ) → is_bid v ≡ true → h < v → above v < above h
unfolding above higher
above_falls h v b l =
    below_lt (higher v) (higher h)
    (λ k e. let p = and_parts _ _ e in and_from _ _ p.0 (lt-ltb h k (omega (arith, ltb-true v k p.1))))
    v (and_right (is_bid v) _ (le-ltb v v (omega arith))) (and_from _ _ b (lt-ltb h v l)) 265 (value_small v b)

-- how many calls can still be is_accepted
abbrev pairs : Pair → ℕ
pairs MiddlehandToForehand = 35
pairs RearhandToForehand = 34
pairs RearhandToMiddlehand = 34

abbrev weigh : Moment → Common → ℕ
weigh Bidding c = above c.bid + above c.bid + pairs c.pair
weigh Hearing c = above c.bid + above c.bid + suc (pairs c.pair)
weigh Alone c = 34
weigh Deciding c = 33
weigh Putting c = 32
weigh Announcing c = 31
weigh Playing c = 30 - (3 * (c.board.taken.declarer + c.board.taken.defenders) + on_table c.board.trick)
weigh Settled c = 0

abbrev left : Common → ℕ
left c = weigh c.moment c

left_at : (c : Common) (w : Moment) → c.moment ≡ w → left c ≡ weigh w c
left_at c w e = ap (λ x. weigh x c) e

hold_falls : (c : Common) (w : Moment) → (is_at 1 w || is_at 2 w) ≡ true
    → left (cond (is_at 2 w) (declares c Forehand 18) (bids_next c c.pair)) < weigh w c
hold_falls c Bidding e = absurd (both_ways false refl e)
hold_falls c Hearing e = omega arith
hold_falls c Alone e = omega arith
hold_falls c Deciding e = absurd (both_ways false refl e)
hold_falls c Putting e = absurd (both_ways false refl e)
hold_falls c Announcing e = absurd (both_ways false refl e)
hold_falls c Playing e = absurd (both_ways false refl e)
hold_falls c Settled e = absurd (both_ways false refl e)

last_falls : (c : Common) (b : Bool) → eqb c.bid 0 ≡ b
    → left (cond b (leaves_forehand c) (declares c Forehand c.bid)) < above c.bid + above c.bid + 34
last_falls c true e =
    let z : above c.bid ≡ 63 = ap above (eqb-true _ _ e) ∙ above_none in omega arith
last_falls c false e = omega arith

bidder_falls : (c : Common) (p : Pair) → left (bidder_passes c p) < above c.bid + above c.bid + pairs p
bidder_falls c MiddlehandToForehand = omega arith
bidder_falls c RearhandToForehand = last_falls c (eqb c.bid 0) refl
bidder_falls c RearhandToMiddlehand = omega arith

hearer_falls : (c : Common) (p : Pair) → left (hearer_passes c p) < above c.bid + above c.bid + suc (pairs p)
hearer_falls c MiddlehandToForehand = omega arith
hearer_falls c RearhandToForehand = omega arith
hearer_falls c RearhandToMiddlehand = omega arith

pass_falls : (c : Common) (w : Moment) → leb (moment_number w) 2 ≡ true
    → left (cond (is_at 2 w) (passed_in c) (cond (is_at 0 w) (bidder_passes c c.pair) (hearer_passes c c.pair))) < weigh w c
pass_falls c Bidding e = bidder_falls c c.pair
pass_falls c Hearing e = hearer_falls c c.pair
pass_falls c Alone e = omega arith
pass_falls c Deciding e = absurd (both_ways false refl e)
pass_falls c Putting e = absurd (both_ways false refl e)
pass_falls c Announcing e = absurd (both_ways false refl e)
pass_falls c Playing e = absurd (both_ways false refl e)
pass_falls c Settled e = absurd (both_ways false refl e)

name_falls : (c : Common) (w : Moment) → (is_at 3 w || is_at 5 w) ≡ true → 30 < weigh w c
name_falls c Bidding e = absurd (both_ways false refl e)
name_falls c Hearing e = absurd (both_ways false refl e)
name_falls c Alone e = absurd (both_ways false refl e)
name_falls c Deciding e = omega arith
name_falls c Putting e = absurd (both_ways false refl e)
name_falls c Announcing e = omega arith
name_falls c Playing e = absurd (both_ways false refl e)
name_falls c Settled e = absurd (both_ways false refl e)

fill_falls : (m : Meaning) (c : Common) (t : Seat) (a b k : Card) (r o : Bool) → c.board.taken.declarer + c.board.taken.defenders < 10
    → weigh (cond r Settled Playing)
    (record {
      moment = cond r Settled Playing;
      turn = t;
      pair = c.pair;
      bid = c.bid;
      contract = c.contract;
      board = record { taken = record { declarer = cond o (suc c.board.taken.declarer) c.board.taken.declarer; defenders = cond o c.board.taken.defenders (suc c.board.taken.defenders) }; leader = t; trick = Full a b k };
    })
    < 30 - (3 * (c.board.taken.declarer + c.board.taken.defenders) + 2)
fill_falls m c t a b k true o l = omega arith
fill_falls m c t a b k false true l = omega arith
fill_falls m c t a b k false false l = omega arith

play_falls : (m : Meaning) (c : Common) (s : Seat) (k : Card) (q : Trick) → c.board.taken.declarer + c.board.taken.defenders < 10
    → left (plays m c s k q) < 30 - (3 * (c.board.taken.declarer + c.board.taken.defenders) + on_table q)
play_falls m c s k Empty l = omega arith
play_falls m c s k (One a) l = omega arith
play_falls m c s k (Two a b) l =
    fill_falls m c (taker_of m c.board.leader a b k) a b k _ (is_declarer c.contract (taker_of m c.board.leader a b k)) l
play_falls m c s k (Full a b d) l = omega arith

falls : (m : Meaning) (t : Deal) (s : Seat) (call : Call) → Sound t → is_accepted m t s call ≡ true → left (next m t.common s call) < left t.common
unfolding next
falls m t s (Bid n) h e =
    let k = accepted_fine m t s (Bid n) e in
    let p5 = peel (not (is_bid n)) _ _ k.rest in
    let p6 = peel (leb n t.common.bid) _ _ p5.1 in
    let l = above_falls t.common.bid n (not-false _ p5.0) (leb-false _ _ p6.0) in
    let z = left_at t.common Bidding (is_moment _ 0 k.row) in
    omega arith
falls m t s Hold h e = hold_falls t.common t.common.moment (accepted_fine m t s Hold e).row
falls m t s Pass h e = pass_falls t.common t.common.moment (accepted_fine m t s Pass e).row
falls m t s Take h e = let z = left_at t.common Deciding (is_moment _ 3 (accepted_fine m t s Take e).row) in omega arith
falls m t s (Put a b) h e = let z = left_at t.common Putting (is_moment _ 4 (put_fine m t s a b e).at4) in omega arith
falls m t s (Announce g l) h e = name_falls t.common t.common.moment (accepted_fine m t s (Announce g l) e).row
falls m t s (Play c) h e =
    let w = (play_fine m t s c e).playing in
    let z = left_at t.common Playing w in
    let p = phase_at t Playing w h in
    omega (arith, play_falls m t.common s (card_at c) t.common.board.trick p.few)

record Within (calls : List (Seat × Call)) (t : Deal) : Type 0 where
  sound : Sound t
  short : length calls + left t.common ≤ 161

within_step : (m : Meaning) (calls : List (Seat × Call)) (t : Deal) (s : Seat) (call : Call) → is_accepted m t s call ≡ true → Within calls t
    → Within (calls ++ (s, call) ∷ []) (step m t s call)
within_step m calls t s call e h =
    record {
      sound = step_sound m t s call e h.sound;
      short = omega (arith, length_push calls (s, call), falls m t s call h.sound e, h.short);
    }

within_start : (pack : List Card) → IsCutPack pack → Within [] (start pack)
unfolding start
within_start pack w = record { sound = start_sound pack w; short = omega (arith, above_none) }

pub bounded : (m : Meaning) (pack : List Card) (run : List Request) → IsCutPack pack → length (accepted m (start pack) run) ≤ 161
bounded m pack run w = omega (arith, (by_calls m Within (within_step m) run (start pack) (within_start pack w)).short)
