-- A seat's answers are those of a machine that is fed what is kept of the run, and the skat if the seat takes it.
use Rattle.std.proofs.Common.{◌≡◌, ℕ, suc, ◌+◌, Bool, true, false, cond, ◌&&◌, ◌||◌, leb, List, [], ◌∷◌, ◌++◌, Some, None, Option, sym, refl, ap, ◌∙◌}
use Rattle.std.proofs.lemmas.Bool.{both_ways, or_parts}
use Rattle.cards.specs.declared.deck.Card.{Card}
use Rattle.cards.specs.declared.seats.Seat.{Seat}
use Rattle.cards.specs.Refusals.{answered}
use Rattle.cards.specs.Seats.{seat_at}
use Rattle.cards.specs.Deck.{card_at}
use Rattle.kinds.specs.Meanings.{Meaning}
use Rattle.rules.specs.declared.calls.Call.{Call}
use Rattle.rules.specs.declared.calls.Call.TheVariants.{Bid, Hold, Pass, Take, Put, Announce, Play}
use Rattle.rules.specs.declared.deals.Common.{Common}
use Rattle.rules.specs.declared.deals.Deal.{Deal}
use Rattle.rules.specs.declared.deals.Pile.{Pile}
use Rattle.rules.specs.declared.deals.Trick.{Trick}
use Rattle.rules.specs.declared.deals.Trick.TheVariants.{Empty, One, Two, Full}
use Rattle.rules.specs.declared.moments.Moment.{Moment}
use Rattle.rules.specs.declared.moments.Moment.TheVariants.{Bidding, Hearing, Alone, Deciding, Putting, Announcing, Playing, Settled}
use Rattle.rules.specs.Announcing.{level_at, is_ouvert}
use Rattle.rules.specs.Board.{is_the, is_declarer, taker_of}
use Rattle.rules.specs.Dealing.{start}
use Rattle.rules.specs.Moments.{moment_number, is_at}
use Rattle.rules.specs.Permitted.{permitted_of, permitted_by}
use Rattle.rules.specs.Piles.{is_seat, holding, skat_of}
use Rattle.rules.specs.Refusing.{refusal_of, refusal_by, is_none, is_accepted}
use Rattle.rules.specs.Results.{is_settled}
use Rattle.rules.specs.Sight.{bytes_of, sight_refusal, sight_of, seen_by}
use Rattle.rules.specs.Steps.{next, moved, step, plays, settles}
use Rattle.runs.specs.declared.requests.Answer.{Answer}
use Rattle.runs.specs.declared.requests.Answer.TheVariants.{Acted, Saw, May}
use Rattle.runs.specs.declared.requests.Request.{Request}
use Rattle.runs.specs.declared.requests.Request.TheVariants.{Act, Sight, Permitted, Result}
use Rattle.runs.specs.Fairness.{Kept, own, others, opens, puts, kept_call, kept_other, kept_others, kept, is_own, got, took, is_take_by, Alike}
use Rattle.runs.specs.Runs.{after, after_call, answer, accepted_by, accepted_in, accepted}
use Rattle.runs.proofs.Facts.{same_refl, the_is, accepted_fine, hold_row}
use Rattle.runs.proofs.Views.{View, view, view≡, move_by, own_move, own_call, Untouched, own_moves, other_moves}

abbrev halted : View → Bool
halted w = is_at 7 w.common.moment

abbrev seen : View → List ℕ
seen w = bytes_of w.common w.mine w.shown (cond (is_at 5 w.common.moment) w.put [])

abbrev view_answer : Meaning → Seat → View → Request → Option Answer
view_answer m v w (Act n call) = Some (Acted (answered (refusal_of m w.common w.mine v call) tt))
view_answer m v w (Sight n room) = Some (Saw (answered (sight_refusal (Some v) room) (seen w)))
view_answer m v w (Permitted n) = Some (May (permitted_of m w.common w.mine v))
view_answer m v w Result = None

abbrev told : Meaning → Seat → Kept → View → List (Option Answer) → List (Option Answer)
told m v (own request) w rest = view_answer m v w request ∷ rest
told m v (others s call) w rest = rest
told m v (opens s call hand) w rest = rest
told m v (puts s) w rest = rest

abbrev machine : Meaning → Seat → List Bool → View → List Kept → List (Option Answer)
machine m v skat w [] = []
machine m v skat w (k ∷ ks) = cond (halted w) [] (told m v k w (machine m v skat (move_by m v skat k w) ks))

-- whether the machine takes up the skat
abbrev lifts : Meaning → Seat → Request → View → Bool
lifts m v (Act n (Bid x)) w = false
lifts m v (Act n Hold) w = false
lifts m v (Act n Pass) w = false
lifts m v (Act n Take) w = is_none (refusal_of m w.common w.mine v Take)
lifts m v (Act n (Put a b)) w = false
lifts m v (Act n (Announce g l)) w = false
lifts m v (Act n (Play k)) w = false
lifts m v (Sight n room) w = false
lifts m v (Permitted n) w = false
lifts m v Result w = false

abbrev lifts_by : Meaning → Seat → Kept → View → Bool
lifts_by m v (own request) w = lifts m v request w
lifts_by m v (others s call) w = false
lifts_by m v (opens s call hand) w = false
lifts_by m v (puts s) w = false

abbrev machine_takes : Meaning → Seat → List Bool → View → List Kept → Bool
machine_takes m v skat w [] = false
machine_takes m v skat w (k ∷ ks) = lifts_by m v k w || machine_takes m v skat (move_by m v skat k w) ks

-- without a take the skat does not matter
own_blind : (m : Meaning) (v : Seat) (skat skat' : List Bool) (r : Request) (w : View) → lifts m v r w ≡ false → own_call m v skat r w ≡ own_call m v skat' r w
own_blind m v skat skat' (Act n (Bid x)) w e = refl
own_blind m v skat skat' (Act n Hold) w e = refl
own_blind m v skat skat' (Act n Pass) w e = refl
own_blind m v skat skat' (Act n Take) w e =
    ap (λ b. cond b (own_move m v Take skat w) w) e ∙ sym (ap (λ b. cond b (own_move m v Take skat' w) w) e)
own_blind m v skat skat' (Act n (Put a b)) w e = refl
own_blind m v skat skat' (Act n (Announce g l)) w e = refl
own_blind m v skat skat' (Act n (Play k)) w e = refl
own_blind m v skat skat' (Sight n room) w e = refl
own_blind m v skat skat' (Permitted n) w e = refl
own_blind m v skat skat' Result w e = refl

blind : (m : Meaning) (v : Seat) (skat skat' : List Bool) (k : Kept) (w : View) → lifts_by m v k w ≡ false → move_by m v skat k w ≡ move_by m v skat' k w
blind m v skat skat' (own r) w e = own_blind m v skat skat' r w e
blind m v skat skat' (others s call) w e = refl
blind m v skat skat' (opens s call hand) w e = refl
blind m v skat skat' (puts s) w e = refl

takes_alike : (m : Meaning) (v : Seat) (skat skat' : List Bool) (w : View) (ks : List Kept) → machine_takes m v skat w ks ≡ machine_takes m v skat' w ks
takes_alike m v skat skat' w [] = refl
takes_alike m v skat skat' w (k ∷ ks) = go (takes_alike m v skat skat' (move_by m v skat' k w) ks) (lifts_by m v k w) refl
  where
    go : machine_takes m v skat (move_by m v skat' k w) ks ≡ machine_takes m v skat' (move_by m v skat' k w) ks
        → (b : Bool) → lifts_by m v k w ≡ b → (b || machine_takes m v skat (move_by m v skat k w) ks) ≡ (b || machine_takes m v skat' (move_by m v skat' k w) ks)
    go rec true e = refl
    go rec false e = ap (λ x. machine_takes m v skat x ks) (blind m v skat skat' k w e) ∙ rec

machine_alike : (m : Meaning) (v : Seat) (skat skat' : List Bool) (w : View) (ks : List Kept) → machine_takes m v skat w ks ≡ false
    → machine m v skat w ks ≡ machine m v skat' w ks
machine_alike m v skat skat' w [] e = refl
machine_alike m v skat skat' w (k ∷ ks) e =
    let p = or_parts _ _ e in
    let moves = blind m v skat skat' k w p.0 in
    ap (λ x. cond (halted w) [] (told m v k w x))
    (machine_alike m v skat skat' (move_by m v skat k w) ks p.1 ∙ ap (λ x. machine m v skat' x ks) moves)

-- until the skat is taken it lies as dealt
late_filled : (b : Bool) → leb (moment_number (cond b Settled Playing)) 3 ≡ false
late_filled true = refl
late_filled false = refl

late_played : (m : Meaning) (c : Common) (s : Seat) (x : Card) (q : Trick) → leb (moment_number (plays m c s x q).moment) 3 ≡ false
late_played m c s x Empty = refl
late_played m c s x (One a) = refl
late_played m c s x (Two a b) =
    late_filled (settles m (is_declarer c.contract (taker_of m c.board.leader a b x)) (suc (c.board.taken.declarer + c.board.taken.defenders)))
late_played m c s x (Full a b d) = refl

auction : (w : Moment) → leb (moment_number w) 2 ≡ true → leb (moment_number w) 3 ≡ true
auction Bidding e = refl
auction Hearing e = refl
auction Alone e = refl
auction Deciding e = refl
auction Putting e = e
auction Announcing e = e
auction Playing e = e
auction Settled e = e

bid_row : (w : Moment) → is_at 0 w ≡ true → leb (moment_number w) 2 ≡ true
bid_row Bidding e = refl
bid_row Hearing e = absurd (both_ways false refl e)
bid_row Alone e = refl
bid_row Deciding e = e
bid_row Putting e = e
bid_row Announcing e = e
bid_row Playing e = e
bid_row Settled e = e

untouched_step : (m : Meaning) (skat : List Bool) (t : Deal) (s : Seat) (call : Call) → is_accepted m t s call ≡ true → Untouched skat t → Untouched skat (step m t s call)
unfolding next moved
untouched_step m skat t s (Bid n) h u = λ _. u (auction _ (bid_row _ (accepted_fine m t s (Bid n) h).row))
untouched_step m skat t s Hold h u = λ _. u (auction _ (hold_row _ (accepted_fine m t s Hold h).row))
untouched_step m skat t s Pass h u = λ _. u (auction _ (accepted_fine m t s Pass h).row)
untouched_step m skat t s Take h u = λ e. absurd (both_ways false refl e)
untouched_step m skat t s (Put a b) h u = λ e. absurd (both_ways false refl e)
untouched_step m skat t s (Announce g l) h u = λ e. absurd (both_ways false refl e)
untouched_step m skat t s (Play k) h u = λ e. absurd (both_ways _ (late_played m t.common s (card_at k) t.common.board.trick) e)

untouched_by : (m : Meaning) (skat : List Bool) (t : Deal) (call : Call) (o : Option Seat) → Untouched skat t → Untouched skat (after_call m t o call)
untouched_by m skat t call None u = u
untouched_by m skat t call (Some s) u = go (is_accepted m t s call) refl
  where
    go : (b : Bool) → is_accepted m t s call ≡ b → Untouched skat (cond b (step m t s call) t)
    go true h = untouched_step m skat t s call h u
    go false h = u

untouched : (m : Meaning) (skat : List Bool) (t : Deal) (r : Request) → Untouched skat t → Untouched skat (after m t r)
untouched m skat t (Act n call) u = untouched_by m skat t call (seat_at n) u
untouched m skat t (Sight n room) u = u
untouched m skat t (Permitted n) u = u
untouched m skat t Result u = u

-- a request of the seat's own
put_seen : (w : Moment) (b d : Bool) (xs : List Bool)
    → cond (is_at 5 w) (cond (cond (is_at 4 w) b (is_at 5 w && d)) xs []) [] ≡ cond (is_at 5 w && d) xs []
put_seen Bidding b d xs = refl
put_seen Hearing b d xs = refl
put_seen Alone b d xs = refl
put_seen Deciding b d xs = refl
put_seen Putting b d xs = refl
put_seen Announcing b d xs = refl
put_seen Playing b d xs = refl
put_seen Settled b d xs = refl

sees : (v : Seat) (t : Deal) → seen (view v t) ≡ sight_of t v
sees v t =
    ap (λ x. bytes_of t.common (view v t).mine (view v t).shown x)
    (put_seen t.common.moment _ (is_declarer t.common.contract v) (skat_of t.piles))

-- the takes among the accepted calls
and_no : (b : Bool) → false ≡ (b && false)
and_no true = refl
and_no false = refl

and_yes : (b c : Bool) → c ≡ true → b ≡ (b && c)
and_yes true c e = sym e
and_yes false c e = refl

took_cond : (v : Seat) (x : Seat × Call) (rest : List (Seat × Call)) (b : Bool) → took v (cond b (x ∷ rest) rest) ≡ ((b && is_take_by v x) || took v rest)
took_cond v x rest true = refl
took_cond v x rest false = refl

not_taking : (v s : Seat) (call : Call) → is_seat s v ≡ false → is_take_by v (s, call) ≡ false
not_taking v s (Bid n) e = refl
not_taking v s Hold e = refl
not_taking v s Pass e = refl
not_taking v s Take e = e
not_taking v s (Put a b) e = refl
not_taking v s (Announce g l) e = refl
not_taking v s (Play k) e = refl

record OwnFits (m : Meaning) (v : Seat) (skat : List Bool) (t u : Deal) (r : Request) : Type 0 where
  moves : own_call m v skat r (view v t) ≡ view v u
  says : view_answer m v (view v t) r ≡ answer m None t r
  lifting : (rest : List (Seat × Call)) → (lifts m v r (view v t) || took v rest) ≡ took v (accepted_in m t r rest)

module _ (m : Meaning) (v : Seat) (skat : List Bool) (t : Deal) (touch : Untouched skat t) where
  own_act : (call : Call) (b : Bool) → is_accepted m t v call ≡ b
      → cond b (own_move m v call skat (view v t)) (view v t) ≡ view v (cond b (step m t v call) t)
  own_act call true h = own_moves m v skat t call touch h
  own_act call false h = refl

  lifting_own : (n : ℕ) (call : Call) → lifts m v (Act n call) (view v t) ≡ (is_accepted m t v call && is_take_by v (v, call))
  lifting_own n (Bid x) = and_no _
  lifting_own n Hold = and_no _
  lifting_own n Pass = and_no _
  lifting_own n Take = and_yes _ _ (same_refl v)
  lifting_own n (Put a b) = and_no _
  lifting_own n (Announce g l) = and_no _
  lifting_own n (Play k) = and_no _

  own_fits : (r : Request) → is_own v r ≡ true → OwnFits m v skat t (after m t r) r
  own_fits (Act n call) e =
      let s = sym (the_is (seat_at n) v e) in
      record {
        moves = own_act call (is_accepted m t v call) refl ∙ ap (λ o. view v (after_call m t o call)) s;
        says = ap (λ o. Some (Acted (answered (refusal_by m t o call) tt))) s;
        lifting = λ rest.
            ap (λ b. b || took v rest) (lifting_own n call) ∙ sym (took_cond v (v, call) rest (is_accepted m t v call))
            ∙ ap (λ o. took v (accepted_by m t o call rest)) s;
      }
  own_fits (Sight n room) e =
      let s = sym (the_is (seat_at n) v e) in
      record {
        moves = refl;
        says = ap (λ x. Some (Saw (answered (sight_refusal (Some v) room) x))) (sees v t) ∙ ap (λ o. Some (Saw (seen_by t o room))) s;
        lifting = λ rest. refl;
      }
  own_fits (Permitted n) e =
      let s = sym (the_is (seat_at n) v e) in
      record { moves = refl; says = ap (λ o. Some (May (permitted_by m t o))) s; lifting = λ rest. refl }
  own_fits Result e = absurd (both_ways false refl e)

-- a request of another's, or of nobody's
abbrev Moved : Meaning → Seat → List Bool → Deal → Deal → List Kept → Type 0
Moved m v skat t u [] = view v u ≡ view v t
Moved m v skat t u (k ∷ []) =
    (move_by m v skat k (view v t) ≡ view v u) × ((rest : List (Option Answer)) → told m v k (view v t) rest ≡ rest) × (lifts_by m v k (view v t) ≡ false)
Moved m v skat t u (k ∷ (l ∷ ks)) = ⊥

record OtherFits (m : Meaning) (v : Seat) (skat : List Bool) (t u : Deal) (r : Request) : Type 0 where
  moves : Moved m v skat t u (kept_others m t r)
  lifting : (rest : List (Seat × Call)) → took v rest ≡ took v (accepted_in m t r rest)

module _ (m : Meaning) (v : Seat) (skat : List Bool) (t : Deal) where
  quiet : (s : Seat) (call : Call) (ps : List Pile) (w : View)
      → ((rest : List (Option Answer)) → told m v (kept_call s call ps) w rest ≡ rest) × (lifts_by m v (kept_call s call ps) w ≡ false)
  quiet s (Bid n) ps w = (λ rest. refl, refl)
  quiet s Hold ps w = (λ rest. refl, refl)
  quiet s Pass ps w = (λ rest. refl, refl)
  quiet s Take ps w = (λ rest. refl, refl)
  quiet s (Put x y) ps w = (λ rest. refl, refl)
  quiet s (Announce g l) ps w = ap_quiet (is_ouvert (level_at l))
    where
      ap_quiet : (b : Bool)
          → ((rest : List (Option Answer)) → told m v (cond b (opens s (Announce g l) (holding s ps)) (others s (Announce g l))) w rest ≡ rest)
          × (lifts_by m v (cond b (opens s (Announce g l) (holding s ps)) (others s (Announce g l))) w ≡ false)
      ap_quiet true = (λ rest. refl, refl)
      ap_quiet false = (λ rest. refl, refl)
  quiet s (Play k) ps w = (λ rest. refl, refl)

  other_act : (s : Seat) (call : Call) → is_seat s v ≡ false → (b : Bool) → is_accepted m t s call ≡ b
      → Moved m v skat t (cond b (step m t s call) t) (cond b (kept_call s call t.piles ∷ []) [])
  other_act s call e true h =
      let q = quiet s call t.piles (view v t) in (other_moves m v s skat t call e h, q.0, q.1)
  other_act s call e false h = refl

  other_call : (call : Call) (o : Option Seat) → is_the o v ≡ false
      → Moved m v skat t (after_call m t o call) (kept_other m t o call) × ((rest : List (Seat × Call)) → took v rest ≡ took v (accepted_by m t o call rest))
  other_call call None e = (refl, λ rest. refl)
  other_call call (Some s) e = (
    other_act s call e (is_accepted m t s call) refl,
    λ rest.
        ap (λ b. b || took v rest) (and_no (is_accepted m t s call) ∙ ap (λ b. is_accepted m t s call && b) (sym (not_taking v s call e)))
        ∙ sym (took_cond v (s, call) rest (is_accepted m t s call)),
  )

  other_fits : (r : Request) → is_own v r ≡ false → OtherFits m v skat t (after m t r) r
  other_fits (Act n call) e = let p = other_call call (seat_at n) e in record { moves = p.0; lifting = p.1 }
  other_fits (Sight n room) e = record { moves = refl; lifting = λ rest. refl }
  other_fits (Permitted n) e = record { moves = refl; lifting = λ rest. refl }
  other_fits Result e = record { moves = refl; lifting = λ rest. refl }

halts : (m : Meaning) (v : Seat) (skat : List Bool) (w : View) (ks : List Kept) → halted w ≡ true → machine m v skat w ks ≡ []
halts m v skat w [] e = refl
halts m v skat w (k ∷ ks) e = ap (λ b. cond b [] (told m v k w (machine m v skat (move_by m v skat k w) ks))) e

rests : (m : Meaning) (v : Seat) (skat : List Bool) (w : View) (ks : List Kept) (b : Bool) → halted w ≡ b → machine m v skat w ks ≡ cond b [] (machine m v skat w ks)
rests m v skat w ks true e = halts m v skat w ks e
rests m v skat w ks false e = refl

-- the machine says what the seat gets, and takes where the seat takes
abbrev Follows : Meaning → Seat → List Bool → Deal → List Request → Type 0
Follows m v skat t run =
    (machine m v skat (view v t) (kept m v t run) ≡ got m v t run)
    × (machine_takes m v skat (view v t) (kept m v t run) ≡ took v (accepted m t run))

module _ (m : Meaning) (v : Seat) (skat : List Bool) (t : Deal) (r : Request) (run : List Request) where
  abbrev later : List Kept
  later = kept m v (after m t r) run

  own_step : OwnFits m v skat t (after m t r) r → Follows m v skat (after m t r) run
      → (machine m v skat (view v t) (own r ∷ later)
      ≡ cond (is_settled t) [] (answer m None t r ∷ got m v (after m t r) run))
      × (machine_takes m v skat (view v t) (own r ∷ later) ≡ took v (accepted_in m t r (accepted m (after m t r) run)))
  own_step f ih = (
    ap (λ x. cond (is_settled t) [] x)
        (ap (λ a. a ∷ machine m v skat (own_call m v skat r (view v t)) later) f.says
        ∙ ap (λ xs. answer m None t r ∷ xs) (ap (λ w. machine m v skat w later) f.moves ∙ ih.0)),
    ap (λ x. lifts m v r (view v t) || x) (ap (λ w. machine_takes m v skat w later) f.moves ∙ ih.1)
        ∙ f.lifting (accepted m (after m t r) run),
  )

  moved_step : (ks : List Kept) → Moved m v skat t (after m t r) ks → Follows m v skat (after m t r) run
      → (machine m v skat (view v t) (ks ++ later) ≡ cond (is_settled t) [] (got m v (after m t r) run))
      × (machine_takes m v skat (view v t) (ks ++ later) ≡ took v (accepted m (after m t r) run))
  moved_step [] f ih = (
    rests m v skat (view v t) later (is_settled t) refl
        ∙ ap (λ x. cond (is_settled t) [] x) (ap (λ w. machine m v skat w later) (sym f) ∙ ih.0),
    ap (λ w. machine_takes m v skat w later) (sym f) ∙ ih.1,
  )
  moved_step (k ∷ []) f ih = (
    ap (λ x. cond (is_settled t) [] x) (f.1 _ ∙ ap (λ w. machine m v skat w later) f.0 ∙ ih.0),
    ap (λ b. b || machine_takes m v skat (move_by m v skat k (view v t)) later) f.2
        ∙ ap (λ w. machine_takes m v skat w later) f.0 ∙ ih.1,
  )
  moved_step (k ∷ (l ∷ ks)) f ih = absurd f

  one_step : (b : Bool) → is_own v r ≡ b → Untouched skat t → Follows m v skat (after m t r) run
      → (machine m v skat (view v t) (cond b (own r ∷ []) (kept_others m t r) ++ later)
      ≡ cond (is_settled t) [] (cond b (answer m None t r ∷ got m v (after m t r) run) (got m v (after m t r) run)))
      × (machine_takes m v skat (view v t) (cond b (own r ∷ []) (kept_others m t r) ++ later) ≡ took v (accepted_in m t r (accepted m (after m t r) run)))
  one_step true e u ih = own_step (own_fits m v skat t u r e) ih
  one_step false e u ih =
      let f = other_fits m v skat t r e in
      let p = moved_step (kept_others m t r) f.moves ih in
      (p.0, p.1 ∙ f.lifting (accepted m (after m t r) run))

follows_run : (m : Meaning) (v : Seat) (skat : List Bool) (t : Deal) (run : List Request) → Untouched skat t → Follows m v skat t run
follows_run m v skat t [] u = (refl, refl)
follows_run m v skat t (r ∷ run) u =
    one_step m v skat t r run (is_own v r) refl u (follows_run m v skat (after m t r) run (untouched m skat t r u))

view_start : (v : Seat) (p q : List Card) → holding v (start p).piles ≡ holding v (start q).piles → view v (start p) ≡ view v (start q)
unfolding start
view_start v p q e = view≡ refl e refl refl

-- either the skats are the same, or they do not matter
either : (m : Meaning) (v : Seat) (sp sq : List Bool) (w : View) (ks : List Kept) (b : Bool) → machine_takes m v sp w ks ≡ b → (b ≡ true → sp ≡ sq)
    → machine m v sp w ks ≡ machine m v sq w ks
either m v sp sq w ks true e h = ap (λ x. machine m v x w ks) (h refl)
either m v sp sq w ks false e h = machine_alike m v sp sq w ks e

pub fairly : (m : Meaning) (v : Seat) (p q : List Card) (xs ys : List Request) → Alike m v p q xs ys → got m v (start p) xs ≡ got m v (start q) ys
fairly m v p q xs ys a =
    let sp = skat_of (start p).piles in
    let sq = skat_of (start q).piles in
    let ks = kept m v (start q) ys in
    let fp = follows_run m v sp (start p) xs (λ _. refl) in
    let fq = follows_run m v sq (start q) ys (λ _. refl) in
    let same = view_start v p q a.hands in
    let takes : machine_takes m v sp (view v (start q)) ks ≡ took v (accepted m (start p) xs) =
    ap (λ w. machine_takes m v sp w ks) (sym same) ∙ ap (machine_takes m v sp (view v (start p))) (sym a.keeps) ∙ fp.1 in
    sym fp.0 ∙ ap (machine m v sp (view v (start p))) a.keeps ∙ ap (λ w. machine m v sp w ks) same
    ∙ either m v sp sq (view v (start q)) ks (machine_takes m v sp (view v (start q)) ks) refl
    (λ e. a.skats (sym takes ∙ e) (sym fq.1 ∙ takes_alike m v sq sp (view v (start q)) ks ∙ e))
    ∙ fq.0
