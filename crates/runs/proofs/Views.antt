-- What a seat may know of a deal, and how what is kept for it moves that.
use Rattle.std.proofs.Common.{◌≡◌, ℕ, zero, suc, ◌+◌, Bool, true, false, cond, not, ◌&&◌, ◌||◌, eqb, ltb, leb, List, [], ◌∷◌, map, get_or, set, sym, refl, ap, ◌∙◌}
use Rattle.std.proofs.lemmas.List.{map-set, set-get_or}
use Rattle.std.proofs.lemmas.Bool.{both_ways, and_parts, not-false, cond-true}
use Rattle.cards.specs.declared.deck.Card.{Card}
use Rattle.cards.specs.declared.seats.Seat.{Seat}
use Rattle.cards.specs.Deck.{card_at}
use Rattle.kinds.specs.Meanings.{Meaning}
use Rattle.rules.specs.declared.calls.Call.{Call}
use Rattle.rules.specs.declared.calls.Call.TheVariants.{Bid, Hold, Pass, Take, Put, Announce, Play}
use Rattle.rules.specs.declared.deals.Common.{Common}
use Rattle.rules.specs.declared.deals.Contract.{Contract}
use Rattle.rules.specs.declared.deals.Contract.TheVariants.{Undecided, Won, SkatTaken, Announced}
use Rattle.rules.specs.declared.deals.Deal.{Deal}
use Rattle.rules.specs.declared.deals.Pair.{Pair}
use Rattle.rules.specs.declared.deals.Pair.TheVariants.{MiddlehandToForehand, RearhandToForehand, RearhandToMiddlehand}
use Rattle.rules.specs.declared.deals.Pile.{Pile}
use Rattle.rules.specs.declared.deals.Pile.TheVariants.{InHand, InSkat, InTrick, WithDeclarer, WithDefenders}
use Rattle.rules.specs.declared.deals.Trick.{Trick}
use Rattle.rules.specs.declared.deals.Trick.TheVariants.{Empty, One, Two, Full}
use Rattle.rules.specs.declared.moments.Moment.TheVariants.{Playing, Settled}
use Rattle.rules.specs.Announcing.{level_at, is_ouvert}
use Rattle.rules.specs.Bidding.{bidder_passes, hearer_passes}
use Rattle.rules.specs.Board.{is_declarer, taker_of}
use Rattle.rules.specs.Moments.{moment_number, is_at}
use Rattle.rules.specs.Piles.{is_seat, is_held, is_in_skat, holding, skat_of}
use Rattle.rules.specs.Refusing.{refusal_of, is_none, is_accepted}
use Rattle.rules.specs.Sight.{shown_in}
use Rattle.rules.specs.Steps.{next, moved, step, lifted, gathered, laid, plays, settles}
use Rattle.runs.specs.declared.requests.Request.{Request}
use Rattle.runs.specs.declared.requests.Request.TheVariants.{Act, Sight, Permitted, Result}
use Rattle.runs.specs.Fairness.{Kept, own, others, opens, puts, kept_call}
use Rattle.runs.proofs.Facts.{same_sym, same_refl, same_is, is_moment, peel, accepted_fine, map_map}

pub record View : Type 0 where
  pub common : Common
  pub mine : List Bool
  pub shown : List Bool
  pub put : List Bool

-- the put cards are v's to know after its own take and put
abbrev pub knows_put : Seat → Common → Bool
knows_put v c = cond (is_at 4 c.moment) (is_seat c.turn v) (is_at 5 c.moment && is_declarer c.contract v)

abbrev pub view : Seat → Deal → View
view v t = record {
  common = t.common;
  mine = holding v t.piles;
  shown = shown_in t.common.contract t.piles;
  put = cond (knows_put v t.common) (skat_of t.piles) [];
}

pub view≡ :
    {c d : Common} {a b e f g h : List Bool} → c ≡ d → a ≡ b → e ≡ f → g ≡ h
    → ◌≡◌ {A = View} (record { common = c; mine = a; shown = e; put = g }) (record { common = d; mine = b; shown = f; put = h })
view≡ p q r s = λ i. record { common = p i; mine = q i; shown = r i; put = s i }

abbrev pub both : List Bool → List Bool → List Bool
both [] ys = []
both (x ∷ xs) [] = x ∷ xs
both (x ∷ xs) (y ∷ ys) = (x || y) ∷ both xs ys

-- the seat's own accepted call; the skat is what it would take up
abbrev pub own_mine : Call → List Bool → List Bool → List Bool
own_mine (Bid n) skat mine = mine
own_mine Hold skat mine = mine
own_mine Pass skat mine = mine
own_mine Take skat mine = both mine skat
own_mine (Put a b) skat mine = set (set mine a false) b false
own_mine (Announce g l) skat mine = mine
own_mine (Play k) skat mine = set mine k false

abbrev pub shown_after : Call → List Bool → List Bool → List Bool
shown_after (Bid n) hand o = []
shown_after Hold hand o = []
shown_after Pass hand o = []
shown_after Take hand o = []
shown_after (Put a b) hand o = []
shown_after (Announce g l) hand o = cond (is_ouvert (level_at l)) hand []
shown_after (Play k) hand o = set o k false

abbrev pub own_put : Call → List Bool → List Bool → List Bool
own_put (Bid n) mine l = []
own_put Hold mine l = []
own_put Pass mine l = []
own_put Take mine l = map (λ _. false) mine
own_put (Put a b) mine l = set (set l a true) b true
own_put (Announce g x) mine l = []
own_put (Play k) mine l = []

abbrev pub other_mine : Call → List Bool → List Bool
other_mine (Bid n) mine = mine
other_mine Hold mine = mine
other_mine Pass mine = mine
other_mine Take mine = mine
other_mine (Put a b) mine = mine
other_mine (Announce g l) mine = mine
other_mine (Play k) mine = set mine k false

abbrev pub own_move : Meaning → Seat → Call → List Bool → View → View
own_move m v call skat w = record {
  common = next m w.common v call;
  mine = own_mine call skat w.mine;
  shown = shown_after call w.mine w.shown;
  put = own_put call w.mine w.put;
}

abbrev pub other_move : Meaning → Seat → Call → List Bool → View → View
other_move m s call hand w = record {
  common = next m w.common s call;
  mine = other_mine call w.mine;
  shown = shown_after call hand w.shown;
  put = [];
}

abbrev pub own_call : Meaning → Seat → List Bool → Request → View → View
own_call m v skat (Act n call) w = cond (is_none (refusal_of m w.common w.mine v call)) (own_move m v call skat w) w
own_call m v skat (Sight n room) w = w
own_call m v skat (Permitted n) w = w
own_call m v skat Result w = w

abbrev pub move_by : Meaning → Seat → List Bool → Kept → View → View
move_by m v skat (own request) w = own_call m v skat request w
move_by m v skat (others s call) w = other_move m s call [] w
move_by m v skat (opens s call hand) w = other_move m s call hand w
move_by m v skat (puts s) w = other_move m s (Put 0 0) [] w

-- until the skat is taken it lies as dealt
abbrev pub Untouched : List Bool → Deal → Type 0
Untouched skat t = leb (moment_number t.common.moment) 3 ≡ true → skat_of t.piles ≡ skat

pub held_gathered : (v : Seat) (o : Bool) (p : Pile) → is_held v (gathered o p) ≡ is_held v p
held_gathered v o (InHand t) = refl
held_gathered v o InSkat = refl
held_gathered v true InTrick = refl
held_gathered v false InTrick = refl
held_gathered v o WithDeclarer = refl
held_gathered v o WithDefenders = refl

pub held_lifted : (v s : Seat) → is_seat s v ≡ false → (p : Pile) → is_held v (lifted s p) ≡ is_held v p
held_lifted v s e (InHand t) = refl
held_lifted v s e InSkat = same_sym v s ∙ e
held_lifted v s e InTrick = refl
held_lifted v s e WithDeclarer = refl
held_lifted v s e WithDefenders = refl

or_false : (b : Bool) → b ≡ (b || false)
or_false true = refl
or_false false = refl

held_lifted_own : (v : Seat) (p : Pile) → is_held v (lifted v p) ≡ (is_held v p || is_in_skat p)
held_lifted_own v (InHand t) = or_false (is_seat v t)
held_lifted_own v InSkat = same_refl v
held_lifted_own v InTrick = refl
held_lifted_own v WithDeclarer = refl
held_lifted_own v WithDefenders = refl

holding_lifted_own : (v : Seat) (ps : List Pile) → both (holding v ps) (skat_of ps) ≡ holding v (map (lifted v) ps)
holding_lifted_own v [] = refl
holding_lifted_own v (p ∷ ps) = λ i. sym (held_lifted_own v p) i ∷ holding_lifted_own v ps i

skat_lifted : (s : Seat) (p : Pile) → is_in_skat (lifted s p) ≡ false
skat_lifted s (InHand t) = refl
skat_lifted s InSkat = refl
skat_lifted s InTrick = refl
skat_lifted s WithDeclarer = refl
skat_lifted s WithDefenders = refl

none_left : (v s : Seat) (ps : List Pile) → map (λ _. false) (holding v ps) ≡ skat_of (map (lifted s) ps)
none_left v s [] = refl
none_left v s (p ∷ ps) = λ i. sym (skat_lifted s p) i ∷ none_left v s ps i

-- what a play makes of a hand
holding_laid : (m : Meaning) (c : Common) (k : ℕ) (v : Seat) (q : Trick) (ps : List Pile) → set (holding v ps) k false ≡ holding v (laid m c k q ps)
holding_laid m c k v Empty ps = sym (map-set (is_held v) ps k InTrick)
holding_laid m c k v (One a) ps = sym (map-set (is_held v) ps k InTrick)
holding_laid m c k v (Two a b) ps =
    sym (map-set (is_held v) ps k InTrick) ∙ sym (map_map (is_held v) (is_held v) _ (held_gathered v _) (set ps k InTrick))
holding_laid m c k v (Full a b d) ps = sym (map-set (is_held v) ps k InTrick)

pub plays_contract : (m : Meaning) (c : Common) (s : Seat) (x : Card) (q : Trick) → (plays m c s x q).contract ≡ c.contract
plays_contract m c s x Empty = refl
plays_contract m c s x (One a) = refl
plays_contract m c s x (Two a b) = refl
plays_contract m c s x (Full a b d) = refl

-- a play's moment is 6 or 7
laid_late : (b x y : Bool) → cond (is_at 4 (cond b Settled Playing)) x (is_at 5 (cond b Settled Playing) && y) ≡ false
laid_late true x y = refl
laid_late false x y = refl

knows_played : (m : Meaning) (c : Common) (s v : Seat) (x : Card) (q : Trick) → knows_put v (plays m c s x q) ≡ false
knows_played m c s v x Empty = refl
knows_played m c s v x (One a) = refl
knows_played m c s v x (Two a b) =
    laid_late (settles m (is_declarer c.contract (taker_of m c.board.leader a b x)) (suc (c.board.taken.declarer + c.board.taken.defenders))) _ _
knows_played m c s v x (Full a b d) = refl

shown_at : (m : Meaning) (c : Common) (k : ℕ) (q : Trick) (ps : List Pile) (ct : Contract)
    → set (shown_in ct ps) k false ≡ shown_in ct (laid m c k q ps)
shown_at m c k q ps Undecided = refl
shown_at m c k q ps (Won s) = refl
shown_at m c k q ps (SkatTaken s) = refl
shown_at m c k q ps (Announced a) = go (is_ouvert a.level)
  where
    go : (b : Bool) → set (cond b (holding a.declarer ps) []) k false ≡ cond b (holding a.declarer (laid m c k q ps)) []
    go true = holding_laid m c k a.declarer q ps
    go false = refl

shown_played : (m : Meaning) (c : Common) (s : Seat) (k : ℕ) (q : Trick) (ps : List Pile)
    → set (shown_in c.contract ps) k false ≡ shown_in (plays m c s (card_at k) q).contract (laid m c k q ps)
shown_played m c s k q ps =
    shown_at m c k q ps c.contract ∙ ap (λ ct. shown_in ct (laid m c k q ps)) (sym (plays_contract m c s (card_at k) q))

unseen : (b : Bool) (xs : List Bool) → b ≡ false → [] ≡ cond b xs []
unseen true xs e = absurd (both_ways true e refl)
unseen false xs e = refl

seen : (b : Bool) (xs : List Bool) → b ≡ true → xs ≡ cond b xs []
seen true xs e = refl
seen false xs e = absurd (both_ways false refl e)

-- before the announcement nothing is seen but the own hand
record Calm (v : Seat) (ps : List Pile) (c : Common) : Type 0 where
  bare : [] ≡ shown_in c.contract ps
  unput : [] ≡ cond (knows_put v c) (skat_of ps) []

calm_cond : (v : Seat) (ps : List Pile) (b : Bool) (x y : Common) → Calm v ps x → Calm v ps y → Calm v ps (cond b x y)
calm_cond v ps true x y h k = h
calm_cond v ps false x y h k = k

calm_hold : (m : Meaning) (c : Common) (s v : Seat) (ps : List Pile) → Calm v ps (next m c s Hold)
unfolding next
calm_hold m c s v ps =
    calm_cond v ps (is_at 2 c.moment) _ _ (record { bare = refl; unput = refl }) (record { bare = refl; unput = refl })

calm_bidder : (c : Common) (v : Seat) (ps : List Pile) (p : Pair) → Calm v ps (bidder_passes c p)
calm_bidder c v ps MiddlehandToForehand = record { bare = refl; unput = refl }
calm_bidder c v ps RearhandToForehand =
    calm_cond v ps (eqb c.bid 0) _ _ (record { bare = refl; unput = refl }) (record { bare = refl; unput = refl })
calm_bidder c v ps RearhandToMiddlehand = record { bare = refl; unput = refl }

calm_hearer : (c : Common) (v : Seat) (ps : List Pile) (p : Pair) → Calm v ps (hearer_passes c p)
calm_hearer c v ps MiddlehandToForehand = record { bare = refl; unput = refl }
calm_hearer c v ps RearhandToForehand = record { bare = refl; unput = refl }
calm_hearer c v ps RearhandToMiddlehand = record { bare = refl; unput = refl }

calm_pass : (m : Meaning) (c : Common) (s v : Seat) (ps : List Pile) → Calm v ps (next m c s Pass)
unfolding next
calm_pass m c s v ps =
    calm_cond v ps (is_at 2 c.moment) _ _ (record { bare = refl; unput = refl })
    (calm_cond v ps (is_at 0 c.moment) _ _ (calm_bidder c v ps c.pair) (calm_hearer c v ps c.pair))

-- an accepted put
pub record PutFine (c : Common) (hand : List Bool) (s : Seat) (a b : ℕ) : Type 0 where
  pub at4 : is_at 4 c.moment ≡ true
  pub turn : s ≡ c.turn
  pub apart : eqb a b ≡ false
  pub first : get_or hand a false ≡ true
  pub second : get_or hand b false ≡ true

pub put_fine : (m : Meaning) (t : Deal) (s : Seat) (a b : ℕ) → is_accepted m t s (Put a b) ≡ true → PutFine t.common (holding s t.piles) s a b
put_fine m t s a b e =
    let k = accepted_fine m t s (Put a b) e in
    let hand = holding s t.piles in
    let p7 = peel (ltb 31 a || ltb 31 b) _ _ k.rest in
    let p8 = peel (eqb a b) _ _ p7.1 in
    let p9 = peel (not (get_or hand a false && get_or hand b false)) _ _ p8.1 in
    let h = and_parts _ _ (not-false _ p9.0) in
    record { at4 = k.row; turn = k.turn; apart = p8.0; first = h.0; second = h.1 }

holding_put : (v : Seat) (ps : List Pile) (a b : ℕ) → set (set (holding v ps) a false) b false ≡ holding v (set (set ps a InSkat) b InSkat)
holding_put v ps a b = sym (map-set (is_held v) (set ps a InSkat) b InSkat ∙ ap (λ x. set x b false) (map-set (is_held v) ps a InSkat))

skat_put : (ps : List Pile) (a b : ℕ) → set (set (skat_of ps) a true) b true ≡ skat_of (set (set ps a InSkat) b InSkat)
skat_put ps a b = sym (map-set is_in_skat (set ps a InSkat) b InSkat ∙ ap (λ x. set x b true) (map-set is_in_skat ps a InSkat))

knows_at : (v : Seat) (c : Common) → is_at 4 c.moment ≡ true → v ≡ c.turn → knows_put v c ≡ true
knows_at v c e h = cond-true _ _ _ e ∙ ap (λ x. is_seat x v) (sym h) ∙ same_refl v

-- the seat's own accepted call
pub own_moves : (m : Meaning) (v : Seat) (skat : List Bool) (t : Deal) (call : Call) → Untouched skat t → is_accepted m t v call ≡ true
    → own_move m v call skat (view v t) ≡ view v (step m t v call)
unfolding next moved
own_moves m v skat t (Bid n) u h = view≡ refl refl refl refl
own_moves m v skat t Hold u h = let k = calm_hold m t.common v v t.piles in view≡ refl refl k.bare k.unput
own_moves m v skat t Pass u h = let k = calm_pass m t.common v v t.piles in view≡ refl refl k.bare k.unput
own_moves m v skat t Take u h =
    let w = is_moment t.common.moment 3 (accepted_fine m t v Take h).row in
    let dealt = u (ap (λ x. leb (moment_number x) 3) w) in
    view≡ refl (ap (both (holding v t.piles)) (sym dealt) ∙ holding_lifted_own v t.piles) refl
    (none_left v v t.piles ∙ seen (is_seat v v) _ (same_refl v))
own_moves m v skat t (Put a b) u h =
    let k = put_fine m t v a b h in
    view≡ refl (holding_put v t.piles a b) refl
    (ap (λ x. set (set x a true) b true) (sym (seen (knows_put v t.common) (skat_of t.piles) (knows_at v t.common k.at4 k.turn)))
    ∙ skat_put t.piles a b ∙ seen (is_seat v v) _ (same_refl v))
own_moves m v skat t (Announce g l) u h = view≡ refl refl refl refl
own_moves m v skat t (Play k) u h =
    view≡ refl (holding_laid m t.common k v t.common.board.trick t.piles)
    (shown_played m t.common v k t.common.board.trick t.piles)
    (unseen _ _ (knows_played m t.common v v (card_at k) t.common.board.trick))

-- another's
held_apart : (v s : Seat) → is_seat s v ≡ false → (p : Pile) → is_held s p ≡ true → is_held v p ≡ false
held_apart v s e (InHand t) h = ap (is_seat v) (sym (same_is s t h)) ∙ same_sym v s ∙ e
held_apart v s e InSkat h = refl
held_apart v s e InTrick h = refl
held_apart v s e WithDeclarer h = refl
held_apart v s e WithDefenders h = refl

pub apart_at : (v s : Seat) → is_seat s v ≡ false → (ps : List Pile) (a : ℕ) → get_or (holding s ps) a false ≡ true → get_or (holding v ps) a false ≡ false
apart_at v s e [] a h = refl
apart_at v s e (p ∷ ps) zero h = held_apart v s e p h
apart_at v s e (p ∷ ps) (suc a) h = apart_at v s e ps a h

set_same : (xs : List Bool) (a : ℕ) → get_or xs a false ≡ false → set xs a false ≡ xs
set_same xs a e = ap (λ x. set xs a x) (sym e) ∙ set-get_or xs a false

-- another's announcement: the hand is laid open at ouvert alone
announced : (m : Meaning) (v s : Seat) (skat : List Bool) (t : Deal) (g l : ℕ) (b : Bool) → is_ouvert (level_at l) ≡ b
    → move_by m v skat (cond b (opens s (Announce g l) (holding s t.piles)) (others s (Announce g l))) (view v t) ≡ view v (step m t s (Announce g l))
unfolding next moved
announced m v s skat t g l true e = view≡ refl refl refl refl
announced m v s skat t g l false e = view≡ refl refl (hidden (is_ouvert (level_at l)) e) refl
  where
    hidden : (b : Bool) → b ≡ false → cond b [] [] ≡ cond b (holding s t.piles) []
    hidden true e = absurd (both_ways true e refl)
    hidden false e = refl

pub other_moves : (m : Meaning) (v s : Seat) (skat : List Bool) (t : Deal) (call : Call) → is_seat s v ≡ false → is_accepted m t s call ≡ true
    → move_by m v skat (kept_call s call t.piles) (view v t) ≡ view v (step m t s call)
unfolding next moved
other_moves m v s skat t (Bid n) e h = view≡ refl refl refl refl
other_moves m v s skat t Hold e h = let k = calm_hold m t.common s v t.piles in view≡ refl refl k.bare k.unput
other_moves m v s skat t Pass e h = let k = calm_pass m t.common s v t.piles in view≡ refl refl k.bare k.unput
other_moves m v s skat t Take e h =
    view≡ refl (sym (map_map (is_held v) (is_held v) (lifted s) (held_lifted v s e) t.piles)) refl (unseen _ _ e)
other_moves m v s skat t (Put a b) e h =
    let k = put_fine m t s a b h in
    let p = set_same (holding v t.piles) a (apart_at v s e t.piles a k.first) in
    let q = set_same (holding v t.piles) b (apart_at v s e t.piles b k.second) in
    view≡ refl (sym (ap (λ x. set x b false) p ∙ q) ∙ holding_put v t.piles a b) refl (unseen _ _ e)
other_moves m v s skat t (Announce g l) e h = announced m v s skat t g l (is_ouvert (level_at l)) refl
other_moves m v s skat t (Play k) e h =
    view≡ refl (holding_laid m t.common k v t.common.board.trick t.piles)
    (shown_played m t.common s k t.common.board.trick t.piles)
    (unseen _ _ (knows_played m t.common s v (card_at k) t.common.board.trick))
