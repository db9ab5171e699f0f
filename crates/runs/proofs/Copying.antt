-- The twelve cards that are copied at the announcement are the declarer's ten dealt cards and the skat, and stay so.
use Rattle.std.proofs.Common.{◌≡◌, ℕ, zero, suc, ◌+◌, Bool, true, false, cond, ◌||◌, eqb, leb, List, [], ◌∷◌, map, length, get_or, set, replicate, Some, None, Option, sym, refl, ap, ◌∙◌, subst, arith}
use Rattle.std.proofs.lemmas.List.{length-map, take_at}
use Rattle.std.proofs.lemmas.Bool.{both_ways}
use Rattle.cards.specs.declared.deck.Card.{Card}
use Rattle.cards.specs.declared.seats.Seat.{Seat}
use Rattle.cards.specs.declared.seats.Seat.TheVariants.{Forehand, Middlehand, Rearhand}
use Rattle.cards.specs.Deck.{card_at}
use Rattle.kinds.specs.Meanings.{Meaning}
use Rattle.rules.specs.declared.calls.Call.{Call}
use Rattle.rules.specs.declared.calls.Call.TheVariants.{Bid, Hold, Pass, Take, Put, Announce, Play}
use Rattle.rules.specs.declared.deals.Common.{Common}
use Rattle.rules.specs.declared.deals.Deal.{Deal}
use Rattle.rules.specs.declared.deals.Pair.{Pair}
use Rattle.rules.specs.declared.deals.Pair.TheVariants.{MiddlehandToForehand, RearhandToForehand, RearhandToMiddlehand}
use Rattle.rules.specs.declared.deals.Pile.{Pile}
use Rattle.rules.specs.declared.deals.Pile.TheVariants.{InHand, InSkat, InTrick, WithDeclarer, WithDefenders}
use Rattle.rules.specs.declared.deals.Trick.{Trick}
use Rattle.rules.specs.declared.deals.Trick.TheVariants.{Empty, One, Two, Full}
use Rattle.rules.specs.declared.moments.Moment.{Moment}
use Rattle.rules.specs.declared.moments.Moment.TheVariants.{Bidding, Hearing, Alone, Deciding, Putting, Announcing, Playing, Settled}
use Rattle.rules.specs.Bidding.{bids_next, declares, leaves_forehand, passed_in, bidder_passes, hearer_passes}
use Rattle.rules.specs.Board.{declarer_of, is_declarer, taker_of}
use Rattle.rules.specs.Dealing.{IsCutPack, start}
use Rattle.rules.specs.Moments.{moment_number, is_at}
use Rattle.rules.specs.Piles.{is_held, is_in_skat, is_held_or_in_skat, holding, skat_of, marked, marked_from, padded, hand_and_skat}
use Rattle.rules.specs.Refusing.{is_accepted}
use Rattle.rules.specs.Steps.{next, moved, step, lifted, plays, settles, twelve_of}
use Rattle.runs.specs.declared.requests.Request.{Request}
use Rattle.runs.specs.Law.{twelve_in}
use Rattle.runs.specs.Runs.{ended}
use Rattle.runs.proofs.Counts.{bit, ones, start_even}
use Rattle.runs.proofs.Facts.{same_refl, accepted_fine, is_moment, hold_row, map_map}
use Rattle.runs.proofs.Induct.{by_calls}
use Rattle.runs.proofs.Views.{put_fine}

-- the cards of a hand and of the skat, as marks
abbrev twelve : Seat → List Pile → List Bool
twelve s ps = map (is_held_or_in_skat s) ps

abbrev Copies : Type 0
Copies = Option (List Card)

abbrev copy_for : List Pile → Option Seat → Copies
copy_for ds None = None
copy_for ds (Some s) = Some (twelve_of s ds)

-- ds: the piles as dealt
abbrev HeldAt : Moment → List Pile → Common → List Pile → Copies → Type 0
HeldAt Bidding ds c ps ws = (ps ≡ ds) × (ws ≡ None)
HeldAt Hearing ds c ps ws = (ps ≡ ds) × (ws ≡ None)
HeldAt Alone ds c ps ws = (ps ≡ ds) × (ws ≡ None)
HeldAt Deciding ds c ps ws = (twelve c.turn ps ≡ twelve c.turn ds) × (ws ≡ None)
HeldAt Putting ds c ps ws = (twelve c.turn ps ≡ twelve c.turn ds) × (ws ≡ None)
HeldAt Announcing ds c ps ws = (twelve c.turn ps ≡ twelve c.turn ds) × (ws ≡ None)
HeldAt Playing ds c ps ws = ws ≡ copy_for ds (declarer_of c.contract)
HeldAt Settled ds c ps ws = ws ≡ copy_for ds (declarer_of c.contract)

abbrev Held : List Pile → Deal → Type 0
Held ds t = HeldAt t.common.moment ds t.common t.piles t.twelve

-- what the moment says
module _ (ds : List Pile) (c : Common) (ps : List Pile) (ws : Copies) where
  early : (w : Moment) → leb (moment_number w) 2 ≡ true → HeldAt w ds c ps ws → (ps ≡ ds) × (ws ≡ None)
  early Bidding e h = h
  early Hearing e h = h
  early Alone e h = h
  early Deciding e h = absurd (both_ways false refl e)
  early Putting e h = absurd (both_ways false refl e)
  early Announcing e h = absurd (both_ways false refl e)
  early Playing e h = absurd (both_ways false refl e)
  early Settled e h = absurd (both_ways false refl e)

  naming : (w : Moment) → (is_at 3 w || is_at 5 w) ≡ true → HeldAt w ds c ps ws → twelve c.turn ps ≡ twelve c.turn ds
  naming Bidding e h = absurd (both_ways false refl e)
  naming Hearing e h = absurd (both_ways false refl e)
  naming Alone e h = absurd (both_ways false refl e)
  naming Deciding e h = h.0
  naming Putting e h = absurd (both_ways false refl e)
  naming Announcing e h = h.0
  naming Playing e h = absurd (both_ways false refl e)
  naming Settled e h = absurd (both_ways false refl e)

abbrev Holds : List Pile → Common → List Pile → Copies → Type 0
Holds ds c ps ws = HeldAt c.moment ds c ps ws

held_cond : (b : Bool) (c d : Common) (ds ps : List Pile) (ws : Copies) → Holds ds c ps ws → Holds ds d ps ws → Holds ds (cond b c d) ps ws
held_cond true c d ds ps ws h k = h
held_cond false c d ds ps ws h k = k

bidder_held : (c : Common) (p : Pair) (ds ps : List Pile) (ws : Copies) → (ps ≡ ds) × (ws ≡ None) → Holds ds (bidder_passes c p) ps ws
bidder_held c MiddlehandToForehand ds ps ws h = h
bidder_held c RearhandToForehand ds ps ws h =
    held_cond (eqb c.bid 0) (leaves_forehand c) (declares c Forehand c.bid) ds ps ws h (ap (twelve Forehand) h.0, h.1)
bidder_held c RearhandToMiddlehand ds ps ws h = (ap (twelve Middlehand) h.0, h.1)

hearer_held : (c : Common) (p : Pair) (ds ps : List Pile) (ws : Copies) → (ps ≡ ds) × (ws ≡ None) → Holds ds (hearer_passes c p) ps ws
hearer_held c MiddlehandToForehand ds ps ws h = h
hearer_held c RearhandToForehand ds ps ws h = (ap (twelve Rearhand) h.0, h.1)
hearer_held c RearhandToMiddlehand ds ps ws h = (ap (twelve Rearhand) h.0, h.1)

-- the skat is taken up
lift_one : (s : Seat) (p : Pile) → is_held_or_in_skat s (lifted s p) ≡ is_held_or_in_skat s p
lift_one s (InHand t) = refl
lift_one s InSkat = same_refl s
lift_one s InTrick = refl
lift_one s WithDeclarer = refl
lift_one s WithDefenders = refl

lift_all : (s : Seat) (ps : List Pile) → twelve s (map (lifted s) ps) ≡ twelve s ps
lift_all s ps = map_map (is_held_or_in_skat s) (is_held_or_in_skat s) (lifted s) (lift_one s) ps

-- two held cards are put away
held_counts : (s : Seat) (p : Pile) → is_held s p ≡ true → is_held_or_in_skat s p ≡ true
held_counts s (InHand t) e = e
held_counts s InSkat e = refl
held_counts s InTrick e = e
held_counts s WithDeclarer e = e
held_counts s WithDefenders e = e

held_there : (s : Seat) (ps : List Pile) (k : ℕ) → get_or (holding s ps) k false ≡ true → get_or (twelve s ps) k false ≡ true
held_there s [] k e = e
held_there s (p ∷ ps) zero e = held_counts s p e
held_there s (p ∷ ps) (suc k) e = held_there s ps k e

put_one : (s : Seat) (ps : List Pile) (k : ℕ) → get_or (twelve s ps) k false ≡ true → twelve s (set ps k InSkat) ≡ twelve s ps
put_one s [] k e = refl
put_one s (p ∷ ps) zero e = ap (λ b. b ∷ twelve s ps) (sym e)
put_one s (p ∷ ps) (suc k) e = ap (λ bs. is_held_or_in_skat s p ∷ bs) (put_one s ps k e)

put_two : (s : Seat) (ps : List Pile) (a b : ℕ) → get_or (holding s ps) a false ≡ true → get_or (holding s ps) b false ≡ true
    → twelve s (set (set ps a InSkat) b InSkat) ≡ twelve s ps
put_two s ps a b e f =
    let one = put_one s ps a (held_there s ps a e) in
    put_one s (set ps a InSkat) b (ap (λ bs. get_or bs b false) one ∙ held_there s ps b f) ∙ one

-- a card is played
held_fill : (b : Bool) (ds : List Pile) (c : Common) (ps : List Pile) (ws : Copies) → ws ≡ copy_for ds (declarer_of c.contract)
    → HeldAt (cond b Settled Playing) ds c ps ws
held_fill true ds c ps ws h = h
held_fill false ds c ps ws h = h

held_play : (m : Meaning) (c : Common) (s : Seat) (x : Card) (q : Trick) (ds ps : List Pile) (ws : Copies) → ws ≡ copy_for ds (declarer_of c.contract)
    → Holds ds (plays m c s x q) ps ws
held_play m c s x Empty ds ps ws h = h
held_play m c s x (One a) ds ps ws h = h
held_play m c s x (Two a b) ds ps ws h =
    held_fill (settles m (is_declarer c.contract (taker_of m c.board.leader a b x)) (suc (c.board.taken.declarer + c.board.taken.defenders))) ds (plays m c s x (Two a b)) ps ws h
held_play m c s x (Full a b d) ds ps ws h = h

module _ (m : Meaning) (ds : List Pile) (t : Deal) (s : Seat) (h : Held ds t) where
  at : (w : Moment) → t.common.moment ≡ w → HeldAt w ds t.common t.piles t.twelve
  at w e = subst (λ (x : Moment). HeldAt x ds t.common t.piles t.twelve) e h

  by_turn : s ≡ t.common.turn → twelve t.common.turn t.piles ≡ twelve t.common.turn ds → twelve s t.piles ≡ twelve s ds
  by_turn u e = subst (λ (x : Seat). twelve x t.piles ≡ twelve x ds) (sym u) e

  held_step : (call : Call) → is_accepted m t s call ≡ true → Held ds (step m t s call)
  unfolding next moved
  held_step (Bid n) e = at Bidding (is_moment _ 0 (accepted_fine m t s (Bid n) e).row)
  held_step Hold e =
      let p = early ds t.common t.piles t.twelve t.common.moment (hold_row _ (accepted_fine m t s Hold e).row) h in
      held_cond (is_at 2 t.common.moment) (declares t.common Forehand 18) (bids_next t.common t.common.pair) ds t.piles t.twelve
      (ap (twelve Forehand) p.0, p.1) p
  held_step Pass e =
      let c = t.common in
      let p = early ds c t.piles t.twelve c.moment (accepted_fine m t s Pass e).row h in
      held_cond (is_at 2 c.moment) (passed_in c) (cond (is_at 0 c.moment) (bidder_passes c c.pair) (hearer_passes c c.pair)) ds t.piles t.twelve p.1
      (held_cond (is_at 0 c.moment) (bidder_passes c c.pair) (hearer_passes c c.pair) ds t.piles t.twelve
      (bidder_held c c.pair ds t.piles t.twelve p) (hearer_held c c.pair ds t.piles t.twelve p))
  held_step Take e =
      let k = accepted_fine m t s Take e in
      let p = at Deciding (is_moment _ 3 k.row) in
      (lift_all s t.piles ∙ by_turn k.turn p.0, p.1)
  held_step (Put a b) e =
      let k = put_fine m t s a b e in
      let p = at Putting (is_moment _ 4 k.at4) in
      (put_two s t.piles a b k.first k.second ∙ by_turn k.turn p.0, p.1)
  held_step (Announce g l) e =
      let k = accepted_fine m t s (Announce g l) e in
      ap (λ bs. Some (padded 12 (card_at 0) (map card_at (marked bs))))
      (by_turn k.turn (naming ds t.common t.piles t.twelve t.common.moment k.row h))
  held_step (Play x) e =
      held_play m t.common s (card_at x) t.common.board.trick ds _ t.twelve (at Playing (is_moment _ 6 (accepted_fine m t s (Play x) e).row))

held_start : (pack : List Card) → Held (start pack).piles (start pack)
unfolding start
held_start pack = (refl, refl)

-- there are twelve of them
both_marks : (s : Seat) (p : Pile) → bit (is_held_or_in_skat s p) ≡ bit (is_held s p) + bit (is_in_skat p)
both_marks s (InHand t) = omega arith
both_marks s InSkat = refl
both_marks s InTrick = refl
both_marks s WithDeclarer = refl
both_marks s WithDefenders = refl

ones_twelve : (s : Seat) (ps : List Pile) → ones (twelve s ps) ≡ ones (holding s ps) + ones (skat_of ps)
ones_twelve s [] = refl
ones_twelve s (p ∷ ps) = omega (arith, both_marks s p, ones_twelve s ps)

length_marked : (n : ℕ) (bs : List Bool) → length (marked_from n bs) ≡ ones bs
length_marked n [] = refl
length_marked n (true ∷ bs) = omega (arith, length_marked (suc n) bs)
length_marked n (false ∷ bs) = omega (arith, length_marked (suc n) bs)

full_twelve : (pack : List Card) (s : Seat) → IsCutPack pack → twelve_of s (start pack).piles ≡ hand_and_skat s (start pack).piles
full_twelve pack s w =
    let even = start_even pack w in
    take_at (hand_and_skat s (start pack).piles) (replicate 12 (card_at 0)) 12
    (length-map (marked (twelve s (start pack).piles)) card_at
    ∙ omega (arith, length_marked 0 (twelve s (start pack).piles), ones_twelve s (start pack).piles, even.hands s, even.skat))

copy_is : (pack : List Card) (o : Option Seat) → IsCutPack pack → copy_for (start pack).piles o ≡ twelve_in pack o
copy_is pack None w = refl
copy_is pack (Some s) w = ap Some (full_twelve pack s w)

settled_copy : (ds : List Pile) (t : Deal) (w : Moment) → t.common.moment ≡ w → is_at 7 w ≡ true → HeldAt w ds t.common t.piles t.twelve
    → t.twelve ≡ copy_for ds (declarer_of t.common.contract)
settled_copy ds t Bidding e s h = absurd (both_ways false refl s)
settled_copy ds t Hearing e s h = absurd (both_ways false refl s)
settled_copy ds t Alone e s h = absurd (both_ways false refl s)
settled_copy ds t Deciding e s h = absurd (both_ways false refl s)
settled_copy ds t Putting e s h = absurd (both_ways false refl s)
settled_copy ds t Announcing e s h = absurd (both_ways false refl s)
settled_copy ds t Playing e s h = absurd (both_ways false refl s)
settled_copy ds t Settled e s h = h

pub copied_twelve : (m : Meaning) (pack : List Card) (run : List Request) → IsCutPack pack → is_at 7 (ended m (start pack) run).common.moment ≡ true
    → (ended m (start pack) run).twelve ≡ twelve_in pack (declarer_of (ended m (start pack) run).common.contract)
copied_twelve m pack run w s =
    let t = ended m (start pack) run in
    let h = by_calls m (λ calls u. Held (start pack).piles u) (λ calls u v call e k. held_step m (start pack).piles u v k call e) run (start pack) (held_start pack) in
    settled_copy (start pack).piles t t.common.moment refl s h ∙ copy_is pack (declarer_of t.common.contract) w
