-- How far the auction and the announcement have come, moment by moment, and that contract and bid agree with it.
use Rattle.std.proofs.Common.{◌≡◌, ℕ, ◌<◌, max, Bool, true, false, cond, not, ◌&&◌, ◌||◌, eqb, leb, ◌⊎◌, List, [], Some, None, Option, sym, refl, ap, ◌∙◌, subst, inl, arith}
use Rattle.std.proofs.lemmas.Bool.{eqb-true, eqb-false, ne_eqb, leb-false, both_ways}
use Rattle.std.proofs.lemmas.Bool.Decides.{nat_tests}
use Rattle.cards.specs.declared.seats.Seat.{Seat}
use Rattle.cards.specs.declared.seats.Seat.TheVariants.{Forehand, Middlehand, Rearhand}
use Rattle.kinds.specs.Meanings.{Meaning}
use Rattle.rules.specs.declared.calls.Call.{Call}
use Rattle.rules.specs.declared.calls.Call.TheVariants.{Bid, Hold, Pass, Take, Put, Announce, Play}
use Rattle.rules.specs.declared.deals.Common.{Common}
use Rattle.rules.specs.declared.deals.Contract.TheVariants.{Undecided, Announced}
use Rattle.rules.specs.declared.deals.Deal.{Deal}
use Rattle.rules.specs.declared.deals.Pair.{Pair}
use Rattle.rules.specs.declared.deals.Pair.TheVariants.{MiddlehandToForehand, RearhandToForehand, RearhandToMiddlehand}
use Rattle.rules.specs.declared.moments.Moment.{Moment}
use Rattle.rules.specs.declared.moments.Moment.TheVariants.{Bidding, Hearing, Alone, Deciding, Putting, Announcing, Playing, Settled}
use Rattle.rules.specs.Announcing.{game_at, level_at}
use Rattle.rules.specs.Bidding.{bidder, hearer, bids_next, declares, leaves_forehand, passed_in, bidder_passes, hearer_passes}
use Rattle.rules.specs.Moments.{moment_number, is_at}
use Rattle.rules.specs.Piles.{is_seat}
use Rattle.rules.specs.Refusing.{is_accepted}
use Rattle.rules.specs.Steps.{next}
use Rattle.worth.specs.BidValues.{is_bid}
use Rattle.runs.specs.Reckoning.{Play', tricks_of, survivor, contract_with, contract_for}
use Rattle.runs.proofs.Boards.{is_ended}
use Rattle.runs.proofs.Facts.{accepted_fine, is_moment, peel}
use Rattle.runs.proofs.Tallies.{Tally, bid_of, declarer_of_tally, contract_of, with_pass, earlier, added}

-- who has passed
pub record Passed (t : Tally) (f m r : Bool) : Type 0 where
  pub first : t.forehand ≡ f
  pub second : t.middlehand ≡ m
  pub third : t.rearhand ≡ r

pass_more : (t : Tally) (f m r : Bool) (s w : Seat) → s ≡ w → Passed t f m r
    → Passed (with_pass t s) (f || is_seat w Forehand) (m || is_seat w Middlehand) (r || is_seat w Rearhand)
pass_more t f m r s w e h = record {
  first = λ i. h.first i || is_seat (e i) Forehand;
  second = λ i. h.second i || is_seat (e i) Middlehand;
  third = λ i. h.third i || is_seat (e i) Rearhand;
}

abbrev pub Only : Seat → Tally → Type 0
Only Forehand t = Passed t false true true
Only Middlehand t = Passed t true false true
Only Rearhand t = Passed t true true false

abbrev pub Paired : Pair → Tally → Type 0
Paired MiddlehandToForehand t = Passed t false false false
Paired RearhandToForehand t = Passed t false true false
Paired RearhandToMiddlehand t = Passed t true false false × (0 < bid_of t)

-- before the skat is taken and a game announced
pub record Before (t : Tally) (ps : List Play') : Type 0 where
  pub untaken : t.taken ≡ false
  pub unnamed : t.named ≡ None
  pub unplayed : ps ≡ []

pub record Lifted (t : Tally) (ps : List Play') : Type 0 where
  pub taken : t.taken ≡ true
  pub unnamed : t.named ≡ None
  pub unplayed : ps ≡ []

-- a declarer is found
pub record Declared (s : Seat) (t : Tally) : Type 0 where
  pub only : Only s t
  pub bid : 0 < bid_of t

abbrev pub StageAt : Meaning → Moment → Common → Tally → List Play' → Type 0
StageAt m Bidding c t ps = (c.turn ≡ bidder c.pair) × Paired c.pair t × Before t ps
StageAt m Hearing c t ps = (c.turn ≡ hearer c.pair) × Paired c.pair t × (0 < bid_of t) × Before t ps
StageAt m Alone c t ps = (c.turn ≡ Forehand) × Passed t false true true × (bid_of t ≡ 0) × Before t ps
StageAt m Deciding c t ps = Declared c.turn t × Before t ps
StageAt m Putting c t ps = Declared c.turn t × Lifted t ps
StageAt m Announcing c t ps = Declared c.turn t × Lifted t ps
StageAt m Playing c t ps = (d : Seat) × Declared d t × (is_ended m (Some d) (tricks_of ps) ≡ false)
StageAt m Settled c t ps = (Passed t true true true × (ps ≡ [])) ⊎ ((d : Seat) × Declared d t × (is_ended m (Some d) (tricks_of ps) ≡ true))

pub record Known (m : Meaning) (c : Common) (t : Tally) (ps : List Play') : Type 0 where
  pub stage : StageAt m c.moment c t ps
  pub bid : c.bid ≡ bid_of t
  pub contract : c.contract ≡ contract_of t

-- the declarer and the contract of a tally
cond_none : (b : Bool) (o : Option Seat) → o ≡ None → cond b None o ≡ None
cond_none true o e = refl
cond_none false o e = e

undeclared : (t : Tally) → survivor t.forehand t.middlehand t.rearhand ≡ None → declarer_of_tally t ≡ None
undeclared t e = cond_none (eqb (bid_of t) 0) _ e

undecided : (t : Tally) → declarer_of_tally t ≡ None → Undecided ≡ contract_of t
undecided t e = sym (ap (λ o. contract_with o t.taken t.named) e)

survives : (t : Tally) (s : Seat) → Only s t → survivor t.forehand t.middlehand t.rearhand ≡ Some s
survives t Forehand h = λ i. survivor (h.first i) (h.second i) (h.third i)
survives t Middlehand h = λ i. survivor (h.first i) (h.second i) (h.third i)
survives t Rearhand h = λ i. survivor (h.first i) (h.second i) (h.third i)

pub declared : (t : Tally) (s : Seat) → Declared s t → declarer_of_tally t ≡ Some s
declared t s h =
    let b : eqb (bid_of t) 0 ≡ false = ne_eqb (bid_of t) 0 (λ e. omega (arith, h.bid)) in
    ap (λ x. cond x None (survivor t.forehand t.middlehand t.rearhand)) b ∙ survives t s h.only

contract_from : (t : Tally) (s : Seat) (taken : Bool) (named : Option (ℕ × ℕ)) → Declared s t → t.taken ≡ taken → t.named ≡ named
    → contract_for s taken named ≡ contract_of t
contract_from t s taken named h e f = let d = declared t s h in sym (λ i. contract_with (d i) (e i) (f i))

-- bids and holds
bid_new : (l n : ℕ) (h : Bool) → cond (eqb l 0) (cond h 18 0) l < n → cond (eqb (max l n) 0) (cond h 18 0) (max l n) ≡ n
bid_new l n h e = grind (arith, nat_tests)

hold_keeps : (l : ℕ) (h : Bool) → 0 < cond (eqb l 0) (cond h 18 0) l → cond (eqb l 0) 18 l ≡ cond (eqb l 0) (cond h 18 0) l
hold_keeps l h e = grind (arith, nat_tests)

hold_alone : (l : ℕ) (h : Bool) → cond (eqb l 0) (cond h 18 0) l ≡ 0 → cond (eqb l 0) 18 l ≡ 18
hold_alone l h e = grind (arith, nat_tests)

-- the seat and the pair that the auction is at
module _ (m : Meaning) (c : Common) (t : Tally) (ps : List Play') where
  known_cond : (b : Bool) (x y : Common) → (b ≡ true → Known m x t ps) → (b ≡ false → Known m y t ps) → Known m (cond b x y) t ps
  known_cond true x y h k = h refl
  known_cond false x y h k = k refl

  bids_on : (p : Pair) → Paired p t → Before t ps → c.bid ≡ bid_of t → Known m (bids_next c p) t ps
  bids_on MiddlehandToForehand h b e =
      record { stage = (refl, h, b); bid = e; contract = undecided t (undeclared t (λ i. survivor (h.first i) (h.second i) (h.third i))) }
  bids_on RearhandToForehand h b e =
      record { stage = (refl, h, b); bid = e; contract = undecided t (undeclared t (λ i. survivor (h.first i) (h.second i) (h.third i))) }
  bids_on RearhandToMiddlehand h b e =
      record { stage = (refl, h, b); bid = e; contract = undecided t (undeclared t (λ i. survivor (h.0.first i) (h.0.second i) (h.0.third i))) }

  wins : (s : Seat) (n : ℕ) → Declared s t → Before t ps → n ≡ bid_of t → Known m (declares c s n) t ps
  wins s n h b e = record { stage = (h, b); bid = e; contract = contract_from t s false None h b.untaken b.unnamed }

  unpaired : (p : Pair) → Paired p t → Undecided ≡ contract_of t
  unpaired MiddlehandToForehand h = undecided t (undeclared t (λ i. survivor (h.first i) (h.second i) (h.third i)))
  unpaired RearhandToForehand h = undecided t (undeclared t (λ i. survivor (h.first i) (h.second i) (h.third i)))
  unpaired RearhandToMiddlehand h = undecided t (undeclared t (λ i. survivor (h.0.first i) (h.0.second i) (h.0.third i)))

paired_bid : (p : Pair) (t u : Tally) → t.forehand ≡ u.forehand → t.middlehand ≡ u.middlehand → t.rearhand ≡ u.rearhand → (0 < bid_of u) → Paired p t → Paired p u
paired_bid MiddlehandToForehand t u f m r b h = record { first = sym f ∙ h.first; second = sym m ∙ h.second; third = sym r ∙ h.third }
paired_bid RearhandToForehand t u f m r b h = record { first = sym f ∙ h.first; second = sym m ∙ h.second; third = sym r ∙ h.third }
paired_bid RearhandToMiddlehand t u f m r b h =
    (record { first = sym f ∙ h.0.first; second = sym m ∙ h.0.second; third = sym r ∙ h.0.third }, b)

-- what a declarer rests on
pub declared_same : (s : Seat) (t u : Tally) → t.forehand ≡ u.forehand → t.middlehand ≡ u.middlehand → t.rearhand ≡ u.rearhand → bid_of t ≡ bid_of u → Declared s t → Declared s u
declared_same Forehand t u f m r b h =
    record { only = record { first = sym f ∙ h.only.first; second = sym m ∙ h.only.second; third = sym r ∙ h.only.third }; bid = subst (λ n. 0 < n) b h.bid }
declared_same Middlehand t u f m r b h =
    record { only = record { first = sym f ∙ h.only.first; second = sym m ∙ h.only.second; third = sym r ∙ h.only.third }; bid = subst (λ n. 0 < n) b h.bid }
declared_same Rearhand t u f m r b h =
    record { only = record { first = sym f ∙ h.only.first; second = sym m ∙ h.only.second; third = sym r ∙ h.only.third }; bid = subst (λ n. 0 < n) b h.bid }

-- a pass of the bidder, of the hearer, of forehand alone
module _ (m : Meaning) (c : Common) (t : Tally) (ps : List Play') (s : Seat) where
  passed_before : Before t ps → Before (with_pass t s) ps
  passed_before b = record { untaken = b.untaken; unnamed = b.unnamed; unplayed = b.unplayed }

  bidder_known : (p : Pair) → s ≡ bidder p → Paired p t → Before t ps → c.bid ≡ bid_of t → Known m (bidder_passes c p) (with_pass t s) ps
  bidder_known MiddlehandToForehand e h b q =
      bids_on m c (with_pass t s) ps RearhandToForehand (pass_more t _ _ _ s Middlehand e h) (passed_before b) q
  bidder_known RearhandToForehand e h b q =
      let p = pass_more t _ _ _ s Rearhand e h in
      known_cond m c (with_pass t s) ps (eqb c.bid 0) (leaves_forehand c) (declares c Forehand c.bid)
      (λ z. let y = eqb-true c.bid 0 z in record {
        stage = (refl, p, sym q ∙ y, passed_before b);
        bid = sym y ∙ q;
        contract = undecided (with_pass t s) (ap (λ n. cond (eqb n 0) None (survivor (with_pass t s).forehand (with_pass t s).middlehand (with_pass t s).rearhand)) (sym q ∙ y));
      })
      (λ z. let n : c.bid ≡ 0 → ⊥ = eqb-false c.bid 0 z in
      wins m c (with_pass t s) ps Forehand c.bid (record { only = p; bid = positive (bid_of t) (λ y. n (q ∙ y)) }) (passed_before b) q)
    where
      positive : (n : ℕ) → (n ≡ 0 → ⊥) → 0 < n
      positive n h = omega arith
  bidder_known RearhandToMiddlehand e h b q =
      wins m c (with_pass t s) ps Middlehand c.bid (record { only = pass_more t _ _ _ s Rearhand e h.0; bid = h.1 }) (passed_before b) q

  hearer_known : (p : Pair) → s ≡ hearer p → Paired p t → (0 < bid_of t) → Before t ps → c.bid ≡ bid_of t → Known m (hearer_passes c p) (with_pass t s) ps
  hearer_known MiddlehandToForehand e h l b q =
      bids_on m c (with_pass t s) ps RearhandToMiddlehand (pass_more t _ _ _ s Forehand e h, l) (passed_before b) q
  hearer_known RearhandToForehand e h l b q =
      wins m c (with_pass t s) ps Rearhand c.bid (record { only = pass_more t _ _ _ s Forehand e h; bid = l }) (passed_before b) q
  hearer_known RearhandToMiddlehand e h l b q =
      wins m c (with_pass t s) ps Rearhand c.bid (record { only = pass_more t _ _ _ s Middlehand e h.0; bid = l }) (passed_before b) q

  alone_known : s ≡ Forehand → Passed t false true true → bid_of t ≡ 0 → Before t ps → Known m (passed_in c) (with_pass t s) ps
  alone_known e h z b =
      let p = pass_more t _ _ _ s Forehand e h in
      record {
        stage = inl (p, b.unplayed);
        bid = sym z;
        contract = undecided (with_pass t s) (undeclared (with_pass t s) (λ i. survivor (p.first i) (p.second i) (p.third i)));
      }

and_false : (b : Bool) → (b && false) ≡ false
and_false true = refl
and_false false = refl

-- each call before the play
module _ (m : Meaning) (d : Deal) (t : Tally) (ps : List Play') (s : Seat) (h : Known m d.common t ps) where
  stage_at : (w : Moment) → d.common.moment ≡ w → StageAt m w d.common t ps
  stage_at w e = subst (λ (x : Moment). StageAt m x d.common t ps) e h.stage

  bid_known : (n : ℕ) → is_accepted m d s (Bid n) ≡ true → Known m (next m d.common s (Bid n)) (added t s (Bid n)) ps
  unfolding next
  bid_known n e =
      let k = accepted_fine m d s (Bid n) e in
      let p5 = peel (not (is_bid n)) _ _ k.rest in
      let p6 = peel (leb n d.common.bid) _ _ p5.1 in
      let g = stage_at Bidding (is_moment _ 0 k.row) in
      let more : bid_of t < n = omega (arith, leb-false n d.common.bid p6.0, h.bid) in
      let new = bid_new t.largest n t.held more in
      let on : 0 < bid_of (added t s (Bid n)) = omega (arith, new, more) in
      let pair = paired_bid d.common.pair t (added t s (Bid n)) refl refl refl on g.1 in
      record {
        stage = (refl, pair, on, record { untaken = g.2.untaken; unnamed = g.2.unnamed; unplayed = g.2.unplayed });
        bid = sym new;
        contract = unpaired m d.common (added t s (Bid n)) ps d.common.pair pair;
      }

  hold_hearing : d.common.moment ≡ Hearing → Known m (bids_next d.common d.common.pair) (added t s Hold) ps
  hold_hearing w =
      let g = stage_at Hearing w in
      let keeps = hold_keeps t.largest t.held g.2 in
      let on : 0 < bid_of (added t s Hold) = omega (arith, keeps, g.2) in
      bids_on m d.common (added t s Hold) ps d.common.pair (paired_bid d.common.pair t (added t s Hold) refl refl refl on g.1)
      (record { untaken = g.3.untaken; unnamed = g.3.unnamed; unplayed = g.3.unplayed }) (h.bid ∙ sym keeps)

  hold_alone_known : d.common.moment ≡ Alone → Known m (declares d.common Forehand 18) (added t s Hold) ps
  hold_alone_known w =
      let g = stage_at Alone w in
      let new = hold_alone t.largest t.held g.2 in
      let on : 0 < bid_of (added t s Hold) = omega (arith, new) in
      wins m d.common (added t s Hold) ps Forehand 18
      (record { only = record { first = g.1.first; second = g.1.second; third = g.1.third }; bid = on })
      (record { untaken = g.3.untaken; unnamed = g.3.unnamed; unplayed = g.3.unplayed }) (sym new)

  hold_at : (w : Moment) → d.common.moment ≡ w → (is_at 1 w || is_at 2 w) ≡ true
      → Known m (cond (is_at 2 w) (declares d.common Forehand 18) (bids_next d.common d.common.pair)) (added t s Hold) ps
  hold_at Bidding w e = absurd (both_ways false refl e)
  hold_at Hearing w e = hold_hearing w
  hold_at Alone w e = hold_alone_known w
  hold_at Deciding w e = absurd (both_ways false refl e)
  hold_at Putting w e = absurd (both_ways false refl e)
  hold_at Announcing w e = absurd (both_ways false refl e)
  hold_at Playing w e = absurd (both_ways false refl e)
  hold_at Settled w e = absurd (both_ways false refl e)

  pass_at : (w : Moment) → d.common.moment ≡ w → leb (moment_number w) 2 ≡ true → s ≡ d.common.turn
      → Known m (cond (is_at 2 w) (passed_in d.common) (cond (is_at 0 w) (bidder_passes d.common d.common.pair) (hearer_passes d.common d.common.pair))) (added t s Pass) ps
  pass_at Bidding w e u = let g = stage_at Bidding w in bidder_known m d.common t ps s d.common.pair (u ∙ g.0) g.1 g.2 h.bid
  pass_at Hearing w e u = let g = stage_at Hearing w in hearer_known m d.common t ps s d.common.pair (u ∙ g.0) g.1 g.2 g.3 h.bid
  pass_at Alone w e u = let g = stage_at Alone w in alone_known m d.common t ps s (u ∙ g.0) g.1 g.2 g.3
  pass_at Deciding w e u = absurd (both_ways false refl e)
  pass_at Putting w e u = absurd (both_ways false refl e)
  pass_at Announcing w e u = absurd (both_ways false refl e)
  pass_at Playing w e u = absurd (both_ways false refl e)
  pass_at Settled w e u = absurd (both_ways false refl e)

  take_known : is_accepted m d s Take ≡ true → Known m (next m d.common s Take) (added t s Take) ps
  unfolding next
  take_known e =
      let k = accepted_fine m d s Take e in
      let g = stage_at Deciding (is_moment _ 3 k.row) in
      let who = subst (λ (x : Seat). Declared x t) (sym k.turn) g.0 in
      let whose = declared_same s t (added t s Take) refl refl refl refl who in
      record {
        stage = (whose, record { taken = refl; unnamed = g.1.unnamed; unplayed = g.1.unplayed });
        bid = h.bid;
        contract = contract_from (added t s Take) s true None whose refl g.1.unnamed;
      }

  put_known : (a b : ℕ) → is_accepted m d s (Put a b) ≡ true → Known m (next m d.common s (Put a b)) (added t s (Put a b)) ps
  unfolding next
  put_known a b e =
      let k = accepted_fine m d s (Put a b) e in
      let g = stage_at Putting (is_moment _ 4 k.row) in
      let who = subst (λ (x : Seat). Declared x t) (sym k.turn) g.0 in
      record { stage = (who, g.1); bid = h.bid; contract = contract_from t s true None who g.1.taken g.1.unnamed }

  named_known : (game level : ℕ) (w : Moment) → d.common.moment ≡ w → (taken : Bool) → t.taken ≡ taken → t.named ≡ None → ps ≡ [] → Declared s t → is_at 3 w ≡ not taken
      → Known m (next m d.common s (Announce game level)) (added t s (Announce game level)) ps
  unfolding next
  named_known game level w at taken e f p who hand =
      let u = added t s (Announce game level) in
      let whose = declared_same s t u refl refl refl refl who in
      let named : u.named ≡ Some (game, level) = ap (λ o. earlier o (Some (game, level))) f in
      record {
        stage = (s, whose, ap (λ qs. is_ended m (Some s) (tricks_of qs)) p ∙ and_false m.ends);
        bid = h.bid;
        contract =
            ap (λ b. Announced (record { declarer = s; game = game_at game; level = level_at level; hand = b })) (ap (is_at 3) at ∙ hand)
            ∙ contract_from u s taken (Some (game, level)) whose e named;
      }

  announce_at : (game level : ℕ) (w : Moment) → d.common.moment ≡ w → (is_at 3 w || is_at 5 w) ≡ true → s ≡ d.common.turn
      → Known m (next m d.common s (Announce game level)) (added t s (Announce game level)) ps
  announce_at game level Bidding w e u = absurd (both_ways false refl e)
  announce_at game level Hearing w e u = absurd (both_ways false refl e)
  announce_at game level Alone w e u = absurd (both_ways false refl e)
  announce_at game level Deciding w e u =
      let g = stage_at Deciding w in
      named_known game level Deciding w false g.1.untaken g.1.unnamed g.1.unplayed (subst (λ (x : Seat). Declared x t) (sym u) g.0) refl
  announce_at game level Putting w e u = absurd (both_ways false refl e)
  announce_at game level Announcing w e u =
      let g = stage_at Announcing w in
      named_known game level Announcing w true g.1.taken g.1.unnamed g.1.unplayed (subst (λ (x : Seat). Declared x t) (sym u) g.0) refl
  announce_at game level Playing w e u = absurd (both_ways false refl e)
  announce_at game level Settled w e u = absurd (both_ways false refl e)

  hold_known : is_accepted m d s Hold ≡ true → Known m (next m d.common s Hold) (added t s Hold) ps
  unfolding next
  hold_known e = hold_at d.common.moment refl (accepted_fine m d s Hold e).row

  pass_known : is_accepted m d s Pass ≡ true → Known m (next m d.common s Pass) (added t s Pass) ps
  unfolding next
  pass_known e = let k = accepted_fine m d s Pass e in pass_at d.common.moment refl k.row k.turn

  announce_known : (game level : ℕ) → is_accepted m d s (Announce game level) ≡ true → Known m (next m d.common s (Announce game level)) (added t s (Announce game level)) ps
  announce_known game level e = let k = accepted_fine m d s (Announce game level) e in announce_at game level d.common.moment refl k.row k.turn

-- whether a call is a card
abbrev pub is_play : Call → Bool
is_play (Bid n) = false
is_play Hold = false
is_play Pass = false
is_play Take = false
is_play (Put a b) = false
is_play (Announce g l) = false
is_play (Play k) = true

pub known_step : (m : Meaning) (d : Deal) (t : Tally) (ps : List Play') (s : Seat) (call : Call) → is_play call ≡ false → is_accepted m d s call ≡ true
    → Known m d.common t ps → Known m (next m d.common s call) (added t s call) ps
known_step m d t ps s (Bid n) x e h = bid_known m d t ps s h n e
known_step m d t ps s Hold x e h = hold_known m d t ps s h e
known_step m d t ps s Pass x e h = pass_known m d t ps s h e
known_step m d t ps s Take x e h = take_known m d t ps s h e
known_step m d t ps s (Put a b) x e h = put_known m d t ps s h a b e
known_step m d t ps s (Announce g l) x e h = announce_known m d t ps s h g l e
known_step m d t ps s (Play k) x e h = absurd (both_ways true x refl)
