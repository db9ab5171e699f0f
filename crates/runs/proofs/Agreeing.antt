-- From what is told of a run to what the law says of it.
use Rattle.std.proofs.Common.{◌≡◌, ℕ, ◌+◌, Bool, true, false, ◌&&◌, ◌||◌, leb, List, [], map, length, sym, refl, ap, ◌∙◌, subst, inl, inr, arith}
use Rattle.std.proofs.lemmas.Bool.{both_ways}
use Rattle.cards.specs.declared.deck.Card.{Card}
use Rattle.cards.specs.declared.seats.Seat.{Seat}
use Rattle.cards.specs.declared.seats.Seat.TheVariants.{Forehand, Middlehand, Rearhand}
use Rattle.kinds.specs.Meanings.{Meaning}
use Rattle.rules.specs.declared.deals.Common.{Common}
use Rattle.rules.specs.declared.deals.Deal.{Deal}
use Rattle.rules.specs.declared.deals.Pair.{Pair}
use Rattle.rules.specs.declared.deals.Pair.TheVariants.{MiddlehandToForehand, RearhandToForehand, RearhandToMiddlehand}
use Rattle.rules.specs.declared.deals.Trick.{Trick}
use Rattle.rules.specs.declared.deals.Trick.TheVariants.{Empty, One, Two, Full}
use Rattle.rules.specs.declared.moments.Moment.{Moment}
use Rattle.rules.specs.declared.moments.Moment.TheVariants.{Bidding, Hearing, Alone, Deciding, Putting, Announcing, Playing, Settled}
use Rattle.rules.specs.Board.{declarer_of, open_cards}
use Rattle.rules.specs.Moments.{moment_number, is_at}
use Rattle.rules.specs.Piles.{pile_in, is_declarers, is_defenders, eyes_where}
use Rattle.rules.specs.Results.{is_settled}
use Rattle.runs.specs.Law.{Agrees}
use Rattle.runs.specs.Reckoning.{Made, Play', is_any, is_take, announced_in, declarer_in, plays_in, tricks_of, open_of, is_by, is_settled_in, leader_in}
use Rattle.runs.proofs.Acting.{eyes_make}
use Rattle.runs.proofs.Boards.{prefix, is_ended}
use Rattle.runs.proofs.Grouping.{length_groups, both_sides}
use Rattle.runs.proofs.Sound.{phase_at, turn_of}
use Rattle.runs.proofs.Stages.{StageAt, Passed, Paired, Declared, declared}
use Rattle.runs.proofs.Tallies.{Tally, tally}
use Rattle.runs.proofs.Told.{Told, declarer_with, early_plays, at_most_two}

-- whether all have passed, by the stage
abbrev all_passed : Tally → Bool
all_passed t = t.forehand && (t.middlehand && t.rearhand)

all_are : (t : Tally) (f m r : Bool) → Passed t f m r → all_passed t ≡ (f && (m && r))
all_are t f m r h = λ i. h.first i && (h.second i && h.third i)

paired_some : (p : Pair) (t : Tally) → Paired p t → all_passed t ≡ false
paired_some MiddlehandToForehand t h = all_are t false false false h
paired_some RearhandToForehand t h = all_are t false true false h
paired_some RearhandToMiddlehand t h = all_are t true false false h.0

declared_some : (s : Seat) (t : Tally) → Declared s t → all_passed t ≡ false
declared_some Forehand t h = all_are t false true true h.only
declared_some Middlehand t h = all_are t true false true h.only
declared_some Rearhand t h = all_are t true true false h.only

and_false : (b : Bool) → (b && false) ≡ false
and_false true = refl
and_false false = refl

module _ (m : Meaning) (calls : List Made) where
  abbrev over : Bool
  over = is_ended m (declarer_in calls) (tricks_of (plays_in calls))

  bare_over : plays_in calls ≡ [] → over ≡ false
  bare_over e = ap (λ ps. is_ended m (declarer_in calls) (tricks_of ps)) e ∙ and_false m.ends

  not_over : all_passed (tally calls) ≡ false → over ≡ false → false ≡ is_settled_in m calls
  not_over p o = sym (ap (λ b. b || over) p ∙ o)

  by_stage : (w : Moment) (c : Common) → StageAt m w c (tally calls) (plays_in calls) → is_at 7 w ≡ is_settled_in m calls
  by_stage Bidding c h = not_over (paired_some c.pair (tally calls) h.1) (bare_over h.2.unplayed)
  by_stage Hearing c h = not_over (paired_some c.pair (tally calls) h.1) (bare_over h.3.unplayed)
  by_stage Alone c h = not_over (all_are (tally calls) false true true h.1) (bare_over h.3.unplayed)
  by_stage Deciding c h = not_over (declared_some c.turn (tally calls) h.0) (bare_over h.1.unplayed)
  by_stage Putting c h = not_over (declared_some c.turn (tally calls) h.0) (bare_over h.1.unplayed)
  by_stage Announcing c h = not_over (declared_some c.turn (tally calls) h.0) (bare_over h.1.unplayed)
  by_stage Playing c h =
      not_over (declared_some h.0 (tally calls) h.1)
      (ap (λ o. is_ended m o (tricks_of (plays_in calls))) (declared (tally calls) h.0 h.1) ∙ h.2)
  by_stage Settled c (inl h) = sym (ap (λ b. b || over) (all_are (tally calls) true true true h.0))
  by_stage Settled c (inr h) =
      sym (ap (λ b. b || over) (declared_some h.0 (tally calls) h.1)
      ∙ ap (λ o. is_ended m o (tricks_of (plays_in calls))) (declared (tally calls) h.0 h.1) ∙ h.2)

cards_of_lem : (q : Trick) (l : Seat) → open_cards q ≡ map (λ (play : Play'). play.1) (prefix q l)
cards_of_lem Empty l = refl
cards_of_lem (One a) l = refl
cards_of_lem (Two a b) l = refl
cards_of_lem (Full a b c) l = refl

-- between two tricks the leader is to play
leads_next : (q : Trick) (l : Seat) → prefix q l ≡ [] → turn_of q l ≡ l
leads_next Empty l e = refl
leads_next (One a) l e = absurd (let z : ◌≡◌ {A = ℕ} 1 0 = ap length e in omega arith)
leads_next (Two a b) l e = absurd (let z : ◌≡◌ {A = ℕ} 2 0 = ap length e in omega arith)
leads_next (Full a b c) l e = refl

module _ (m : Meaning) (pack : List Card) (calls : List Made) (t : Deal) (h : Told m pack calls t) where
  pub settled_is : is_settled t ≡ is_settled_in m calls
  settled_is = by_stage m calls t.common.moment t.common h.known.stage

  leads_at : (w : Moment) → t.common.moment ≡ w → is_settled_in m calls ≡ false → open_of (plays_in calls) ≡ [] → (plays_in calls ≡ [] → ⊥)
      → t.common.turn ≡ leader_in m calls
  leads_at w e live none some = go w e
    where
      early : (v : Moment) → t.common.moment ≡ v → leb (moment_number v) 5 ≡ true → ⊥
      early v f l = some (early_plays m v t.common (tally calls) (plays_in calls) l (subst (λ (x : Moment). StageAt m x t.common (tally calls) (plays_in calls)) f h.known.stage))

      go : (v : Moment) → t.common.moment ≡ v → t.common.turn ≡ leader_in m calls
      go Bidding f = absurd (early Bidding f refl)
      go Hearing f = absurd (early Hearing f refl)
      go Alone f = absurd (early Alone f refl)
      go Deciding f = absurd (early Deciding f refl)
      go Putting f = absurd (early Putting f refl)
      go Announcing f = absurd (early Announcing f refl)
      go Playing f =
          (phase_at t Playing f h.sound).order
          ∙ leads_next t.common.board.trick t.common.board.leader (sym h.board.lies ∙ none) ∙ h.board.leader
      go Settled f = absurd (both_ways _ live (sym settled_is ∙ ap (is_at 7) f))

  pub agreeing : Agrees m pack calls t
  agreeing = record {
    settled = settled_is;
    declarer = ap declarer_of h.known.contract ∙ declarer_with (declarer_in calls) (is_any is_take calls) (announced_in calls);
    contract = h.known.contract;
    bid = h.known.bid;
    taken = λ i. record { declarer = h.board.ours i; defenders = h.board.theirs i };
    leader = h.board.leader;
    opened = cards_of_lem t.common.board.trick t.common.board.leader ∙ ap (map (λ (play : Play'). play.1)) (sym h.board.lies);
    last = h.board.last;
    piles = h.piles;
    leads = leads_at t.common.moment refl;
  }

  pub eyes_of_lem : length (plays_in calls) ≡ 30 → eyes_where is_declarers (pile_in t.piles) + eyes_where is_defenders (pile_in t.piles) ≡ 120
  eyes_of_lem e =
      eyes_make t h.sound
      (omega (
        arith,
        e,
        length_groups (plays_in calls),
        both_sides (is_by m (declarer_in calls)) (tricks_of (plays_in calls)),
        h.board.ours,
        h.board.theirs,
        ap length h.board.lies,
        at_most_two t.common.board.trick t.common.board.leader,
      ))
