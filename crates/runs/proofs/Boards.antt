-- The board agrees with the plays so far, card by card.
use Rattle.std.proofs.Common.{◌≡◌, ℕ, suc, ◌+◌, Bool, true, false, cond, not, ◌&&◌, ◌||◌, eqb, List, [], ◌∷◌, ◌++◌, length, count_by, Option, sym, refl, ap, ◌∙◌, subst, arith}
use Rattle.std.specs.List.{AllByRecursion}
use Rattle.std.proofs.ByRecursion.{All-push}
use Rattle.std.proofs.lemmas.List.{length_push}
use Rattle.std.proofs.lemmas.Bool.{or_parts}
use Rattle.cards.specs.declared.deck.Card.{Card}
use Rattle.cards.specs.declared.seats.Seat.{Seat}
use Rattle.cards.specs.declared.seats.Seat.TheVariants.{Forehand}
use Rattle.cards.specs.Seats.{following}
use Rattle.kinds.specs.Meanings.{Meaning}
use Rattle.rules.specs.declared.deals.Board.{Board}
use Rattle.rules.specs.declared.deals.Common.{Common}
use Rattle.rules.specs.declared.deals.Trick.{Trick}
use Rattle.rules.specs.declared.deals.Trick.TheVariants.{Empty, One, Two, Full}
use Rattle.rules.specs.Bidding.{fresh_board}
use Rattle.rules.specs.Board.{declarer_of, is_the, is_declarer, last_cards, is_unbeaten, taker_of}
use Rattle.rules.specs.Steps.{plays, settles}
use Rattle.runs.specs.Law.{Lawful}
use Rattle.runs.specs.Reckoning.{Play', Trick', tricks_of, open_of, takes, is_by, is_against, is_any, leader_after, last_under, InTurn, OneTakes}
use Rattle.runs.proofs.Best.{one_takes}
use Rattle.runs.proofs.Grouping.{lead, follow, fill, leader_more, last_more, count_more, both_sides, next_from, turn_more}
use Rattle.runs.proofs.Sound.{turn_of}
use Rattle.runs.proofs.Tallies.{any_more}

-- the open trick, with who played it
abbrev pub prefix : Trick → Seat → List Play'
prefix Empty l = []
prefix (One a) l = (l, a) ∷ []
prefix (Two a b) l = (l, a) ∷ ((following l, b) ∷ [])
prefix (Full a b c) l = []

pub record OnBoard (m : Meaning) (d : Option Seat) (b : Board) (ps : List Play') : Type 0 where
  pub lies : open_of ps ≡ prefix b.trick b.leader
  pub last : last_cards b.trick ≡ last_under (open_of ps) (tricks_of ps)
  pub ours : b.taken.declarer ≡ count_by (is_by m d) (tricks_of ps)
  pub theirs : b.taken.defenders ≡ count_by (is_against m d) (tricks_of ps)
  pub leader : b.leader ≡ leader_after m Forehand (tricks_of ps)
  pub turns : InTurn m Forehand ps
  pub takers : Lawful m → AllByRecursion (OneTakes m) (tricks_of ps)

pub fresh_board_lem : (m : Meaning) (d : Option Seat) → OnBoard m d fresh_board []
fresh_board_lem m d = record { lies = refl; last = refl; ours = refl; theirs = refl; leader = refl; turns = tt; takers = λ law. tt }

-- the table with another trick
abbrev pub re : Common → Trick → Common
re c q = record {
  moment = c.moment;
  turn = c.turn;
  pair = c.pair;
  bid = c.bid;
  contract = c.contract;
  board = record { taken = c.board.taken; leader = c.board.leader; trick = q };
}

-- the cards of the open trick and the next one are different
abbrev pub Differ : Trick → Card → Type 0
Differ Empty x = Unit {0}
Differ (One a) x = a ≡ x → ⊥
Differ (Two a b) x = (a ≡ b → ⊥) × (a ≡ x → ⊥) × (b ≡ x → ⊥)
Differ (Full a b c) x = Unit {0}

next_open : (q : Trick) (l : Seat) → next_from l (prefix q l) ≡ turn_of q l
next_open Empty l = refl
next_open (One a) l = refl
next_open (Two a b) l = refl
next_open (Full a b c) l = refl

-- whether the tricks settle the deal
abbrev pub is_ended : Meaning → Option Seat → List Trick' → Bool
is_ended m d ts = eqb (length ts) 10 || (m.ends && is_any (is_by m d) ts)

module _ (m : Meaning) (d : Option Seat) (c : Common) (s : Seat) (x : Card) (ps : List Play') where
  turned : (q : Trick) → s ≡ turn_of q c.board.leader → OnBoard m d (re c q).board ps → InTurn m Forehand (ps ++ (s, x) ∷ [])
  turned q e h =
      turn_more m Forehand ps (s, x) h.turns
      (e ∙ sym (next_open q c.board.leader) ∙ ap (next_from c.board.leader) (sym h.lies)
      ∙ ap (λ l. next_from l (open_of ps)) h.leader)

  -- the open trick grows
  grows : (q q' : Trick) (l : Seat) (y : Play') (ys : List Play') → s ≡ turn_of q c.board.leader → OnBoard m d (re c q).board ps
      → l ≡ c.board.leader → last_cards q' ≡ [] → prefix q' l ≡ y ∷ ys
      → tricks_of (ps ++ (s, x) ∷ []) ≡ tricks_of ps → open_of (ps ++ (s, x) ∷ []) ≡ y ∷ ys
      → OnBoard m d (record { taken = c.board.taken; leader = l; trick = q' }) (ps ++ (s, x) ∷ [])
  grows q q' l y ys e h el none pre ts os =
      record {
        lies = os ∙ sym pre;
        last = none ∙ ap (λ o. last_under o (tricks_of (ps ++ (s, x) ∷ []))) (sym os);
        ours = h.ours ∙ ap (count_by (is_by m d)) (sym ts);
        theirs = h.theirs ∙ ap (count_by (is_against m d)) (sym ts);
        leader = el ∙ h.leader ∙ ap (leader_after m Forehand) (sym ts);
        turns = turned q e h;
        takers = λ law. subst (λ (us : List Trick'). AllByRecursion (OneTakes m) us) (sym ts) (h.takers law);
      }

  module _ (a b : Card) (e : s ≡ following (following c.board.leader)) where
    abbrev third : Trick'
    third = ((c.board.leader, a), (following c.board.leader, b), (s, x))

    pub taker_is : taker_of m c.board.leader a b x ≡ takes m third
    unfolding taker_of
    taker_is =
        ap (λ y. cond (is_unbeaten m a a b x) c.board.leader (cond (is_unbeaten m a b a x) (following c.board.leader) y)) (sym e)

    module _ (isd : declarer_of c.contract ≡ d) where
      pub side_is : is_declarer c.contract (taker_of m c.board.leader a b x) ≡ is_by m d third
      side_is = (λ i. is_the (isd i) (taker_is i))

      cond_not : (o : Bool) (n : ℕ) → cond o n (suc n) ≡ cond (not o) (suc n) n
      cond_not true n = refl
      cond_not false n = refl

      fills_up : OnBoard m d (re c (Two a b)).board ps → Differ (Two a b) x
          → tricks_of (ps ++ (s, x) ∷ []) ≡ tricks_of ps ++ third ∷ [] → open_of (ps ++ (s, x) ∷ []) ≡ []
          → OnBoard m d (plays m (re c (Two a b)) s x (Two a b)).board (ps ++ (s, x) ∷ [])
      fills_up h df ts os =
          record {
            lies = os;
            last = sym (last_more [] (tricks_of ps) third) ∙ ap (last_under []) (sym ts) ∙ ap (λ o. last_under o (tricks_of (ps ++ (s, x) ∷ []))) (sym os);
            ours =
                ap (λ o. cond o (suc c.board.taken.declarer) c.board.taken.declarer) side_is
                ∙ ap (λ n. cond (is_by m d third) (suc n) n) h.ours
                ∙ sym (count_more (is_by m d) (tricks_of ps) third (is_by m d third) refl) ∙ ap (count_by (is_by m d)) (sym ts);
            theirs =
                ap (λ o. cond o c.board.taken.defenders (suc c.board.taken.defenders)) side_is
                ∙ cond_not (is_by m d third) c.board.taken.defenders
                ∙ ap (λ n. cond (is_against m d third) (suc n) n) h.theirs
                ∙ sym (count_more (is_against m d) (tricks_of ps) third (is_against m d third) refl) ∙ ap (count_by (is_against m d)) (sym ts);
            leader = taker_is ∙ sym (leader_more m Forehand (tricks_of ps) third) ∙ ap (leader_after m Forehand) (sym ts);
            turns = turned (Two a b) e h;
            takers = λ law.
                subst (λ (us : List Trick'). AllByRecursion (OneTakes m) us) (sym ts)
                (All-push (OneTakes m) (tricks_of ps) third (h.takers law)
                (one_takes m law c.board.leader (following c.board.leader) s a b x df.0 df.1 df.2));
          }

      -- a filled trick settles the deal where the reckoning says so
      and_or : (f b o : Bool) → (f && b) ≡ false → (f && o) ≡ (f && (b || o))
      and_or true b o h = ap (λ z. z || o) (sym h)
      and_or false b o h = refl

      pub settles_is : OnBoard m d (re c (Two a b)).board ps → tricks_of (ps ++ (s, x) ∷ []) ≡ tricks_of ps ++ third ∷ [] → is_ended m d (tricks_of ps) ≡ false
          → settles m (is_declarer c.contract (taker_of m c.board.leader a b x)) (suc (c.board.taken.declarer + c.board.taken.defenders))
          ≡ is_ended m d (tricks_of (ps ++ (s, x) ∷ []))
      settles_is h ts live =
          let sides = both_sides (is_by m d) (tricks_of ps) in
          let n : suc (c.board.taken.declarer + c.board.taken.defenders) ≡ length (tricks_of ps ++ third ∷ []) =
          omega (arith, sides, h.ours, h.theirs, length_push (tricks_of ps) third) in
          let more : (m.ends && is_by m d third) ≡ (m.ends && is_any (is_by m d) (tricks_of ps ++ third ∷ [])) =
          and_or m.ends (is_any (is_by m d) (tricks_of ps)) (is_by m d third) (or_parts _ _ live).1
          ∙ ap (λ z. m.ends && z) (sym (any_more (is_by m d) (tricks_of ps) third)) in
          (λ i. eqb (n i) 10 || (m.ends && side_is i)) ∙ ap (λ z. eqb (length (tricks_of ps ++ third ∷ [])) 10 || z) more
          ∙ ap (is_ended m d) (sym ts)

  pub board_step : (q : Trick) → declarer_of c.contract ≡ d → s ≡ turn_of q c.board.leader → Differ q x → OnBoard m d (re c q).board ps
      → OnBoard m d (plays m (re c q) s x q).board (ps ++ (s, x) ∷ [])
  board_step Empty isd e df h =
      let g = lead ps (s, x) h.lies in grows Empty (One x) s (s, x) [] e h e refl refl g.0 g.1
  board_step (One a) isd e df h =
      let g = follow ps (c.board.leader, a) (s, x) h.lies in
      grows (One a) (Two a x) c.board.leader (c.board.leader, a) ((s, x) ∷ []) e h refl refl
      (ap (λ y. (c.board.leader, a) ∷ ((y, x) ∷ [])) (sym e)) g.0 g.1
  board_step (Two a b) isd e df h =
      let g = fill ps (c.board.leader, a) (following c.board.leader, b) (s, x) h.lies in fills_up a b e isd h df g.0 g.1
  board_step (Full a b f) isd e df h =
      let g = lead ps (s, x) h.lies in grows (Full a b f) (One x) s (s, x) [] e h e refl refl g.0 g.1
