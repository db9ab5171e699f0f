-- Each card lies where it is reckoned to lie, call by call.
use Rattle.std.proofs.Common.{◌≡◌, ℕ, zero, suc, ◌<◌, Bool, true, false, cond, ◌||◌, eqb, List, [], ◌∷◌, ◌++◌, map, length, get_or, set, Some, None, Option, sym, refl, ap, ◌∙◌, ⊎_elim, arith}
use Rattle.std.proofs.lemmas.List.{get_or-set_other, get_or-set_same}
use Rattle.std.proofs.lemmas.Bool.{eqb-true, eqb-false, eq-eqb, both_ways, or_cases, or_parts, or_right, or_from, cond-true, cond-false}
use Rattle.cards.specs.declared.dealing.Dealt.{Dealt}
use Rattle.cards.specs.declared.dealing.Dealt.TheVariants.{Hand, Skat}
use Rattle.cards.specs.declared.deck.Card.{Card}
use Rattle.cards.specs.declared.seats.Seat.{Seat}
use Rattle.cards.specs.Deck.{card_number, card_at}
use Rattle.cards.specs.Seats.{following}
use Rattle.cards.proofs.Cardinals.{number_at}
use Rattle.kinds.specs.Meanings.{Meaning}
use Rattle.rules.specs.declared.deals.Common.{Common}
use Rattle.rules.specs.declared.deals.Pile.{Pile}
use Rattle.rules.specs.declared.deals.Pile.TheVariants.{InHand, InSkat, InTrick, WithDeclarer, WithDefenders}
use Rattle.rules.specs.declared.deals.Trick.{Trick}
use Rattle.rules.specs.declared.deals.Trick.TheVariants.{Empty, One, Two, Full}
use Rattle.rules.specs.Board.{declarer_of, is_declarer, taker_of}
use Rattle.rules.specs.Dealing.{pile_for}
use Rattle.rules.specs.Piles.{is_held, holding, pile_in}
use Rattle.rules.specs.Steps.{lifted, gathered, laid, plays}
use Rattle.runs.specs.Reckoning.{Play', Trick', tricks_of, open_of, is_by, is_any, is_card, is_in, side_of, in_tricks, taken_up}
use Rattle.runs.proofs.Boards.{prefix, re, Differ, side_is}
use Rattle.runs.proofs.Counts.{is_open}
use Rattle.runs.proofs.Grouping.{lead, follow, fill}
use Rattle.runs.proofs.Sound.{turn_of}
use Rattle.runs.proofs.Tallies.{any_more, or_false}

-- a card's pile, by the plays and where it would lie unplayed
abbrev pub reckon : Meaning → Option Seat → Card → List Play' → Pile → Pile
reckon m d y ps u = cond (is_any (is_card y) (open_of ps)) InTrick (in_tricks m d y (tricks_of ps) u)

-- what is dealt, taken up or put is not in a trick
pub dealt_closed : (d : Dealt) → is_open (pile_for d) ≡ false
dealt_closed (Hand s) = refl
dealt_closed Skat = refl

pub taken_closed : (o : Option Seat) (b : Bool) (p : Pile) → is_open p ≡ false → is_open (taken_up o b p) ≡ false
taken_closed o b (InHand s) e = refl
taken_closed None b InSkat e = refl
taken_closed (Some s) true InSkat e = refl
taken_closed (Some s) false InSkat e = refl
taken_closed o b InTrick e = e
taken_closed o b WithDeclarer e = refl
taken_closed o b WithDefenders e = refl

pub untaken_up : (o : Option Seat) (p : Pile) → taken_up o false p ≡ p
untaken_up o (InHand s) = refl
untaken_up None InSkat = refl
untaken_up (Some s) InSkat = refl
untaken_up o InTrick = refl
untaken_up o WithDeclarer = refl
untaken_up o WithDefenders = refl

pub taken_up_lem : (s : Seat) (p : Pile) → taken_up (Some s) true p ≡ lifted s p
taken_up_lem s (InHand t) = refl
taken_up_lem s InSkat = refl
taken_up_lem s InTrick = refl
taken_up_lem s WithDeclarer = refl
taken_up_lem s WithDefenders = refl

pub cond_closed : (b : Bool) (p : Pile) → is_open p ≡ false → is_open (cond b InSkat p) ≡ false
cond_closed true p e = refl
cond_closed false p e = e

-- piles of tricks
side_closed : (b : Bool) → is_open (side_of b) ≡ false
side_closed true = refl
side_closed false = refl

side_unheld : (s : Seat) (b : Bool) → is_held s (side_of b) ≡ false
side_unheld s true = refl
side_unheld s false = refl

module _ (m : Meaning) (d : Option Seat) (y : Card) where
  tricks_closed : (ts : List Trick') (u : Pile) → is_open u ≡ false → is_open (in_tricks m d y ts u) ≡ false
  tricks_closed [] u e = e
  tricks_closed (t ∷ ts) u e = go (tricks_closed ts u e) (is_in y t)
    where
      go : is_open (in_tricks m d y ts u) ≡ false → (b : Bool) → is_open (cond b (side_of (is_by m d t)) (in_tricks m d y ts u)) ≡ false
      go rec true = side_closed (is_by m d t)
      go rec false = rec

  tricks_held : (ts : List Trick') (u : Pile) (s : Seat) → is_held s (in_tricks m d y ts u) ≡ true → is_any (is_in y) ts ≡ false
  tricks_held [] u s e = refl
  tricks_held (t ∷ ts) u s e = go (tricks_held ts u s) (is_in y t) refl e
    where
      go : (is_held s (in_tricks m d y ts u) ≡ true → is_any (is_in y) ts ≡ false)
          → (b : Bool) → is_in y t ≡ b → is_held s (cond b (side_of (is_by m d t)) (in_tricks m d y ts u)) ≡ true → (is_in y t || is_any (is_in y) ts) ≡ false
      go rec true f e = absurd (both_ways _ (side_unheld s (is_by m d t)) e)
      go rec false f e = or_from _ _ f (rec e)

  tricks_more : (ts : List Trick') (t : Trick') (u : Pile) → in_tricks m d y (ts ++ t ∷ []) u ≡ in_tricks m d y ts (cond (is_in y t) (side_of (is_by m d t)) u)
  tricks_more [] t u = refl
  tricks_more (x ∷ ts) t u = ap (λ p. cond (is_in y x) (side_of (is_by m d x)) p) (tricks_more ts t u)

  tricks_out : (ts : List Trick') (u : Pile) → is_any (is_in y) ts ≡ false → in_tricks m d y ts u ≡ u
  tricks_out [] u e = refl
  tricks_out (t ∷ ts) u e = let p = or_parts _ _ e in cond-false _ _ _ p.0 ∙ tricks_out ts u p.1

  pub reckon_open : (ps : List Play') (u : Pile) → is_open u ≡ false → is_open (reckon m d y ps u) ≡ is_any (is_card y) (open_of ps)
  reckon_open ps u e = go (is_any (is_card y) (open_of ps))
    where
      go : (b : Bool) → is_open (cond b InTrick (in_tricks m d y (tricks_of ps) u)) ≡ b
      go true = refl
      go false = tricks_closed (tricks_of ps) u e

  -- a card in a hand was not played
  pub reckon_held : (ps : List Play') (u : Pile) (s : Seat) → is_held s (reckon m d y ps u) ≡ true
      → (is_any (is_card y) (open_of ps) ≡ false) × (is_any (is_in y) (tricks_of ps) ≡ false)
  reckon_held ps u s e = go (is_any (is_card y) (open_of ps)) refl e
    where
      go : (b : Bool) → is_any (is_card y) (open_of ps) ≡ b → is_held s (cond b InTrick (in_tricks m d y (tricks_of ps) u)) ≡ true
          → (is_any (is_card y) (open_of ps) ≡ false) × (is_any (is_in y) (tricks_of ps) ≡ false)
      go true f e = absurd (both_ways false refl e)
      go false f e = (f, tricks_held (tricks_of ps) u s e)

-- a card's pile after a card is laid
pub held_pile : (s : Seat) (ps : List Pile) (x : ℕ) → get_or (holding s ps) x false ≡ true → is_held s (get_or ps x InSkat) ≡ true
held_pile s [] x h = h
held_pile s (p ∷ ps) zero h = h
held_pile s (p ∷ ps) (suc x) h = held_pile s ps x h

get_gathered : (o : Bool) (ps : List Pile) (k : ℕ) → get_or (map (gathered o) ps) k InSkat ≡ gathered o (get_or ps k InSkat)
get_gathered o [] k = refl
get_gathered o (p ∷ ps) zero = refl
get_gathered o (p ∷ ps) (suc k) = get_gathered o ps k

not_gathered : (p : Pile) (o : Bool) → is_open p ≡ false → gathered o p ≡ p
not_gathered (InHand t) o e = refl
not_gathered InSkat o e = refl
not_gathered InTrick o e = absurd (both_ways true e refl)
not_gathered WithDeclarer o e = refl
not_gathered WithDefenders o e = refl

-- all that is known of the cards before a play: the seat holds card k
pub record Ready (m : Meaning) (d : Option Seat) (U : Card → Pile) (piles : List Pile) (ps : List Play') (s : Seat) (k : ℕ) : Type 0 where
  pub closed : (y : Card) → is_open (U y) ≡ false
  pub lies : (y : Card) → pile_in piles y ≡ reckon m d y ps (U y)
  pub apart : (y : Card) → is_any (is_card y) (open_of ps) ≡ true → is_any (is_in y) (tricks_of ps) ≡ false
  pub wide : length piles ≡ 32
  pub small : k < 32
  pub has : get_or (holding s piles) k false ≡ true

module _ (m : Meaning) (d : Option Seat) (U : Card → Pile) (piles : List Pile) (ps : List Play') (s : Seat) (k : ℕ) (r : Ready m d U piles ps s k) where
  -- the held card is neither in the open trick nor in a full one
  pub unplayed_card : (y : Card) → eqb (card_number y) k ≡ true → (is_any (is_card y) (open_of ps) ≡ false) × (is_any (is_in y) (tricks_of ps) ≡ false)
  unplayed_card y e =
      reckon_held m d y ps (U y) s
      (ap (is_held s) (sym (r.lies y)) ∙ ap (λ n. is_held s (get_or piles n InSkat)) (eqb-true _ _ e) ∙ held_pile s piles k r.has)

  is_card_lem : (y : Card) → is_card y (s, card_at k) ≡ eqb (card_number y) k
  is_card_lem y = ap (eqb (card_number y)) (number_at k r.small)

  now_open : (y : Card) → eqb (card_number y) k ≡ true → pile_in (set piles k InTrick) y ≡ InTrick
  now_open y e =
      let l : k < length piles = omega (arith, r.wide, r.small) in
      ap (λ n. get_or (set piles k InTrick) n InSkat) (eqb-true _ _ e) ∙ get_or-set_same piles k InTrick InSkat l

  as_before : (y : Card) → eqb (card_number y) k ≡ false → pile_in (set piles k InTrick) y ≡ reckon m d y ps (U y)
  as_before y e = get_or-set_other piles k (card_number y) InTrick InSkat (eqb-false _ _ e) ∙ r.lies y

  -- the open trick grows
  module _ (ts : tricks_of (ps ++ (s, card_at k) ∷ []) ≡ tricks_of ps) (os : open_of (ps ++ (s, card_at k) ∷ []) ≡ open_of ps ++ (s, card_at k) ∷ []) where
    now : (y : Card) → is_any (is_card y) (open_of (ps ++ (s, card_at k) ∷ [])) ≡ (is_any (is_card y) (open_of ps) || eqb (card_number y) k)
    now y = ap (is_any (is_card y)) os ∙ any_more (is_card y) (open_of ps) (s, card_at k) ∙ ap (λ b. is_any (is_card y) (open_of ps) || b) (is_card_lem y)

    grown : (y : Card) → reckon m d y (ps ++ (s, card_at k) ∷ []) (U y)
        ≡ cond (is_any (is_card y) (open_of ps) || eqb (card_number y) k) InTrick (in_tricks m d y (tricks_of ps) (U y))
    grown y = λ i. cond (now y i) InTrick (in_tricks m d y (ts i) (U y))

    pub lays_more : (y : Card) → pile_in (set piles k InTrick) y ≡ reckon m d y (ps ++ (s, card_at k) ∷ []) (U y)
    lays_more y = go (eqb (card_number y) k) refl ∙ sym (grown y)
      where
        go : (b : Bool) → eqb (card_number y) k ≡ b
            → pile_in (set piles k InTrick) y ≡ cond (is_any (is_card y) (open_of ps) || eqb (card_number y) k) InTrick (in_tricks m d y (tricks_of ps) (U y))
        go true e = now_open y e ∙ sym (cond-true _ _ _ (or_right _ _ e))
        go false e =
            as_before y e
            ∙ ap (λ b. cond b InTrick (in_tricks m d y (tricks_of ps) (U y))) (sym (ap (λ b. is_any (is_card y) (open_of ps) || b) e ∙ or_false _))

    pub lays_apart : (y : Card) → is_any (is_card y) (open_of (ps ++ (s, card_at k) ∷ [])) ≡ true → is_any (is_in y) (tricks_of (ps ++ (s, card_at k) ∷ [])) ≡ false
    lays_apart y e =
        ap (is_any (is_in y)) ts
        ∙ ⊎_elim (λ f. r.apart y f) (λ f. (unplayed_card y f).1) (or_cases _ _ (sym (now y) ∙ e))

  -- the trick is filled
  module _ (x z : Play') (o : Bool) (os : open_of ps ≡ x ∷ (z ∷ [])) (side : o ≡ is_by m d (x, z, (s, card_at k)))
      (ts : tricks_of (ps ++ (s, card_at k) ∷ []) ≡ tricks_of ps ++ (x, z, (s, card_at k)) ∷ []) (none : open_of (ps ++ (s, card_at k) ∷ []) ≡ []) where
    filled : (y : Card) → reckon m d y (ps ++ (s, card_at k) ∷ []) (U y)
        ≡ in_tricks m d y (tricks_of ps) (cond (is_in y (x, z, (s, card_at k))) (side_of o) (U y))
    filled y =
        (λ i. cond (is_any (is_card y) (none i)) InTrick (in_tricks m d y (ts i) (U y)))
        ∙ tricks_more m d y (tricks_of ps) (x, z, (s, card_at k)) (U y)
        ∙ ap (λ b. in_tricks m d y (tricks_of ps) (cond (is_in y (x, z, (s, card_at k))) (side_of b) (U y))) (sym side)

    -- a card of the trick, and of none before
    joins : (y : Card) → is_in y (x, z, (s, card_at k)) ≡ true → is_any (is_in y) (tricks_of ps) ≡ false
        → side_of o ≡ reckon m d y (ps ++ (s, card_at k) ∷ []) (U y)
    joins y e out =
        sym (filled y ∙ ap (λ b. in_tricks m d y (tricks_of ps) (cond b (side_of o) (U y))) e ∙ tricks_out m d y (tricks_of ps) (side_of o) out)

    either_open : (y : Card) → is_any (is_card y) (open_of ps) ≡ (is_card y x || (is_card y z || false))
    either_open y = ap (is_any (is_card y)) os

    within : (y : Card) → is_any (is_card y) (open_of ps) ≡ true → is_in y (x, z, (s, card_at k)) ≡ true
    within y e = go (is_card y x) (is_card y z) (is_card y (s, card_at k)) (sym (either_open y) ∙ e)
      where
        go : (a b c : Bool) → (a || (b || false)) ≡ true → (a || (b || c)) ≡ true
        go true b c e = refl
        go false true c e = refl
        go false false c e = absurd (both_ways false refl e)

    outside : (y : Card) → is_any (is_card y) (open_of ps) ≡ false → eqb (card_number y) k ≡ false → is_in y (x, z, (s, card_at k)) ≡ false
    outside y e f = go (is_card y x) (is_card y z) (is_card y (s, card_at k)) (sym (either_open y) ∙ e) (is_card_lem y ∙ f)
      where
        go : (a b c : Bool) → (a || (b || false)) ≡ false → c ≡ false → (a || (b || c)) ≡ false
        go true b c e f = e
        go false true c e f = e
        go false false c e f = f

    mine : (y : Card) → eqb (card_number y) k ≡ true → is_in y (x, z, (s, card_at k)) ≡ true
    mine y e = or_right (is_card y x) _ (or_right (is_card y z) _ (is_card_lem y ∙ e))

    pub fills_more : (y : Card) → pile_in (map (gathered o) (set piles k InTrick)) y ≡ reckon m d y (ps ++ (s, card_at k) ∷ []) (U y)
    fills_more y = get_gathered o (set piles k InTrick) (card_number y) ∙ go (eqb (card_number y) k) refl
      where
        old : (b : Bool) → is_any (is_card y) (open_of ps) ≡ b → eqb (card_number y) k ≡ false
            → gathered o (cond b InTrick (in_tricks m d y (tricks_of ps) (U y))) ≡ reckon m d y (ps ++ (s, card_at k) ∷ []) (U y)
        old true e f = joins y (within y e) (r.apart y e)
        old false e f =
            not_gathered (in_tricks m d y (tricks_of ps) (U y)) o (tricks_closed m d y (tricks_of ps) (U y) (r.closed y))
            ∙ sym (filled y ∙ ap (λ b. in_tricks m d y (tricks_of ps) (cond b (side_of o) (U y))) (outside y e f))

        go : (b : Bool) → eqb (card_number y) k ≡ b → gathered o (get_or (set piles k InTrick) (card_number y) InSkat) ≡ reckon m d y (ps ++ (s, card_at k) ∷ []) (U y)
        go true e = ap (gathered o) (now_open y e) ∙ joins y (mine y e) (unplayed_card y e).1
        go false e = ap (gathered o) (as_before y e) ∙ old (is_any (is_card y) (open_of ps)) refl e

    pub fills_apart : (y : Card) → is_any (is_card y) (open_of (ps ++ (s, card_at k) ∷ [])) ≡ true → is_any (is_in y) (tricks_of (ps ++ (s, card_at k) ∷ [])) ≡ false
    fills_apart y e = absurd (both_ways _ (ap (is_any (is_card y)) none) e)

-- the two cards of an open trick differ
abbrev pub Distinct : Trick → Type 0
Distinct Empty = Unit {0}
Distinct (One a) = Unit {0}
Distinct (Two a b) = a ≡ b → ⊥
Distinct (Full a b f) = Unit {0}

pub distinct_step : (m : Meaning) (c : Common) (s : Seat) (x : Card) (q : Trick) → Differ q x → Distinct (plays m (re c q) s x q).board.trick
distinct_step m c s x Empty h = tt
distinct_step m c s x (One a) h = h
distinct_step m c s x (Two a b) h = tt
distinct_step m c s x (Full a b f) h = tt

-- a play, by the trick that lies
module _ (m : Meaning) (d : Option Seat) (U : Card → Pile) (c : Common) (piles : List Pile) (ps : List Play') (s : Seat) (k : ℕ) (r : Ready m d U piles ps s k) where
  abbrev Lies : List Pile → Type 0
  Lies piles' =
      ((y : Card) → pile_in piles' y ≡ reckon m d y (ps ++ (s, card_at k) ∷ []) (U y))
      × ((y : Card) → is_any (is_card y) (open_of (ps ++ (s, card_at k) ∷ [])) ≡ true → is_any (is_in y) (tricks_of (ps ++ (s, card_at k) ∷ [])) ≡ false)

  leads : open_of ps ≡ [] → Lies (set piles k InTrick)
  leads e =
      let g = lead ps (s, card_at k) e in
      let os = g.1 ∙ ap (λ qs. qs ++ (s, card_at k) ∷ []) (sym e) in
      (lays_more m d U piles ps s k r g.0 os, lays_apart m d U piles ps s k r g.0 os)

  pub lies_step : (q : Trick) → declarer_of c.contract ≡ d → s ≡ turn_of q c.board.leader → open_of ps ≡ prefix q c.board.leader
      → Lies (laid m (re c q) k q piles)
  lies_step Empty isd t e = leads e
  lies_step (One a) isd t e =
      let g = follow ps (c.board.leader, a) (s, card_at k) e in
      let os = g.1 ∙ ap (λ qs. qs ++ (s, card_at k) ∷ []) (sym e) in
      (lays_more m d U piles ps s k r g.0 os, lays_apart m d U piles ps s k r g.0 os)
  lies_step (Two a b) isd t e =
      let g = fill ps (c.board.leader, a) (following c.board.leader, b) (s, card_at k) e in
      let side = side_is m d c s (card_at k) ps a b t isd in
      let o = is_declarer c.contract (taker_of m c.board.leader a b (card_at k)) in
      (fills_more m d U piles ps s k r _ _ o e side g.0 g.1, fills_apart m d U piles ps s k r _ _ o e side g.0 g.1)
  lies_step (Full a b f) isd t e = leads e

  -- the cards of the open trick differ from the one that is played
  not_open : (a : Card) → is_any (is_card a) (open_of ps) ≡ true → a ≡ card_at k → ⊥
  not_open a e f =
      both_ways _ (unplayed_card m d U piles ps s k r a (ap (λ x. eqb (card_number x) k) f ∙ eq-eqb _ _ (number_at k r.small))).0 e

  own_card : (a : Card) → eqb (card_number a) (card_number a) ≡ true
  own_card a = eq-eqb _ _ refl

  pub differs : (q : Trick) → open_of ps ≡ prefix q c.board.leader → Distinct q → Differ q (card_at k)
  differs Empty e t = tt
  differs (One a) e t = not_open a (ap (is_any (is_card a)) e ∙ ap (λ b. b || false) (own_card a))
  differs (Two a b) e t = (
    t,
    not_open a (ap (is_any (is_card a)) e ∙ ap (λ x. x || (is_card a (c.board.leader, b) || false)) (own_card a)),
    not_open b (ap (is_any (is_card b)) e ∙ or_right _ _ (ap (λ x. x || false) (own_card b))),
  )
  differs (Full a b f) e t = tt
