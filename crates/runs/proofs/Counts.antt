-- How many cards a hand has, above all after the deal.
use Rattle.std.proofs.Common.{◌≡◌, ℕ, zero, suc, ◌+◌, ◌<◌, ◌≤◌, Bool, true, false, cond, eqb, List, [], ◌∷◌, map, length, get_or, set, replicate, sym, refl, ap, ◌∙◌, subst, arith}
use Rattle.std.specs.List.{range_with_len}
use Rattle.std.proofs.lemmas.List.FromFn.{get_or-map-range_with_len}
use Rattle.std.proofs.lemmas.List.{map-set, get_or-set_same, get_or-set_other, length-set, length-map, get_or-map, get_or-replicate, ext_get_or}
use Rattle.std.proofs.lemmas.List.Sums.{sum_by-cons}
use Rattle.std.proofs.lemmas.Bool.{eq-eqb, eqb-true, eqb-false}
use Rattle.cards.specs.declared.deck.Card.{Card}
use Rattle.cards.specs.declared.seats.Seat.{Seat}
use Rattle.cards.specs.declared.seats.Seat.TheVariants.{Forehand, Middlehand, Rearhand}
use Rattle.cards.specs.Deck.{card_number, card_at}
use Rattle.cards.specs.Dealing.{receiver}
use Rattle.cards.specs.Packs.{times}
use Rattle.cards.proofs.Cardinals.{card_below, number_at, card_back}
use Rattle.rules.specs.declared.deals.Pile.{Pile}
use Rattle.rules.specs.declared.deals.Pile.TheVariants.{InHand, InSkat, InTrick, WithDeclarer, WithDefenders}
use Rattle.rules.specs.Dealing.{IsCutPack, position_of, pile_for, dealt_to, start}
use Rattle.rules.specs.Piles.{is_held, is_in_skat, holding, skat_of, deck, pile_in}
use Rattle.rules.specs.Steps.{lifted, gathered}
use Rattle.runs.proofs.Facts.{same_refl}

abbrev pub bit : Bool → ℕ
bit b = cond b 1 0

abbrev pub ones : List Bool → ℕ
ones [] = 0
ones (b ∷ bs) = bit b + ones bs

abbrev pub is_open : Pile → Bool
is_open (InHand t) = false
is_open InSkat = false
is_open InTrick = true
is_open WithDeclarer = false
is_open WithDefenders = false

abbrev pub lying : List Pile → List Bool
lying ps = map is_open ps

pub ones_set_false : (bs : List Bool) (k : ℕ) → ones (set bs k false) + bit (get_or bs k false) ≡ ones bs
ones_set_false [] k = refl
ones_set_false (b ∷ bs) zero = omega arith
ones_set_false (b ∷ bs) (suc k) = omega (arith, ones_set_false bs k)

pub ones_set_true : (bs : List Bool) (k : ℕ) → ones (set bs k true) + bit (get_or bs k true) ≡ ones bs + 1
ones_set_true [] k = refl
ones_set_true (b ∷ bs) zero = omega arith
ones_set_true (b ∷ bs) (suc k) = omega (arith, ones_set_true bs k)

lifted_bits : (v : Seat) (p : Pile) → bit (is_held v (lifted v p)) ≡ bit (is_held v p) + bit (is_in_skat p)
lifted_bits v (InHand t) = omega arith
lifted_bits v InSkat = ap bit (same_refl v)
lifted_bits v InTrick = refl
lifted_bits v WithDeclarer = refl
lifted_bits v WithDefenders = refl

pub ones_lifted : (v : Seat) (ps : List Pile) → ones (holding v (map (lifted v) ps)) ≡ ones (holding v ps) + ones (skat_of ps)
ones_lifted v [] = refl
ones_lifted v (p ∷ ps) = omega (arith, lifted_bits v p, ones_lifted v ps)

pub open_gathered : (o : Bool) (p : Pile) → is_open (gathered o p) ≡ false
open_gathered o (InHand t) = refl
open_gathered o InSkat = refl
open_gathered true InTrick = refl
open_gathered false InTrick = refl
open_gathered o WithDeclarer = refl
open_gathered o WithDefenders = refl

pub none_gathered : (o : Bool) (ps : List Pile) → ones (lying (map (gathered o) ps)) ≡ 0
none_gathered o [] = refl
none_gathered o (p ∷ ps) = let z : bit (is_open (gathered o p)) ≡ 0 = ap bit (open_gathered o p) in omega (arith, z, none_gathered o ps)

-- the deal: ten cards each, and two in the skat
pub record Even (ps : List Pile) : Type 0 where
  pub hands : (s : Seat) → ones (holding s ps) ≡ 10
  pub skat : ones (skat_of ps) ≡ 2
  pub none : ones (lying ps) ≡ 0

-- cards laid out one by one, each on its pile
abbrev spread : List ℕ → List Pile → List Pile
spread [] ps = replicate 32 InSkat
spread (k ∷ ks) [] = replicate 32 InSkat
spread (k ∷ ks) (p ∷ ps) = set (spread ks ps) k p

abbrev places : List Pile
places = map (λ i. pile_for (receiver i)) (range_with_len 0 32)

abbrev Absent : ℕ → List ℕ → Type 0
Absent k [] = Unit {0}
Absent k (j ∷ js) = (k ≡ j → ⊥) × Absent k js

abbrev Apart : List ℕ → Type 0
Apart [] = Unit {0}
Apart (k ∷ ks) = (k < 32) × Absent k ks × Apart ks

abbrev count : (Pile → Bool) → List Pile → ℕ
count f [] = 0
count f (p ∷ ps) = bit (f p) + count f ps

length_spread : (ks : List ℕ) (ps : List Pile) → length (spread ks ps) ≡ 32
length_spread [] ps = refl
length_spread (k ∷ ks) [] = refl
length_spread (k ∷ ks) (p ∷ ps) = length-set (spread ks ps) k p ∙ length_spread ks ps

ones_set : (bs : List Bool) (k : ℕ) (b : Bool) → k < length bs → ones (set bs k b) + bit (get_or bs k false) ≡ ones bs + bit b
ones_set [] k b h = absurd (omega arith)
ones_set (x ∷ bs) zero b h = omega arith
ones_set (x ∷ bs) (suc k) b h = let l : k < length bs = omega arith in omega (arith, ones_set bs k b l)

spread_absent : (ks : List ℕ) (ps : List Pile) (k : ℕ) → k < 32 → Absent k ks → get_or (spread ks ps) k InSkat ≡ InSkat
spread_absent [] ps k h a = get_or-replicate 32 k InSkat InSkat h
spread_absent (j ∷ ks) [] k h a = get_or-replicate 32 k InSkat InSkat h
spread_absent (j ∷ ks) (p ∷ ps) k h a = get_or-set_other (spread ks ps) j k p InSkat a.0 ∙ spread_absent ks ps k h a.1

-- one more card is dealt
spread_one : (f : Pile → Bool) (k : ℕ) (ks : List ℕ) (p : Pile) (ps : List Pile) → k < 32 → Absent k ks
    → ones (map f (spread (k ∷ ks) (p ∷ ps))) + bit (f InSkat) ≡ ones (map f (spread ks ps)) + bit (f p)
spread_one f k ks p ps h a =
    let l : k < length (spread ks ps) = omega (arith, length_spread ks ps) in
    let l' : k < length (map f (spread ks ps)) = omega (arith, length-map (spread ks ps) f) in
    let e : get_or (map f (spread ks ps)) k false ≡ f InSkat = get_or-map f (spread ks ps) k InSkat false l ∙ ap f (spread_absent ks ps k h a) in
    ap (λ bs. ones bs + bit (f InSkat)) (map-set f (spread ks ps) k p)
    ∙ ap (λ b. ones (set (map f (spread ks ps)) k (f p)) + bit b) (sym e)
    ∙ ones_set (map f (spread ks ps)) k (f p) l'

spread_few : (f : Pile → Bool) → bit (f InSkat) ≡ 0 → ones (map f (replicate 32 InSkat)) ≡ 0
    → (ks : List ℕ) (ps : List Pile) → length ks ≡ length ps → Apart ks → ones (map f (spread ks ps)) ≡ count f ps
spread_few f z y [] [] e a = y
spread_few f z y [] (p ∷ ps) e a = absurd (omega arith)
spread_few f z y (k ∷ ks) [] e a = absurd (omega arith)
spread_few f z y (k ∷ ks) (p ∷ ps) e a =
    let l : length ks ≡ length ps = omega arith in
    omega (arith, spread_one f k ks p ps a.0 a.1, spread_few f z y ks ps l a.2)

spread_left : (f : Pile → Bool) → bit (f InSkat) ≡ 1 → ones (map f (replicate 32 InSkat)) ≡ 32
    → (ks : List ℕ) (ps : List Pile) → length ks ≡ length ps → Apart ks → ones (map f (spread ks ps)) + length ks ≡ count f ps + 32
spread_left f z y [] [] e a = omega arith
spread_left f z y [] (p ∷ ps) e a = absurd (omega arith)
spread_left f z y (k ∷ ks) [] e a = absurd (omega arith)
spread_left f z y (k ∷ ks) (p ∷ ps) e a =
    let l : length ks ≡ length ps = omega arith in
    omega (arith, spread_one f k ks p ps a.0 a.1, spread_left f z y ks ps l a.2)

dealt_hand : (s : Seat) → count (is_held s) places ≡ 10
dealt_hand Forehand = refl
dealt_hand Middlehand = refl
dealt_hand Rearhand = refl

-- the cards of a cut pack are apart
times_cons : (n k : ℕ) (ks : List ℕ) → times n (k ∷ ks) ≡ bit (eqb n k) + times n ks
times_cons n k ks = sum_by-cons (λ x. bit (eqb n x)) k ks

absent_from : (n : ℕ) (ks : List ℕ) → times n ks ≡ 0 → Absent n ks
absent_from n [] e = tt
absent_from n (k ∷ ks) e =
    let z = times_cons n k ks in
    let none : times n ks ≡ 0 = omega arith in (
      (λ same. let y : bit (eqb n k) ≡ 1 = ap bit (eq-eqb n k same) in omega arith),
      absent_from n ks none,
    )

apart_from : (pack : List Card) → ((c : Card) → times (card_number c) (map card_number pack) ≤ 1) → Apart (map card_number pack)
apart_from [] once = tt
apart_from (c ∷ pack) once =
    let z = times_cons (card_number c) (card_number c) (map card_number pack) in
    let y : bit (eqb (card_number c) (card_number c)) ≡ 1 = ap bit (eq-eqb (card_number c) (card_number c) refl) in
    let none : times (card_number c) (map card_number pack) ≡ 0 = omega (arith, once c) in (
      card_below c,
      absent_from (card_number c) (map card_number pack) none,
      apart_from pack (λ d. omega (arith, times_cons (card_number d) (card_number c) (map card_number pack), once d)),
    )

-- a card lies where its position sends it
position_below : (c : Card) (pack : List Card) → 1 ≤ times (card_number c) (map card_number pack) → position_of c pack < length pack
position_below c [] h = absurd (omega arith)
position_below c (d ∷ pack) h = go (position_below c pack) (eqb (card_number c) (card_number d)) refl
  where
    go : (1 ≤ times (card_number c) (map card_number pack) → position_of c pack < length pack)
        → (b : Bool) → eqb (card_number c) (card_number d) ≡ b → cond b 0 (suc (position_of c pack)) < suc (length pack)
    go rec true e = omega arith
    go rec false e =
        let z : bit (eqb (card_number c) (card_number d)) ≡ 0 = ap bit e in
        let l = rec (omega (arith, times_cons (card_number c) (card_number d) (map card_number pack))) in
        omega arith

spread_at : (c : Card) (pack : List Card) (ps : List Pile) → 1 ≤ times (card_number c) (map card_number pack) → length pack ≡ length ps
    → get_or (spread (map card_number pack) ps) (card_number c) InSkat ≡ get_or ps (position_of c pack) InSkat
spread_at c [] ps h l = absurd (omega arith)
spread_at c (d ∷ pack) [] h l = absurd (omega arith)
spread_at c (d ∷ pack) (p ∷ ps) h l = go (spread_at c pack ps) (eqb (card_number c) (card_number d)) refl
  where
    go : (1 ≤ times (card_number c) (map card_number pack) → length pack ≡ length ps
        → get_or (spread (map card_number pack) ps) (card_number c) InSkat ≡ get_or ps (position_of c pack) InSkat)
        → (b : Bool) → eqb (card_number c) (card_number d) ≡ b
        → get_or (set (spread (map card_number pack) ps) (card_number d) p) (card_number c) InSkat ≡ get_or (p ∷ ps) (cond b 0 (suc (position_of c pack))) InSkat
    go rec true e =
        let same = eqb-true (card_number c) (card_number d) e in
        let lt : card_number d < length (spread (map card_number pack) ps) = omega (arith, card_below d, length_spread (map card_number pack) ps) in
        ap (λ k. get_or (set (spread (map card_number pack) ps) (card_number d) p) k InSkat) same
        ∙ get_or-set_same (spread (map card_number pack) ps) (card_number d) p InSkat lt
    go rec false e =
        let z : bit (eqb (card_number c) (card_number d)) ≡ 0 = ap bit e in
        let once : 1 ≤ times (card_number c) (map card_number pack) = omega (arith, times_cons (card_number c) (card_number d) (map card_number pack)) in
        let less : length pack ≡ length ps = omega arith in
        get_or-set_other (spread (map card_number pack) ps) (card_number d) (card_number c) p InSkat (eqb-false _ _ e) ∙ rec once less

length_deck : length deck ≡ 32
unfolding deck
length_deck = refl

pub deck_at : (k : ℕ) (d : Card) → k < 32 → get_or deck k d ≡ card_at k
unfolding deck
deck_at k d h = get_or-map-range_with_len card_at 0 32 k k d h (omega arith)

pub start_wide : (pack : List Card) → length (start pack).piles ≡ 32
unfolding start
start_wide pack = length-map deck (dealt_to pack) ∙ length_deck

start_at : (pack : List Card) (k : ℕ) → k < 32 → get_or (start pack).piles k InSkat ≡ dealt_to pack (card_at k)
unfolding start
start_at pack k h =
    get_or-map (dealt_to pack) deck k (card_at 0) InSkat (omega (arith, length_deck)) ∙ ap (dealt_to pack) (deck_at k (card_at 0) h)

pub start_pile : (pack : List Card) (c : Card) → pile_in (start pack).piles c ≡ dealt_to pack c
start_pile pack c = start_at pack (card_number c) (card_below c) ∙ ap (dealt_to pack) (card_back c)

place_at : (i : ℕ) → i < 32 → get_or places i InSkat ≡ pile_for (receiver i)
place_at i h = get_or-map-range_with_len (λ j. pile_for (receiver j)) 0 32 i i InSkat h (omega arith)

start_spread : (pack : List Card) → IsCutPack pack → (start pack).piles ≡ spread (map card_number pack) places
start_spread pack w =
    ext_get_or InSkat (start pack).piles (spread (map card_number pack) places) (start_wide pack ∙ sym (length_spread (map card_number pack) places))
    (λ k h.
    let lt : k < 32 = omega (arith, start_wide pack) in
    let once : 1 ≤ times (card_number (card_at k)) (map card_number pack) = omega (arith, w.1 (card_at k)) in
    let within : position_of (card_at k) pack < 32 = omega (arith, position_below (card_at k) pack once, w.0) in
    start_at pack k lt
    ∙ sym (place_at (position_of (card_at k) pack) within)
    ∙ sym (spread_at (card_at k) pack places once w.0)
    ∙ ap (λ j. get_or (spread (map card_number pack) places) j InSkat) (number_at k lt))

pub start_even : (pack : List Card) → IsCutPack pack → Even (start pack).piles
start_even pack w =
    let apart = apart_from pack (λ c. omega (arith, w.1 c)) in
    let long : length (map card_number pack) ≡ 32 = length-map pack card_number ∙ w.0 in
    subst Even (sym (start_spread pack w))
    (record {
      hands = λ s. spread_few (is_held s) refl refl (map card_number pack) places long apart ∙ dealt_hand s;
      skat = omega (arith, spread_left is_in_skat refl refl (map card_number pack) places long apart, long);
      none = spread_few is_open refl refl (map card_number pack) places long apart;
    })
