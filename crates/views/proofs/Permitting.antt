-- The cards that may be played, gathered as bits in one pass, for `playable` and `permitted`.
use Rattle.std.proofs.Common.{◌≡◌, ℕ, zero, suc, ◌+◌, ◌*◌, ◌%◌, ◌^◌, ◌<◌, Bool, true, false, cond, not, ◌&&◌, ◌||◌, eqb, ltb, List, [], ◌∷◌, map, length, get_or, Some, None, Option, sym, refl, ap, ◌∙◌, add-zero, add_comm, one-mul, add-one, arith}
use mathlib.Core.Bool.{or-true, or-false}
use native.Mathlib.Nat.{pow-succ'}
use lib.Bits.{bit_or}
use Rattle.std.proofs.lemmas.Nat.{one_shl, or_comm, or_shifted}
use Rattle.std.specs.List.{range_with_len}
use Rattle.std.proofs.lemmas.List.{get_or-map}
use Rattle.std.proofs.lemmas.List.FromFn.{get_or-map-range_with_len}
use Rattle.std.proofs.lemmas.Bool.{le-ltb}
use Rattle.cards.specs.declared.deck.Card.{Card}
use Rattle.cards.specs.declared.refusals.Refusal.TheVariants.{DealIsSettled, NotThisSeatsTurn, NotInThisMoment, NoSuchCard, CardNotHeld, LedClassHeld}
use Rattle.cards.specs.declared.seats.Seat.{Seat}
use Rattle.cards.specs.declared.seats.Seat.TheVariants.{Forehand, Middlehand, Rearhand}
use Rattle.cards.specs.Deck.{card_at, card_number}
use Rattle.cards.specs.Refusals.{topmost}
use Rattle.cards.specs.Seats.{seat_at, seat_number}
use Rattle.cards.proofs.Cardinals.{number_at}
use Rattle.kinds.specs.Meanings.{Meaning}
use Rattle.rules.specs.declared.deals.Common.{Common}
use Rattle.rules.specs.declared.deals.Deal.{Deal}
use Rattle.rules.specs.declared.deals.Pile.{Pile}
use Rattle.rules.specs.declared.deals.Trick.{Trick}
use Rattle.rules.specs.declared.deals.Trick.TheVariants.{Empty, One, Two, Full}
use Rattle.rules.specs.declared.moments.Moment.{Moment}
use Rattle.rules.specs.declared.moments.Moment.TheVariants.{Bidding, Hearing, Alone, Deciding, Putting, Announcing, Playing, Settled}
use Rattle.rules.specs.Board.{any_of_class, follows}
use Rattle.rules.specs.Moments.{is_at}
use Rattle.rules.specs.Permitted.{bits_below, may_play, permitted_by, permitted_of}
use Rattle.rules.specs.Piles.{holding, is_held, is_seat, marked}
use Rattle.rules.specs.Refusing.{is_none, refusal_of}
use Rattle.rules.specs.Serving.{class_to_serve, is_of_class}
use Rattle.views.specs.Permitted.{is_playable, playable_of}

-- the bits below n are gathered
abbrev pub Gathered : (ℕ → Bool) → ℕ → ℕ → Type 0
Gathered test n bits = (bits ≡ bits_below n test) × (bits < 2 ^ n)

module _ (test : ℕ → Bool) (n bits : ℕ) (sofar : Gathered test n bits) where
  abbrev next : Bool → ℕ
  next b = bits_below n test + cond b (2 ^ n) 0

  steps : (b : Bool) → test n ≡ b → next b ≡ bits_below (n + 1) test
  steps b is = ap next (sym is) ∙ ap (λ k. bits_below k test) (sym (add-one n))

  doubles : 2 ^ (n + 1) ≡ 2 * 2 ^ n
  doubles = ap (λ k. 2 ^ k) (add-one n) ∙ pow-succ' 2 n

  pub gathered_yes : n < 32 → true ≡ test n → Gathered test (n + 1) (bit_or bits (1 * 2 ^ n % 2 ^ 32))
  gathered_yes low is =
      let sum : bit_or bits (1 * 2 ^ n % 2 ^ 32) ≡ bits + 2 ^ n =
      ap (bit_or bits) (one_shl n 32 low)
      ∙ (or_comm bits (2 ^ n)
      ∙ (ap (λ k. bit_or k bits) (sym (one-mul (2 ^ n)))
      ∙ (or_shifted 1 n bits sofar.1
      ∙ (ap (λ k. k + bits) (one-mul (2 ^ n)) ∙ add_comm (2 ^ n) bits)))) in
      (sum ∙ (ap (λ k. k + 2 ^ n) sofar.0 ∙ steps true (sym is)), omega (arith, sum, sofar.1, doubles))

  pub gathered_no : false ≡ test n → Gathered test (n + 1) bits
  gathered_no is =
      (sofar.0 ∙ (sym (add-zero (bits_below n test)) ∙ steps false (sym is)), omega (arith, sofar.1, doubles))

-- the number of a card that stands at a place in the list of all
pub placed : (cards : List Card) (n : ℕ) (d : Card) → cards ≡ map card_at (range_with_len 0 32) → n < 32 → card_number (get_or cards n d) ≡ n
placed cards n d all low =
    ap (λ cs. card_number (get_or cs n d)) all ∙ (ap card_number (get_or-map-range_with_len card_at 0 32 n n d low (omega arith)) ∙ number_at n low)

-- whether a card is playable, told from its pile and its class
pub played_from : (m : Meaning) (seat : Seat) (piles : List Pile) (class : Option ℕ) (n : ℕ) (pile : Pile) → length piles ≡ 32 → n < 32 → (held follows : Bool) → held ≡ is_held seat (get_or piles n pile) → (held && follows) ≡ (held && is_of_class m class n) → (held && follows) ≡ is_playable m (holding seat piles) class n
played_from m seat piles class n pile long low held follows is serves =
    serves ∙ ap (λ b. b && is_of_class m class n) (is ∙ sym (get_or-map (is_held seat) piles n pile false (omega arith)))

pub gathered_all : (m : Meaning) (hand : List Bool) (asked : Option ℕ) (n bits : ℕ) → n ≡ 32 → bits ≡ bits_below n (is_playable m hand asked) → bits ≡ playable_of m hand asked
unfolding playable_of
gathered_all m hand asked n bits end sofar = sofar ∙ ap (λ k. bits_below k (is_playable m hand asked)) end

-- tests that agree give the same bits
bits_same : (n : ℕ) (f g : ℕ → Bool) → ((k : ℕ) → k < n → f k ≡ g k) → bits_below n f ≡ bits_below n g
bits_same zero f g same = refl
bits_same (suc n) f g same = λ i. bits_same n f g (λ k h. same k (omega arith)) i + cond (same n (omega arith) i) (2 ^ n) 0

-- a card is refused for nothing if the seat is to play, the card is held, and it serves
unrefused : (settled turn row none holds follows : Bool)
    → is_none (topmost ((DealIsSettled, settled) ∷ ((NotThisSeatsTurn, not turn) ∷ ((NotInThisMoment, not row) ∷ ((NoSuchCard, none) ∷ ((CardNotHeld, not holds) ∷ ((LedClassHeld, not follows) ∷ [])))))))
    ≡ ((not settled && (row && turn)) && (not none && (holds && follows)))
unrefused true turn row none holds follows = refl
unrefused false false true none holds follows = refl
unrefused false false false none holds follows = refl
unrefused false true false none holds follows = refl
unrefused false true true true holds follows = refl
unrefused false true true false false follows = refl
unrefused false true true false true false = refl
unrefused false true true false true true = refl

playing : (moment : Moment) (turn : Bool) → (not (is_at 7 moment) && (is_at 6 moment && turn)) ≡ (is_at 6 moment && turn)
playing Bidding turn = refl
playing Hearing turn = refl
playing Alone turn = refl
playing Deciding turn = refl
playing Putting turn = refl
playing Announcing turn = refl
playing Playing turn = refl
playing Settled turn = refl

module _ (m : Meaning) (hand : List Bool) (card : ℕ) where
  served : (led : Card) (b : Bool) → (eqb (m.class (card_at card)) (m.class led) || not b) ≡ is_of_class m (cond b (Some (m.class led)) None) card
  served led true = or-false (eqb (m.class (card_at card)) (m.class led))
  served led false = or-true (eqb (m.class (card_at card)) (m.class led))

  follows_is : (trick : Trick) → follows m hand trick card ≡ is_of_class m (class_to_serve m hand trick) card
  follows_is Empty = refl
  follows_is (One led) = served led (any_of_class m (m.class led) (marked hand))
  follows_is (Two led other) = served led (any_of_class m (m.class led) (marked hand))
  follows_is (Full a b c) = refl

-- a seat is the one of its number
seat_named : (seat : Seat) (n : ℕ) → seat_number seat ≡ n → Some seat ≡ seat_at n
seat_named Forehand n is = ap seat_at is
seat_named Middlehand n is = ap seat_at is
seat_named Rearhand n is = ap seat_at is

module _ (m : Meaning) (deal : Deal) (seat : Seat) (n : ℕ) (named : seat_number seat ≡ n) where
  abbrev c : Common
  c = deal.common

  abbrev hand : List Bool
  hand = holding seat deal.piles

  abbrev is_to_play : Bool
  is_to_play = is_at 6 c.moment && is_seat seat c.turn

  abbrev asked : Option ℕ
  asked = class_to_serve m hand c.board.trick

  may_play_lem : (card : ℕ) → card < 32 → may_play m c hand seat card ≡ (is_to_play && is_playable m hand asked card)
  unfolding refusal_of
  may_play_lem card low =
      unrefused (is_at 7 c.moment) (is_seat seat c.turn) (is_at 6 c.moment) (ltb 31 card) (get_or hand card false) (follows m hand c.board.trick card)
      ∙ (λ i. playing c.moment (is_seat seat c.turn) i && (not (le-ltb 31 card (omega arith) i) && (get_or hand card false && follows_is m hand card c.board.trick i)))

  pub permitted_some : (ready : Bool) (class : Option ℕ) (bits : ℕ) → ready ≡ is_to_play → ready ≡ true → class ≡ asked → bits ≡ playable_of m hand class → bits ≡ permitted_by m deal (seat_at n)
  unfolding permitted_of playable_of
  permitted_some ready class bits is ready-is class-is gathers =
      gathers
      ∙ (ap (playable_of m hand) class-is
      ∙ (sym (bits_same 32 (may_play m c hand seat) (is_playable m hand asked) (λ card low. may_play_lem card low ∙ ap (λ b. b && is_playable m hand asked card) (sym is ∙ ready-is)))
      ∙ ap (permitted_by m deal) (seat_named seat n named)))

  pub permitted_none : (ready : Bool) → ready ≡ is_to_play → ready ≡ false → 0 ≡ permitted_by m deal (seat_at n)
  unfolding permitted_of
  permitted_none ready is ready-is =
      sym (bits_same 32 (may_play m c hand seat) (λ card. false) (λ card low. may_play_lem card low ∙ ap (λ b. b && is_playable m hand asked card) (sym is ∙ ready-is)))
      ∙ ap (permitted_by m deal) (seat_named seat n named)
