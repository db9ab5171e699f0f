-- What the auction, the skat and the announcement come to, call by call.
use Rattle.std.proofs.Common.{◌≡◌, ℕ, max, Bool, true, false, cond, ◌||◌, eqb, List, [], ◌∷◌, ◌++◌, Some, None, Option, sym, refl, ap, ◌∙◌, append_assoc, append-nil, arith}
use Rattle.cards.specs.declared.deck.Card.{Card}
use Rattle.cards.specs.declared.seats.Seat.{Seat}
use Rattle.cards.specs.declared.seats.Seat.TheVariants.{Forehand, Middlehand, Rearhand}
use Rattle.rules.specs.declared.calls.Call.{Call}
use Rattle.rules.specs.declared.calls.Call.TheVariants.{Bid, Hold, Pass, Take, Put, Announce, Play}
use Rattle.rules.specs.declared.deals.Contract.{Contract}
use Rattle.rules.specs.Piles.{is_seat}
use Rattle.runs.specs.Reckoning.{Made, is_any, is_pass, has_passed, value_of, largest_bid, is_hold, highest_bid, survivor, declarer_in, is_take, is_put, announced_or, announced_in, contract_with, contract_in, play_of, plays_in}

pub or_false : (b : Bool) → (b || false) ≡ b
or_false true = refl
or_false false = refl

pub any_more : {A : Type 0} (f : A → Bool) (xs : List A) (x : A) → is_any f (xs ++ x ∷ []) ≡ (is_any f xs || f x)
any_more f [] x = or_false (f x)
any_more f (y ∷ xs) x = ap (λ b. f y || b) (any_more f xs x) ∙ or_assoc (f y) (is_any f xs) (f x)
  where
    or_assoc : (a b c : Bool) → (a || (b || c)) ≡ ((a || b) || c)
    or_assoc true b c = refl
    or_assoc false b c = refl

any_kept : (f : Made → Bool) (calls : List Made) (x : Made) → f x ≡ false → is_any f (calls ++ x ∷ []) ≡ is_any f calls
any_kept f calls x e = any_more f calls x ∙ ap (λ b. is_any f calls || b) e ∙ or_false (is_any f calls)

max_zero : (n : ℕ) → max n 0 ≡ max 0 n
max_zero n = omega arith

largest_more : (calls : List Made) (x : Made) → largest_bid (calls ++ x ∷ []) ≡ max (largest_bid calls) (value_of x.1)
largest_more [] x = max_zero (value_of x.1)
largest_more (y ∷ calls) x =
    ap (λ n. max (value_of y.1) n) (largest_more calls x) ∙ assoc (value_of y.1) (largest_bid calls) (value_of x.1)
  where
    assoc : (a b c : ℕ) → max a (max b c) ≡ max (max a b) c
    assoc a b c = omega arith

largest_kept : (calls : List Made) (x : Made) → value_of x.1 ≡ 0 → largest_bid (calls ++ x ∷ []) ≡ largest_bid calls
largest_kept calls x e = largest_more calls x ∙ ap (λ n. max (largest_bid calls) n) e ∙ zero_right (largest_bid calls)
  where
    zero_right : (n : ℕ) → max n 0 ≡ n
    zero_right n = omega arith

-- the earlier of two announcements
abbrev pub earlier : Option (ℕ × ℕ) → Option (ℕ × ℕ) → Option (ℕ × ℕ)
earlier None later = later
earlier (Some x) later = Some x

or_later : (call : Call) (a later : Option (ℕ × ℕ)) → announced_or (earlier a later) call ≡ earlier (announced_or a call) later
or_later (Bid n) a later = refl
or_later Hold a later = refl
or_later Pass a later = refl
or_later Take a later = refl
or_later (Put x y) a later = refl
or_later (Announce g l) a later = refl
or_later (Play k) a later = refl

named_more : (calls : List Made) (x : Made) → announced_in (calls ++ x ∷ []) ≡ earlier (announced_in calls) (announced_or None x.1)
named_more [] x = refl
named_more (y ∷ calls) x = ap (λ a. announced_or a y.1) (named_more calls x) ∙ or_later y.1 (announced_in calls) (announced_or None x.1)

earlier_none : (a : Option (ℕ × ℕ)) → earlier a None ≡ a
earlier_none None = refl
earlier_none (Some x) = refl

named_kept : (calls : List Made) (x : Made) → announced_or None x.1 ≡ None → announced_in (calls ++ x ∷ []) ≡ announced_in calls
named_kept calls x e = named_more calls x ∙ ap (earlier (announced_in calls)) e ∙ earlier_none (announced_in calls)

pub plays_more : (calls : List Made) (x : Made) → plays_in (calls ++ x ∷ []) ≡ plays_in calls ++ play_of x.0 x.1
plays_more [] x = append-nil (play_of x.0 x.1)
plays_more (y ∷ calls) x =
    ap (λ ps. play_of y.0 y.1 ++ ps) (plays_more calls x) ∙ sym (append_assoc (play_of y.0 y.1) (plays_in calls) (play_of x.0 x.1))

pub put_more : (card : Card) (calls : List Made) (x : Made) → is_any (is_put card) (calls ++ x ∷ []) ≡ (is_any (is_put card) calls || is_put card x)
put_more card calls x = any_more (is_put card) calls x

-- all that the auction, the take and the announcement say
pub record Tally : Type 0 where
  pub forehand : Bool
  pub middlehand : Bool
  pub rearhand : Bool
  pub largest : ℕ
  pub held : Bool
  pub taken : Bool
  pub named : Option (ℕ × ℕ)

abbrev pub tally : List Made → Tally
tally calls = record {
  forehand = has_passed Forehand calls;
  middlehand = has_passed Middlehand calls;
  rearhand = has_passed Rearhand calls;
  largest = largest_bid calls;
  held = is_any is_hold calls;
  taken = is_any is_take calls;
  named = announced_in calls;
}

abbrev pub bid_of : Tally → ℕ
bid_of t = cond (eqb t.largest 0) (cond t.held 18 0) t.largest

abbrev pub declarer_of_tally : Tally → Option Seat
declarer_of_tally t = cond (eqb (bid_of t) 0) None (survivor t.forehand t.middlehand t.rearhand)

abbrev pub contract_of : Tally → Contract
contract_of t = contract_with (declarer_of_tally t) t.taken t.named

abbrev pub with_pass : Tally → Seat → Tally
with_pass t s = record {
  forehand = t.forehand || is_seat s Forehand;
  middlehand = t.middlehand || is_seat s Middlehand;
  rearhand = t.rearhand || is_seat s Rearhand;
  largest = t.largest;
  held = t.held;
  taken = t.taken;
  named = t.named;
}

abbrev pub added : Tally → Seat → Call → Tally
added t s (Bid n) = record { forehand = t.forehand; middlehand = t.middlehand; rearhand = t.rearhand; largest = max t.largest n; held = t.held; taken = t.taken; named = t.named }
added t s Hold = record { forehand = t.forehand; middlehand = t.middlehand; rearhand = t.rearhand; largest = t.largest; held = true; taken = t.taken; named = t.named }
added t s Pass = with_pass t s
added t s Take = record { forehand = t.forehand; middlehand = t.middlehand; rearhand = t.rearhand; largest = t.largest; held = t.held; taken = true; named = t.named }
added t s (Put a b) = t
added t s (Announce g l) = record { forehand = t.forehand; middlehand = t.middlehand; rearhand = t.rearhand; largest = t.largest; held = t.held; taken = t.taken; named = earlier t.named (Some (g, l)) }
added t s (Play k) = t

or_true : (b : Bool) → (b || true) ≡ true
or_true true = refl
or_true false = refl

tally≡ : {f f' m m' r r' h h' k k' : Bool} {l l' : ℕ} {n n' : Option (ℕ × ℕ)} → f ≡ f' → m ≡ m' → r ≡ r' → l ≡ l' → h ≡ h' → k ≡ k' → n ≡ n'
    → ◌≡◌ {A = Tally} (record { forehand = f; middlehand = m; rearhand = r; largest = l; held = h; taken = k; named = n })
    (record { forehand = f'; middlehand = m'; rearhand = r'; largest = l'; held = h'; taken = k'; named = n' })
tally≡ a b c d e f g = λ i. record { forehand = a i; middlehand = b i; rearhand = c i; largest = d i; held = e i; taken = f i; named = g i }

module _ (calls : List Made) (s : Seat) where
  not_passed : (v : Seat) (call : Call) → is_pass v (s, call) ≡ false → has_passed v (calls ++ (s, call) ∷ []) ≡ has_passed v calls
  not_passed v call e = any_kept (is_pass v) calls (s, call) e

  pub tally_more : (call : Call) → tally (calls ++ (s, call) ∷ []) ≡ added (tally calls) s call
  tally_more (Bid n) =
      tally≡ (not_passed Forehand (Bid n) refl) (not_passed Middlehand (Bid n) refl) (not_passed Rearhand (Bid n) refl)
      (largest_more calls (s, Bid n)) (any_kept is_hold calls (s, Bid n) refl) (any_kept is_take calls (s, Bid n) refl) (named_kept calls (s, Bid n) refl)
  tally_more Hold =
      tally≡ (not_passed Forehand Hold refl) (not_passed Middlehand Hold refl) (not_passed Rearhand Hold refl)
      (largest_kept calls (s, Hold) refl) (any_more is_hold calls (s, Hold) ∙ or_true (is_any is_hold calls)) (any_kept is_take calls (s, Hold) refl) (named_kept calls (s, Hold) refl)
  tally_more Pass =
      tally≡ (any_more (is_pass Forehand) calls (s, Pass)) (any_more (is_pass Middlehand) calls (s, Pass)) (any_more (is_pass Rearhand) calls (s, Pass))
      (largest_kept calls (s, Pass) refl) (any_kept is_hold calls (s, Pass) refl) (any_kept is_take calls (s, Pass) refl) (named_kept calls (s, Pass) refl)
  tally_more Take =
      tally≡ (not_passed Forehand Take refl) (not_passed Middlehand Take refl) (not_passed Rearhand Take refl)
      (largest_kept calls (s, Take) refl) (any_kept is_hold calls (s, Take) refl) (any_more is_take calls (s, Take) ∙ or_true (is_any is_take calls)) (named_kept calls (s, Take) refl)
  tally_more (Put a b) =
      tally≡ (not_passed Forehand (Put a b) refl) (not_passed Middlehand (Put a b) refl) (not_passed Rearhand (Put a b) refl)
      (largest_kept calls (s, Put a b) refl) (any_kept is_hold calls (s, Put a b) refl) (any_kept is_take calls (s, Put a b) refl) (named_kept calls (s, Put a b) refl)
  tally_more (Announce g l) =
      tally≡ (not_passed Forehand (Announce g l) refl) (not_passed Middlehand (Announce g l) refl) (not_passed Rearhand (Announce g l) refl)
      (largest_kept calls (s, Announce g l) refl) (any_kept is_hold calls (s, Announce g l) refl) (any_kept is_take calls (s, Announce g l) refl) (named_more calls (s, Announce g l))
  tally_more (Play k) =
      tally≡ (not_passed Forehand (Play k) refl) (not_passed Middlehand (Play k) refl) (not_passed Rearhand (Play k) refl)
      (largest_kept calls (s, Play k) refl) (any_kept is_hold calls (s, Play k) refl) (any_kept is_take calls (s, Play k) refl) (named_kept calls (s, Play k) refl)

-- these are what is reckoned
pub bid_is : (calls : List Made) → highest_bid calls ≡ bid_of (tally calls)
bid_is calls = refl

pub declarer_is : (calls : List Made) → declarer_in calls ≡ declarer_of_tally (tally calls)
declarer_is calls = refl

pub contract_is : (calls : List Made) → contract_in calls ≡ contract_of (tally calls)
contract_is calls = refl
