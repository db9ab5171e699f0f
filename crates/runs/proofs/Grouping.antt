-- Plays by threes, one play more.
use Rattle.std.proofs.Common.{◌≡◌, ℕ, suc, ◌+◌, ◌*◌, Bool, true, false, cond, not, List, [], ◌∷◌, ◌++◌, length, count_by, sym, refl, ap, arith}
use Rattle.std.proofs.lemmas.List.Sums.{sum_by_push, sum_by-cons}
use Rattle.cards.specs.declared.deck.Card.{Card}
use Rattle.cards.specs.declared.seats.Seat.{Seat}
use Rattle.cards.specs.Seats.{following}
use Rattle.kinds.specs.Meanings.{Meaning}
use Rattle.runs.specs.Reckoning.{Play', Trick', tricks_of, open_of, takes, leader_after, last_or, cards_of, InTurn}
use Rattle.runs.proofs.Counts.{bit}

-- the open trick grows, or is filled
abbrev pub Grown : List Play' → Play' → List Trick' → List Play' → Type 0
Grown ps x tricks left = (tricks_of (ps ++ x ∷ []) ≡ tricks) × (open_of (ps ++ x ∷ []) ≡ left)

one_none : (a : Play') → ◌≡◌ {A = List Play'} (a ∷ []) [] → ⊥
one_none a e = let z : ◌≡◌ {A = ℕ} 1 0 = ap length e in omega arith

two_none : (a b : Play') → ◌≡◌ {A = List Play'} (a ∷ (b ∷ [])) [] → ⊥
two_none a b e = let z : ◌≡◌ {A = ℕ} 2 0 = ap length e in omega arith

pub lead : (ps : List Play') (x : Play') → open_of ps ≡ [] → Grown ps x (tricks_of ps) (x ∷ [])
lead [] x e = (refl, refl)
lead (a ∷ []) x e = absurd (one_none a e)
lead (a ∷ (b ∷ [])) x e = absurd (two_none a b e)
lead (a ∷ (b ∷ (c ∷ ps))) x e = let r = lead ps x e in (ap (λ ts. (a, b, c) ∷ ts) r.0, r.1)

pub follow : (ps : List Play') (a x : Play') → open_of ps ≡ a ∷ [] → Grown ps x (tricks_of ps) (a ∷ (x ∷ []))
follow [] a x e = absurd (one_none a (sym e))
follow (b ∷ []) a x e = (refl, ap (λ ys. ys ++ x ∷ []) e)
follow (b ∷ (c ∷ [])) a x e = absurd (let z : ◌≡◌ {A = ℕ} 2 1 = ap length e in omega arith)
follow (b ∷ (c ∷ (d ∷ ps))) a x e = let r = follow ps a x e in (ap (λ ts. (b, c, d) ∷ ts) r.0, r.1)

abbrev first_two : Play' → Play' → List Play' → Play' × Play'
first_two y z [] = (y, z)
first_two y z (p ∷ []) = (y, z)
first_two y z (p ∷ (q ∷ qs)) = (p, q)

pub fill : (ps : List Play') (a b x : Play') → open_of ps ≡ a ∷ (b ∷ []) → Grown ps x (tricks_of ps ++ (a, b, x) ∷ []) []
fill [] a b x e = absurd (two_none a b (sym e))
fill (c ∷ []) a b x e = absurd (let z : ◌≡◌ {A = ℕ} 1 2 = ap length e in omega arith)
fill (c ∷ (d ∷ [])) a b x e = let heads = ap (first_two c d) e in (λ i. ((heads i).0, (heads i).1, x) ∷ [], refl)
fill (c ∷ (d ∷ (f ∷ ps))) a b x e = let r = fill ps a b x e in (ap (λ ts. (c, d, f) ∷ ts) r.0, r.1)

-- three cards to a trick
pub length_groups : (ps : List Play') → length ps ≡ 3 * length (tricks_of ps) + length (open_of ps)
length_groups [] = refl
length_groups (a ∷ []) = refl
length_groups (a ∷ (b ∷ [])) = refl
length_groups (a ∷ (b ∷ (c ∷ ps))) = omega (arith, length_groups ps)

-- the next leader and the last trick after one trick more
pub leader_more : (m : Meaning) (l : Seat) (ts : List Trick') (t : Trick') → leader_after m l (ts ++ t ∷ []) ≡ takes m t
leader_more m l [] t = refl
leader_more m l (u ∷ ts) t = leader_more m (takes m u) ts t

pub last_more : (cs : List Card) (ts : List Trick') (t : Trick') → last_or cs (ts ++ t ∷ []) ≡ cards_of t
last_more cs [] t = refl
last_more cs (u ∷ ts) t = last_more (cards_of u) ts t

-- a trick is one side's
pub count_more : (f : Trick' → Bool) (ts : List Trick') (t : Trick') (b : Bool) → f t ≡ b → count_by f (ts ++ t ∷ []) ≡ cond b (suc (count_by f ts)) (count_by f ts)
count_more f ts t true e = let y : bit (f t) ≡ 1 = ap bit e in omega (arith, sum_by_push (λ x. bit (f x)) ts t)
count_more f ts t false e = let y : bit (f t) ≡ 0 = ap bit e in omega (arith, sum_by_push (λ x. bit (f x)) ts t)

pub both_sides : (f : Trick' → Bool) (ts : List Trick') → count_by f ts + count_by (λ t. not (f t)) ts ≡ length ts
both_sides f [] = refl
both_sides f (t ∷ ts) =
    omega (arith, sum_by-cons (λ x. bit (f x)) t ts, sum_by-cons (λ x. bit (not (f x))) t ts, split (f t), both_sides f ts)
  where
    split : (b : Bool) → bit b + bit (not b) ≡ 1
    split true = refl
    split false = refl

-- who is to play next
abbrev pub next_from : Seat → List Play' → Seat
next_from l [] = l
next_from l (a ∷ []) = following l
next_from l (a ∷ (b ∷ ps)) = following (following l)

pub turn_more : (m : Meaning) (l : Seat) (ps : List Play') (x : Play') → InTurn m l ps → x.0 ≡ next_from (leader_after m l (tricks_of ps)) (open_of ps)
    → InTurn m l (ps ++ x ∷ [])
turn_more m l [] x h e = e
turn_more m l (a ∷ []) x h e = (h, e)
turn_more m l (a ∷ (b ∷ [])) x h e = (h.0, h.1, e, tt)
turn_more m l (a ∷ (b ∷ (c ∷ ps))) x h e = (h.0, h.1, h.2, turn_more m (takes m (a, b, c)) ps x h.3 e)
