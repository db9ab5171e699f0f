-- Of three different cards one is beaten by neither other.
use Rattle.std.proofs.Common.{◌≡◌, ℕ, ◌<◌, Bool, true, false, cond, not, ◌&&◌, ◌||◌, eqb, ltb, ◌⊎◌, refl, ◌∙◌, inl, inr, arith}
use Rattle.std.proofs.lemmas.Bool.{and_from, not_from_false, both_ways, eq-eqb, cond-true, cond-false}
use Rattle.std.proofs.lemmas.Bool.Decides.{nat_tests}
use Rattle.cards.specs.declared.deck.Card.{Card}
use Rattle.cards.specs.declared.seats.Seat.{Seat}
use Rattle.kinds.specs.Meanings.{Meaning}
use Rattle.kinds.specs.Tricks.{force}
use Rattle.rules.specs.Board.{is_unbeaten}
use Rattle.runs.specs.Law.{Lawful}
use Rattle.runs.specs.Reckoning.{OneTakes, first, second, third}

-- in numbers: force and rank of two cards
abbrev over : ℕ → ℕ → ℕ → ℕ → Bool
over fx rx fy ry = ltb fy fx || (eqb fx fy && ltb 0 fx && ltb ry rx)

anti : (fx rx fy ry : ℕ) → over fx rx fy ry ≡ true → over fy ry fx rx ≡ false
anti fx rx fy ry h = grind (arith, nat_tests)

trans : (fx rx fy ry fz rz : ℕ) → over fx rx fy ry ≡ true → over fy ry fz rz ≡ true → over fx rx fz rz ≡ true
trans fx rx fy ry fz rz h k = grind (arith, nat_tests)

abbrev best : ℕ → ℕ → ℕ → ℕ → ℕ → ℕ → Bool
best fx rx fy ry fz rz = not (over fy ry fx rx) && not (over fz rz fx rx)

-- the first has force, and cards of one force above 0 differ in rank
module _ (fa ra fb rb fc rc : ℕ) (h : 0 < fa)
    (dab : fa ≡ fb → ra ≡ rb → ⊥) (dac : fa ≡ fc → ra ≡ rc → ⊥) (dbc : fb ≡ fc → 0 < fb → rb ≡ rc → ⊥) where
  first_only : best fa ra fb rb fc rc ≡ true → (best fb rb fa ra fc rc ≡ false) × (best fc rc fa ra fb rb ≡ false)
  first_only e = (grind (arith, nat_tests), grind (arith, nat_tests))

  second_only : best fb rb fa ra fc rc ≡ true → best fc rc fa ra fb rb ≡ false
  second_only e = grind (arith, nat_tests)

module _ (fa ra fb rb fc rc : ℕ) where
  both_not : (x y : Bool) → x ≡ false → y ≡ false → (not x && not y) ≡ true
  both_not x y e f = and_from _ _ (not_from_false x e) (not_from_false y f)

  either : (x y : Bool) → (not x && not y) ≡ false → (x ≡ true) ⊎ (y ≡ true)
  either true y e = inl refl
  either false true e = inr refl
  either false false e = absurd (both_ways true e refl)

  third_then : best fa ra fb rb fc rc ≡ false → best fb rb fa ra fc rc ≡ false → best fc rc fa ra fb rb ≡ true
  third_then e f = go (either _ _ e) (either _ _ f)
    where
      go : (over fb rb fa ra ≡ true) ⊎ (over fc rc fa ra ≡ true) → (over fa ra fb rb ≡ true) ⊎ (over fc rc fb rb ≡ true) → best fc rc fa ra fb rb ≡ true
      go (inl ba) (inl ab) = absurd (both_ways _ (anti fa ra fb rb ab) ba)
      go (inl ba) (inr cb) = both_not _ _ (anti fc rc fa ra (trans fc rc fb rb fa ra cb ba)) (anti fc rc fb rb cb)
      go (inr ca) (inl ab) = both_not _ _ (anti fc rc fa ra ca) (anti fc rc fb rb (trans fc rc fa ra fb rb ca ab))
      go (inr ca) (inr cb) = both_not _ _ (anti fc rc fa ra ca) (anti fc rc fb rb cb)

force_led : (m : Meaning) (a : Card) → 0 < force m a a
force_led m a = go (eqb (m.class a) 4) (eqb (m.class a) (m.class a)) (eq-eqb _ _ refl)
  where
    go : (x y : Bool) → y ≡ true → 0 < cond x 2 (cond y 1 0)
    go true y e = omega arith
    go false true e = omega arith
    go false false e = absurd (both_ways false refl e)

-- cards of one force above 0 are of one class
one_class : (m : Meaning) (a x y : Card) → force m a x ≡ force m a y → 0 < force m a x → m.class x ≡ m.class y
one_class m a x y e h = grind (arith, nat_tests)

pub one_takes : (m : Meaning) → Lawful m → (s t u : Seat) (a b c : Card) → (a ≡ b → ⊥) → (a ≡ c → ⊥) → (b ≡ c → ⊥)
    → OneTakes m ((s, a), (t, b), (u, c))
one_takes m law s t u a b c ab ac bc = go _ _ refl refl
  where
    l : 0 < force m a a
    l = force_led m a

    dab : force m a a ≡ force m a b → m.rank a ≡ m.rank b → ⊥
    dab e r = ab (law a b (one_class m a a b e l) r)

    dac : force m a a ≡ force m a c → m.rank a ≡ m.rank c → ⊥
    dac e r = ac (law a c (one_class m a a c e l) r)

    dbc : force m a b ≡ force m a c → 0 < force m a b → m.rank b ≡ m.rank c → ⊥
    dbc e k r = bc (law b c (one_class m a b c e k) r)

    go : (x y : Bool) → is_unbeaten m a a b c ≡ x → is_unbeaten m a b a c ≡ y → OneTakes m ((s, a), (t, b), (u, c))
    go true y e f =
        let r = first_only (force m a a) (m.rank a) (force m a b) (m.rank b) (force m a c) (m.rank c) l dab dac dbc e in
        first e r.0 r.1 (cond-true _ _ _ e)
    go false true e f =
        second e f (second_only (force m a a) (m.rank a) (force m a b) (m.rank b) (force m a c) (m.rank c) l dab dac dbc f)
        (cond-false _ _ _ e ∙ cond-true _ _ _ f)
    go false false e f =
        third e f (third_then (force m a a) (m.rank a) (force m a b) (m.rank b) (force m a c) (m.rank c) e f)
        (cond-false _ _ _ e ∙ cond-false _ _ _ f)
