-- Of three different cards, the first of them led, one alone is unbeaten, for `taker`.
use Rattle.std.proofs.Common.{◌≡◌, ℕ, ◌<◌, false, List, length, get_or, ⊎_elim, arith}
use Rattle.std.proofs.lemmas.Bool.{cases_order}
use Rattle.std.proofs.lemmas.Bool.Decides.{nat_tests}
use Rattle.cards.specs.declared.deck.Card.{Card}
use Rattle.cards.specs.First.{NoneAhead}
use Rattle.kinds.specs.Meanings.{Meaning}
use Rattle.kinds.specs.Tricks.{force, beats, Different, OnlyUnbeaten}

module _ (m : Meaning) (led : Card) where
  led_force : 0 < force m led led
  led_force = grind (arith, nat_tests)

  -- what the led card does not beat has force
  forceful : (a : Card) → beats m led led a ≡ false → 0 < force m led a
  forceful a safe = let h = led_force in grind (arith, nat_tests)

  same_class : (a b : Card) → 0 < force m led a → force m led a ≡ force m led b → m.class a ≡ m.class b
  same_class a b some same = grind (arith, nat_tests)

  same_force : (a b : Card) → beats m led a b ≡ false → beats m led b a ≡ false → force m led a ≡ force m led b
  same_force a b p q = grind (arith, nat_tests)

  same_rank : (a b : Card) → 0 < force m led a → beats m led a b ≡ false → beats m led b a ≡ false → m.rank a ≡ m.rank b
  same_rank a b some p q = grind (arith, nat_tests)

module _ (m : Meaning) (apart : (a b : Card) → m.class a ≡ m.class b → m.rank a ≡ m.rank b → a ≡ b) (trick : List Card) (three : length trick ≡ 3) (d : Card) where
  abbrev led_of : Card
  led_of = get_or trick 0 d

  unbeaten_same : (j k : ℕ) → j < 3 → k < 3 → NoneAhead (beats m led_of) trick j → NoneAhead (beats m led_of) trick k → get_or trick j d ≡ get_or trick k d
  unbeaten_same j k p q none safe =
      let a = get_or trick j d in
      let b = get_or trick k d in
      let some = forceful m led_of a (none 0 d (omega arith)) in
      let over = safe j d (omega arith) in
      let under = none k d (omega arith) in
      apart a b (same_class m led_of a b some (same_force m led_of a b over under)) (same_rank m led_of a b some over under)

  pub only_unbeaten : (i : ℕ) → i < 3 → NoneAhead (beats m led_of) trick i → Different trick → OnlyUnbeaten m trick led_of i
  only_unbeaten i within none different k lt safe = ⊎_elim
      (λ e. e)
      (⊎_elim
      (λ less. absurd (different k i d less within (unbeaten_same k i lt within safe none)))
      (λ more. absurd (different i k d more lt (unbeaten_same i k within lt none safe))))
      (cases_order k i)
