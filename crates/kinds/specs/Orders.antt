-- To beat in a trick, and to be the higher strength, are orders.
use Rattle.std.proofs.Common.{◌≡◌, true, false, ◌||◌, rules}
use Rattle.cards.specs.declared.deck.Card.{Card}
use Rattle.kinds.specs.declared.tricks.Strength.{Strength}
use Rattle.kinds.specs.Meanings.{Meaning}
use Rattle.kinds.specs.Strengths.{is_stronger}
use Rattle.kinds.specs.Tricks.{beats}

module _ (m : Meaning) (led : Card) where
  pub beats_irreflexive : (a : Card) → beats m led a a ≡ false
  beats_irreflexive a = search rules

  pub beats_transitive : (a b c : Card) → beats m led a b ≡ true → beats m led b c ≡ true → beats m led a c ≡ true
  beats_transitive a b c first then = search rules

  pub beats_weak : (a b c : Card) → beats m led a b ≡ true → (beats m led c b || beats m led a c) ≡ true
  beats_weak a b c above = search rules

pub stronger_irreflexive : (a : Strength) → is_stronger a a ≡ false
stronger_irreflexive a = search rules

pub stronger_transitive : (a b c : Strength) → is_stronger a b ≡ true → is_stronger b c ≡ true → is_stronger a c ≡ true
stronger_transitive a b c first then = search rules

pub stronger_weak : (a b c : Strength) → is_stronger a b ≡ true → (is_stronger c b || is_stronger a c) ≡ true
stronger_weak a b c above = search rules
