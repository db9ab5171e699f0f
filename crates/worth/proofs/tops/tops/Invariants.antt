use Rattle.std.proofs.Common.{◌≡◌, ℕ, ◌-◌, ◌<◌, ◌≤◌, length, get_or}
use Rattle.cards.specs.declared.deck.Card.{Card}
use Rattle.worth.specs.Tops.{is_among}
use Rattle.worth.proofs.tops.tops.Given as goal

abbrev pub invariant-loop-card : goal.invariant-loop-card
invariant-loop-card g l =
    (l.n ≤ length (g.K.RatedKind.rated l.kind).run)
    × ((k : ℕ) (d : Card) → k < l.n → is_among l.cards (get_or (g.K.RatedKind.rated l.kind).run k d) ≡ l.with)

abbrev pub decreases-loop-card : goal.decreases-loop-card
decreases-loop-card g l = length (g.K.RatedKind.rated l.kind).run - l.n
