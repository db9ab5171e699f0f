use Rattle.std.proofs.Common.{◌≡◌, ◌<◌, ◌≤◌, length, get_or, sym, subst, MatchOption}
use Rattle.cards.specs.declared.deck.Card.{Card}
use Rattle.worth.specs.declared.announced.Game.{Game}
use Rattle.worth.specs.Announced.{game_run}
use Rattle.worth.proofs.announced.GameRatedKind.top.Goals as goal

pub returns-in-Suit : goal.returns-in-Suit
returns-in-Suit c =
    let i = c.args.i in
    subst
    (λ (game : Game). MatchOption c.top.result (length (game_run game) ≤ i) (λ card. (i < length (game_run game)) × ((d : Card) → get_or (game_run game) i d ≡ card)))
    (sym c.in-Suit.is)
    c.top.ensures
