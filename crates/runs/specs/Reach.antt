-- Runs in which each request comes with a kind of its own, and deals that they reach.
use Rattle.std.specs.Prelude.{◌≡◌, Bool, true, List, [], ◌∷◌, nat_le}
use Rattle.cards.specs.declared.deck.Card.{Card}
use Rattle.kinds.specs.Meanings.{Meaning}
use Rattle.rules.specs.declared.deals.Deal.{Deal}
use Rattle.rules.specs.Dealing.{IsCutPack, start}
use Rattle.rules.specs.Moments.{moment_number}
use Rattle.runs.specs.declared.requests.Request.{Request}
use Rattle.runs.specs.Runs.{after}

abbrev pub ended_by : Deal → List (Meaning × Request) → Deal
ended_by deal [] = deal
ended_by deal (asked ∷ run) = ended_by (after asked.0 deal asked.1) run

abbrev pub requests_of : List (Meaning × Request) → List Request
requests_of [] = []
requests_of (asked ∷ run) = asked.1 ∷ requests_of run

-- Whether a game was announced, or the deal was passed in.
abbrev pub is_announced : Deal → Bool
is_announced deal = nat_le 6 (moment_number deal.common.moment)

-- One kind from the announcement on: what was asked before it may have come with any.
abbrev pub OneKind : Meaning → Deal → List (Meaning × Request) → Type 0
OneKind m deal [] = Unit {0}
OneKind m deal (asked ∷ run) = (is_announced deal ≡ true → asked.0 ≡ m) × OneKind m (after asked.0 deal asked.1) run

-- Some run from some cut pack ends here, whatever kinds it came with.
abbrev pub Reached : Deal → Type 0
Reached deal = ∥ ((pack : List Card) × (run : List (Meaning × Request)) × IsCutPack pack × (deal ≡ ended_by (start pack) run)) ∥₁
