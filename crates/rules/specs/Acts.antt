-- What a call comes to once it is refused for nothing.
use Rattle.std.specs.Prelude.{◌≡◌, Bool, List, Some, None, Option, Result, MatchResult}
use Rattle.cards.specs.declared.refusals.Refusal.{Refusal}
use Rattle.cards.specs.Deck.{card_number}
use Rattle.cards.specs.Refusals.{topmost}
use Rattle.kinds.specs.Meanings.{Meaning}
use Rattle.worth.specs.Announced.{game_number}
use Rattle.worth.specs.Levels.{level_number}
use Rattle.rules.specs.declared.calls.Act.{Act}
use Rattle.rules.specs.declared.calls.Act.TheVariants.{Bid, Hold, Pass, Take, Put, Announce, Play}
use Rattle.rules.specs.declared.calls.Call.{Call}
use Rattle.rules.specs.declared.calls.Call.TheVariants as calls
use Rattle.rules.specs.declared.deals.Common.{Common}
use Rattle.rules.specs.Refusing.{own_refusals}

-- The call by which a seat names this act.
abbrev pub call_of : Act → Call
call_of (Bid bid) = calls.Bid bid.value
call_of Hold = calls.Hold
call_of Pass = calls.Pass
call_of Take = calls.Take
call_of (Put a b) = calls.Put (card_number a) (card_number b)
call_of (Announce game level) = calls.Announce (game_number game) (level_number level)
call_of (Play card) = calls.Play (card_number card)

-- What a check of a call answers: the act that the call names, where it is refused for nothing, else the refusal.
abbrev pub Admits : Call → Option Refusal → Result Act Refusal → Type 0
Admits call refused result = MatchResult result (λ act. (refused ≡ None) × (call_of act ≡ call)) (λ refusal. refused ≡ Some refusal)

-- What a check answers of a call in its moment: the same of what can be wrong with it there.
abbrev pub AdmitsOwn : Meaning → Common → List Bool → Call → Result Act Refusal → Type 0
AdmitsOwn m common hand call result = Admits call (topmost (own_refusals m common hand call)) result
