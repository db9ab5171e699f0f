use Rattle.std.proofs.Common.{rules}
use Rattle.rules.proofs.deals.Deal.apply.Goals as goal

pub returns-in-Deciding-Take : goal.returns-in-Deciding-Take
returns-in-Deciding-Take g c = search rules

pub returns-in-Putting-Put : goal.returns-in-Putting-Put
returns-in-Putting-Put g c = search rules

pub returns-in-Deciding-Announce : goal.returns-in-Deciding-Announce
returns-in-Deciding-Announce g c = search rules

pub returns-in-Announcing-Announce : goal.returns-in-Announcing-Announce
returns-in-Announcing-Announce g c = search rules
