use Rattle.std.proofs.Common.{◌≡◌, map, rules}
use Rattle.std.proofs.lemmas.List.Edits.{map_over_more}
use Rattle.std.proofs.lemmas.List.{take_all, drop_all}
use Rattle.rules.specs.Steps.{lifted, next, moved}
use Rattle.rules.proofs.deals.Deal.take.Goals as goal

pub loop-pile-preserved : goal.loop-pile-preserved
loop-pile-preserved c = search (rules, map_over_more (lifted c.args.seat))

pub returns : goal.returns
unfolding next moved
returns c m =
    let piles : c.loop-pile.pile-items ≡ map (lifted c.args.seat) c.args.self.now.piles = search (rules, take_all, drop_all) in
    search rules
