use Rattle.std.proofs.Common.{◌≡◌, [], ◌∷◌, length, get_or, arith, rules}
use Rattle.cards.specs.declared.deck.Card.{Card}
use Rattle.cards.specs.First.{IsFirst}
use Rattle.kinds.specs.Strengths.{is_stronger}
use Rattle.kinds.specs.Tricks.{beats}
use Rattle.kinds.proofs.FirstStrength.{first_of_trick}
use Rattle.kinds.proofs.Unbeaten.{only_unbeaten}
use Rattle.kinds.proofs.tricks.taker.Goals as goal

pub returns : goal.returns
returns g c =
    let m = g.K.Kind.meaning c.args.kind.now in
    let trick = c.args.trick in
    let i = c.unwrap.result in
    let three : length trick ≡ 3 = search rules in
    let found : IsFirst is_stronger (c.of_card.result ∷ c.of_card-2.result ∷ c.of_card-3.result ∷ []) i = search rules in
    let first : (d : Card) → IsFirst (beats m (get_or trick 0 d)) trick i =
    λ d. first_of_trick m _ d _ _ _ trick i three c.of_card.ensures c.of_card-2.ensures c.of_card-3.ensures found in
    record {
      first = first;
      only = λ different d. only_unbeaten m (g.met.K.Kind.apart c.args.kind.now) trick three d i (omega (arith, (first d).0)) (first d).1 different;
    }
