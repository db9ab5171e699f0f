use Rattle.std.proofs.Common.{◌+◌, false, refl, sym, ap, ◌∙◌, subst, arith}
use Rattle.rules.specs.Piles.{holding}
use Rattle.rules.specs.Serving.{is_of_class}
use Rattle.views.specs.Permitted.{is_playable}
use Rattle.views.proofs.Permitting.{Gathered, gathered_all, gathered_yes, gathered_no, placed, played_from}
use Rattle.views.proofs.permitted.playable.Goals as goal
use Rattle.views.proofs.permitted.playable.Goals.{then-is_held+then-is_of_class, else-is_held, else-is_held-via-then-is_held+else-is_of_class, else-is_held-via-else-is_held}

pub loop-number-preserved : goal.loop-number-preserved
loop-number-preserved g c =
    let m = g.K.Kind.meaning c.args.kind.now in
    let piles = c.args.piles.now in
    let seat = c.args.seat in
    let class = c.args.class in
    let n = c.loop-number.number in
    let bits = c.loop-number.bits in
    let test = is_playable m (holding seat piles) class in
    let at = placed c.deck-deck.result n _ c.deck-deck.ensures c.loop-number-test.true in
    let played = played_from m seat piles class n _ c.told-piles c.loop-number-test.true in
    elim c.if-is_held.branch [
      | then-is_held+then-is_of_class w ↦
          let follows = sym w.if-is_of_class.true ∙ (w.is_of_class.ensures ∙ ap (is_of_class m class) at) in
          subst (Gathered test (n + 1)) (sym w.bits-is)
          (gathered_yes test n bits c.loop-number.invariant c.loop-number-test.true (played _ _ (sym w.if-is_held.true ∙ c.is_held.ensures) follows))
      | else-is_held w ↦ elim w.else-is_held.branch [
        | else-is_held-via-then-is_held+else-is_of_class v ↦
            let follows = sym v.if-is_of_class.false ∙ (v.is_of_class.ensures ∙ ap (is_of_class m class) at) in
            subst (Gathered test (n + 1)) (sym w.bits-is)
            (gathered_no test n bits c.loop-number.invariant (played _ _ (sym v.if-is_held.true ∙ c.is_held.ensures) follows))
        | else-is_held-via-else-is_held v ↦
            subst (Gathered test (n + 1)) (sym w.bits-is)
            (gathered_no test n bits c.loop-number.invariant (played false false (sym v.if-is_held.false ∙ c.is_held.ensures) refl))
      ]
    ]

pub returns : goal.returns
returns g c =
    gathered_all (g.K.Kind.meaning c.args.kind.now) (holding c.args.seat c.args.piles.now) c.args.class c.loop-number.number c.loop-number.bits (omega arith) c.loop-number.invariant.0
