use Rattle.std.proofs.Common.{◌≡◌, Bool, true, false, refl, sym, ◌∙◌}
use Rattle.std.proofs.Math.Bool.{beq}
use Rattle.std.proofs.lemmas.Bool.{true≢false}
use Rattle.worth.proofs.Fronts.{alike_more, alike_ends, tops_all}
use Rattle.worth.proofs.tops.tops.Goals as goal
use Rattle.worth.proofs.tops.tops.Goals.{in_default-top-2, in_default-top}

same_when : (a b : Bool) → beq a b ≡ true → a ≡ b
same_when true true e = refl
same_when false false e = refl
same_when true false e = sym e
same_when false true e = e

other_when : (a b : Bool) → beq a b ≡ false → a ≡ b → ⊥
other_when true true e d = absurd (true≢false e)
other_when false false e d = absurd (true≢false e)
other_when true false e d = true≢false d
other_when false true e d = true≢false (sym d)

pub loop-card-preserved : goal.loop-card-preserved
loop-card-preserved g c =
    alike_more (g.K.RatedKind.rated c.args.kind.now).run c.args.cards.now c.is_among-with.result c.loop-card.n c.in-Some-top.card c.loop-card.invariant c.in-Some-top.ensures (sym c.is_among.ensures ∙ same_when _ _ c.if-is_among-with.true)

pub returns-clause-value : goal.returns-clause-value
returns-clause-value g c =
    let run = (g.K.RatedKind.rated c.args.kind.now).run in
    let cards = c.args.cards.now in
    let n = c.loop-card.n in
    let first = c.in-Some.ensures in
    let sofar = c.loop-card.invariant in
    elim c.match-top-2.branch [
      | in_default-top-2 w ↦
          w.count-is
          ∙ alike_ends run cards c.is_among-with.result n w.in-Some-top.card sofar w.in-Some-top.ensures c.in-Some.first first.0 first.1 c.is_among-with.ensures
          (λ e. other_when _ _ w.if-is_among-with.false (w.is_among.ensures ∙ e))
      | in_default-top w ↦
          let past = w.in_default-top.ensures in
          w.count-is ∙ tops_all run cards c.in-Some.first n first.0 first.1 sofar.0 (λ k d h. sofar.1 k d h ∙ c.is_among-with.ensures) past
    ]
