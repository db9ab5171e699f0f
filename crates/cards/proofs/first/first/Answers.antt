use Rattle.std.proofs.Common.{◌≡◌, cond, sym, ◌∙◌, arith}
use Rattle.std.proofs.lemmas.Bool.{eqb-false}
use Rattle.std.proofs.lemmas.List.{get_or_default}
use Rattle.cards.proofs.Scan.{best_one, best_more, is_first}
use Rattle.cards.proofs.first.first.Goals as goal
use Rattle.cards.proofs.first.first.Goals.{then-ahead, else-ahead}

pub loop-i-init : goal.loop-i-init
loop-i-init g c =
    let some = eqb-false _ _ (sym c.is_empty.ensures ∙ c.if-is_empty.false) in
    best_one (g.O.Order.ahead c.args.order.now) (g.met.O.Order.irreflexive c.args.order.now) c.args.items.now (omega arith)

pub loop-i-preserved : goal.loop-i-preserved
loop-i-preserved g c =
    let o = c.args.order.now in
    let items = c.args.items.now in
    let m = g.met.O.Order in
    let now = c.index-items-i.result in
    let then = c.index-items-best.result in
    let chosen : c.if-ahead.best ≡ cond c.ahead.result c.loop-i.i c.loop-i.best =
    elim c.if-ahead.branch [ then-ahead w ↦ rw w.if-ahead.true w.best-is | else-ahead w ↦ rw w.if-ahead.false w.best-is ] in
    best_more (g.O.Order.ahead o) (m.irreflexive o) (m.transitive o) (m.weak o) items c.loop-i.i c.loop-i.best _ c.loop-i-test.true c.loop-i.invariant c.ahead.result
    (λ d.
    let a = get_or_default items c.loop-i.i d now c.loop-i-test.true in
    let b = get_or_default items c.loop-i.best d then c.loop-i.invariant.within in
    cc)
    chosen

pub returns : goal.returns
returns g c = is_first (g.O.Order.ahead c.args.order.now) c.args.items.now _ _ c.loop-i-test.false c.loop-i.invariant
