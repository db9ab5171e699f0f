use Rattle.std.proofs.Common.{◌≡◌, ℕ, ◌+◌, length, set, sym, subst, rules}
use Rattle.cards.proofs.Handing.{Sent, sent_more}
use Rattle.cards.proofs.packs.CutPack.deal.Goals as goal

pub loop-position-preserved : goal.loop-position-preserved
loop-position-preserved c =
    let pack = c.args.self in
    let long : length pack.cards ≡ 32 = search rules in
    let position = c.loop-position.position in
    subst
    (λ (n : ℕ). Sent pack.cards (position + 1) (set c.loop-position.dealt n c.receiver_of.result))
    (sym c.from.ensures)
    (sent_more pack.cards pack.once long position _ c.loop-position.dealt c.receiver_of.result c.loop-position-test.true c.loop-position.invariant c.receiver_of.ensures)
