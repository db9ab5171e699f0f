use Rattle.std.proofs.Common.{rules, ◌≡◌, true, false, length, map, sym, ap, ◌∙◌}
use Rattle.std.specs.List.{range_with_len, zip, list_any}
use Rattle.std.proofs.lemmas.Iterator.{YieldsList-from_slice, YieldsList-from_zip, cases_from_any}
use borrow.Author.Tests.{tests}
use Rattle.cards.specs.Deck.{card_at}
use Rattle.rules.proofs.Served.{fits, any_of, any_held}
use Rattle.rules.proofs.piles.Hand.holds_class.Goals as goal

pub returns : goal.returns
returns g c =
    let m = g.K.Kind.meaning c.args.kind.now in
    let test = fits m c.args.class c.args.self.seat in
    let piles = c.args.self.piles.now in
    let long : length piles ≡ 32 = search rules in
    any_of m c.args.class c.args.self.seat _ c.any.result
    (cases_from_any c.any.new.self _ c.any.result (λ x. test x ≡ true) (λ x. test x ≡ false) c.any.ensures.ran
    (YieldsList-from_zip (YieldsList-from_slice piles (search rules)) (YieldsList-from_slice c.deck-deck.result (search rules)))
    (λ x q k. search (rules, tests))
    (λ x q k. (search rules, search (rules, tests))))
    ∙ (ap (λ cards. list_any test (zip piles cards)) c.deck-deck.ensures
    ∙ (ap (λ n. list_any test (zip piles (map card_at (range_with_len 0 n)))) (sym long)
    ∙ any_held m c.args.class c.args.self.seat 0 piles))
