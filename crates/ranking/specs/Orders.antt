-- To be ahead in a standing is an order: by rating, then by games won, then by games lost.
use Rattle.std.proofs.Common.{◌≡◌, true, false, ◌||◌, rules}
use Rattle.ranking.specs.declared.standings.Entry.{Entry}
use Rattle.ranking.specs.Standings.{is_ahead}

-- None is ahead of itself.
pub ahead_irreflexive : (a : Entry) → is_ahead a a ≡ false
ahead_irreflexive a = search rules

-- Who is ahead of one ahead is ahead.
pub ahead_transitive : (a b c : Entry) → is_ahead a b ≡ true → is_ahead b c ≡ true → is_ahead a c ≡ true
ahead_transitive a b c first then = search rules

-- Where one is ahead of another, a third is ahead of the other or has the one ahead of it.
pub ahead_weak : (a b c : Entry) → is_ahead a b ≡ true → (is_ahead c b || is_ahead a c) ≡ true
ahead_weak a b c above = search rules
