use Rattle.std.proofs.Common.{◌≡◌, ◌≤◌, Bool, true, length}
use Rattle.rules.specs.declared.deals.Pile.{Pile}
use Rattle.views.proofs.Counting.{eyes_below}
use Rattle.views.proofs.results.eyes_where.Given as goal

abbrev pub invariant-loop-pile : goal.invariant-loop-pile
invariant-loop-pile g l = record {
  bounded : l.eyes ≤ eyes_below (λ _. true) l.piles (length l.yielded);
  exact : (test : Pile → Bool) → ((pile : Pile) (yes : Bool) → goal.F-post g l.fn.counts pile yes → yes ≡ test pile) → l.eyes ≡ eyes_below test l.piles (length l.yielded);
}
