-- The first entry is the earliest of rank 1, for `first_entry`.
use Rattle.std.proofs.Common.{◌≡◌, ℕ, zero, suc, ◌+◌, ◌<◌, Bool, true, false, cond, List, [], ◌∷◌, length, get_or, Some, None, count_by, Option, refl, ap, ◌∙◌, arith, MatchOption}
use Rattle.std.proofs.lemmas.List.{get_or_default}
use Rattle.std.proofs.lemmas.List.Sums.{sum_by-cons}
use Rattle.cards.specs.First.{IsFirst}
use Rattle.ranking.specs.declared.standings.Entry.{Entry}
use Rattle.ranking.specs.Standings.{is_ahead, has_ahead, no_entry, EarliestOfRankOne}

module _ {A : Type 0} (test : A → Bool) where
  count_cons : (x : A) (xs : List A) → count_by test (x ∷ xs) ≡ cond (test x) 1 0 + count_by test xs
  count_cons x xs = sum_by-cons (λ y. cond (test y) 1 0) x xs

  bit_no : (x : A) → test x ≡ false → cond {A = ℕ} (test x) 1 0 ≡ 0
  bit_no x e = ap (λ b. cond b 1 0) e

  no_bit : (b : Bool) → cond {A = ℕ} b 1 0 ≡ 0 → b ≡ false
  no_bit true e = absurd (omega arith)
  no_bit false e = refl

  -- a test that each fails counts none, and one that counts none each fails
  pub none_counted : (xs : List A) (d : A) → ((k : ℕ) → k < length xs → test (get_or xs k d) ≡ false) → count_by test xs ≡ 0
  none_counted [] d fails = refl
  none_counted (x ∷ xs) d fails =
      omega (arith, count_cons x xs, bit_no x (fails 0 (omega arith)), none_counted xs d (λ k h. fails (suc k) (omega arith)))

  pub each_fails : (xs : List A) (d : A) → count_by test xs ≡ 0 → (k : ℕ) → k < length xs → test (get_or xs k d) ≡ false
  each_fails [] d none k lt = absurd (omega arith)
  each_fails (x ∷ xs) d none zero lt = no_bit (test x) (omega (arith, count_cons x xs))
  each_fails (x ∷ xs) d none (suc k) lt = each_fails xs d (omega (arith, count_cons x xs)) k (omega arith)

pub cases_more : (r : Option ℕ) (P : Type 0) (Q R : ℕ → Type 0) → ((i : ℕ) → Q i → R i) → MatchOption r P Q → MatchOption r P R
cases_more None P Q R more h = h
cases_more (Some i) P Q R more h = more i h

pub earliest_of_rank_one : (entries : List Entry) (i : ℕ) → IsFirst is_ahead entries i → EarliestOfRankOne entries i
earliest_of_rank_one entries i first = (
  omega (arith, none_counted (has_ahead (get_or entries i no_entry)) entries no_entry (λ k h. first.1 k no_entry h)),
  (λ k lt one.
      let none : count_by (has_ahead (get_or entries k no_entry)) entries ≡ 0 = omega arith in
      let within = first.0 in
      first.2 k lt (λ j d h.
      ap (is_ahead (get_or entries j d)) (get_or_default entries k d no_entry (omega arith))
      ∙ each_fails (has_ahead (get_or entries k no_entry)) entries d none j h)),
)
