-- A scan that moves on only to an item ahead of the one it has ends at the first, for `first`.
-- That none is ahead of it rests on `irreflexive` and `transitive` alone; that it is the earliest such rests on `weak` too.
use Rattle.std.proofs.Common.{◌≡◌, ℕ, ◌+◌, ◌<◌, ◌≤◌, Bool, true, false, cond, ◌||◌, List, [], ◌∷◌, length, get_or, refl, ap, ◌∙◌, ⊎_elim, arith, below_more}
use Rattle.std.proofs.lemmas.Bool.{both_ways, cases_order, or_cases}
use Rattle.cards.specs.First.{IsFirst}

-- none of the first i items is ahead of the one at b
abbrev pub NoneBefore : {A : Type 0} → (A → A → Bool) → List A → ℕ → ℕ → Type 0
NoneBefore {A} ahead items i b = (k : ℕ) (d : A) → k < i → ahead (get_or items k d) (get_or items b d) ≡ false

-- the item at b is ahead of each before it
abbrev pub AheadOfEarlier : {A : Type 0} → (A → A → Bool) → List A → ℕ → Type 0
AheadOfEarlier {A} ahead items b = (k : ℕ) (d : A) → k < b → ahead (get_or items b d) (get_or items k d) ≡ true

-- the best of the first i items
pub record Best {A : Type 0} (ahead : A → A → Bool) (items : List A) (i b : ℕ) : Type 0 where
  pub within : b < length items
  pub none : NoneBefore ahead items i b
  pub early : AheadOfEarlier ahead items b

refuted : (t : Bool) → (t ≡ true → ⊥) → t ≡ false
refuted true h = absurd (h refl)
refuted false h = refl

-- the new item is not ahead: no law is needed
module _ {A : Type 0} (ahead : A → A → Bool) (items : List A) (i b : ℕ) (sofar : Best ahead items i b) where
  keeps : ((d : A) → ahead (get_or items i d) (get_or items b d) ≡ false) → Best ahead items (i + 1) b
  keeps behind = record {
    within = sofar.within;
    none = λ k d. below_more (λ k. ahead (get_or items k d) (get_or items b d) ≡ false) i (λ k h. sofar.none k d h) (behind d) k;
    early = sofar.early;
  }

-- the new item is ahead
module _ {A : Type 0} (ahead : A → A → Bool) (items : List A) (i b : ℕ) (sofar : Best ahead items i b) (transitive : (a b c : A) → ahead a b ≡ true → ahead b c ≡ true → ahead a c ≡ true) (leads : (d : A) → ahead (get_or items i d) (get_or items b d) ≡ true) where
  takes_none : ((a : A) → ahead a a ≡ false) → NoneBefore ahead items (i + 1) i
  takes_none irreflexive k d =
      below_more
      (λ k. ahead (get_or items k d) (get_or items i d) ≡ false)
      i
      (λ k h. refuted _ (λ t. both_ways _ (sofar.none k d h) (transitive _ _ _ t (leads d))))
      (irreflexive (get_or items i d))
      k

  takes_early : ((a b c : A) → ahead a b ≡ true → (ahead c b || ahead a c) ≡ true) → AheadOfEarlier ahead items i
  takes_early weak k d lt = ⊎_elim
      (λ e. ap (λ j. ahead (get_or items i d) (get_or items j d)) e ∙ leads d)
      (⊎_elim
      (λ less. transitive _ _ _ (leads d) (sofar.early k d less))
      (λ more. ⊎_elim (λ t. absurd (both_ways _ (sofar.none k d lt) t)) (λ t. t) (or_cases _ _ (weak (get_or items i d) (get_or items b d) (get_or items k d) (leads d)))))
      (cases_order k b)

module _
    {A : Type 0}
    (ahead : A → A → Bool)
    (irreflexive : (a : A) → ahead a a ≡ false)
    (transitive : (a b c : A) → ahead a b ≡ true → ahead b c ≡ true → ahead a c ≡ true)
    (weak : (a b c : A) → ahead a b ≡ true → (ahead c b || ahead a c) ≡ true) where
  -- one item more: the best is the new one if it is ahead, else the old
  pub best_more : (items : List A) (i b next : ℕ) → i < length items → Best ahead items i b → (t : Bool) → ((d : A) → ahead (get_or items i d) (get_or items b d) ≡ t) → next ≡ cond t i b → Best ahead items (i + 1) next
  best_more items i b next within sofar true leads chosen =
      rw chosen (record {
        within = within;
        none = takes_none ahead items i b sofar transitive leads irreflexive;
        early = takes_early ahead items i b sofar transitive leads weak;
      })
  best_more items i b next within sofar false behind chosen = rw chosen (keeps ahead items i b sofar behind)

-- the best of all is the first
pub is_first : {A : Type 0} (ahead : A → A → Bool) (items : List A) (i b : ℕ) → length items ≤ i → Best ahead items i b → IsFirst ahead items b
is_first ahead [] i b le best = absurd (omega (arith, best.within))
is_first ahead (x ∷ items) i b le best = (
  best.within,
  (λ k d l. best.none k d (omega arith)),
  (λ k l none. both_ways _ (none b x best.within) (best.early k x l)),
)

-- the best of one item is that item
pub best_one : {A : Type 0} (ahead : A → A → Bool) → ((a : A) → ahead a a ≡ false) → (items : List A) → 0 < length items → Best ahead items 1 0
best_one ahead irreflexive items some = record {
  within = some;
  none = λ k d lt. let z : k ≡ 0 = omega arith in ap (λ j. ahead (get_or items j d) (get_or items 0 d)) z ∙ irreflexive (get_or items 0 d);
  early = λ k d lt. absurd (omega arith);
}
