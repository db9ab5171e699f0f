-- The first of several things, under an order that says which is ahead of which.
use Rattle.std.specs.Prelude.{◌≡◌, ℕ, ◌<◌, Bool, false, List, length, slice_index_or}

-- None of the items is ahead of the one that stands at i.
abbrev pub NoneAhead : {A : Type 0} → (A → A → Bool) → List A → ℕ → Type 0
NoneAhead {A} ahead items i = (k : ℕ) (d : A) → k < length items → ahead (slice_index_or items k d) (slice_index_or items i d) ≡ false

-- The item at i is the earliest that none is ahead of.
abbrev pub IsFirst : {A : Type 0} → (A → A → Bool) → List A → ℕ → Type 0
IsFirst ahead items i = (i < length items) × NoneAhead ahead items i × ((k : ℕ) → k < i → NoneAhead ahead items k → ⊥)
