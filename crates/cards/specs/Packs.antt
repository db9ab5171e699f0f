-- What a pack is, and what a cut does to it.
use Rattle.std.specs.Prelude.{◌≡◌, ℕ, ◌<◌, ◌≤◌, not, ◌&&◌, List, [], ◌∷◌, ◌++◌, length, take, drop, count_by, Option, nat_eq, nat_le}
use Rattle.cards.specs.declared.refusals.Refusal.{Refusal}
use Rattle.cards.specs.declared.refusals.Refusal.TheVariants.{NoSuchMark}
use Rattle.cards.specs.Refusals.{topmost}
use Rattle.std.specs.List.{AllByRecursion}

-- How often a number occurs among several.
abbrev pub times : ℕ → List ℕ → ℕ
times n numbers = count_by (nat_eq n) numbers

-- 32 different cards, by their numbers.
abbrev pub IsPack : List ℕ → Type 0
IsPack numbers = (length numbers ≡ 32) × AllByRecursion (λ n. n < 32) numbers × ((n : ℕ) → times n numbers ≤ 1)

-- A cut at mark k puts the cards from k on before the first k.
abbrev pub cut_at : {A : Type 0} → ℕ → List A → List A
cut_at k cards = drop k cards ++ take k cards

-- A mark leaves at least four cards on either side.
abbrev pub mark_refusal : ℕ → Option Refusal
mark_refusal mark = topmost ((NoSuchMark, not (nat_le 4 mark && nat_le mark 28)) ∷ [])
