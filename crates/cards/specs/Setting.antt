-- What setting a pack gives.
use Rattle.std.specs.Prelude.{◌≡◌, ℕ, List, map, Ok, Err, Result}
use Rattle.std.specs.List.{range_with_len}
use Rattle.cards.specs.declared.packs.BadPack.{BadPack}
use Rattle.cards.specs.declared.packs.UncutPack.{UncutPack}
use Rattle.cards.specs.declared.refusals.Refusal.TheVariants.{NotAPack}
use Rattle.cards.specs.Deck.{card_number}
use Rattle.cards.specs.Packs.{IsPack}

-- A pack of these card numbers from the top, its mark in the middle.
abbrev pub IsPackOf : List ℕ → UncutPack → Type 0
IsPackOf numbers pack = (map card_number pack.cards ≡ numbers) × (pack.mark ≡ 16)

-- The pack of these numbers; or, where they are not 32 different cards, a refusal with a pack in the order 0 to 31.
abbrev pub PackSet : List ℕ → Result UncutPack BadPack → Type 0
PackSet numbers (Ok pack) = IsPack numbers × IsPackOf numbers pack
PackSet numbers (Err bad) = (IsPack numbers → ⊥) × (bad.refusal ≡ NotAPack) × IsPackOf (range_with_len 0 32) bad.pack
