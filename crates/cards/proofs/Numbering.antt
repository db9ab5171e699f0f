-- Numbers read one by one into cards, with a note of those seen, for `named_cards`.
use Rattle.std.proofs.Common.{◌≡◌, ℕ, zero, suc, ◌+◌, ◌<◌, ◌≤◌, Bool, true, false, eqb, List, [], ◌∷◌, map, length, get_or, take, replicate, count_by, sym, refl, ap, ◌∙◌, subst, ⊎_elim, arith}
use Rattle.std.specs.List.{AllByRecursion}
use Rattle.std.proofs.ByRecursion.{All-get_or}
use Rattle.std.proofs.lemmas.List.{get_or_past, get_or-replicate, take_all}
use Rattle.std.proofs.lemmas.List.Sums.{sum_by-cons, sum_by_more, sum_by-take-le, count_by-le-length}
use Rattle.std.proofs.lemmas.Bool.{cases_lt, eq-eqb}
use Rattle.cards.specs.declared.deck.Card.{Card}
use Rattle.cards.specs.Deck.{card_number}
use Rattle.cards.specs.Packs.{times, IsPack}
use Rattle.cards.proofs.Tallies.{bit}

-- i numbers are read: the cards have them, they are cards' numbers, and `seen` marks each of them once
pub record Noted (numbers : List ℕ) (i : ℕ) (cards : List Card) (seen : List Bool) : Type 0 where
  pub room : length cards ≡ 32
  pub long : length seen ≡ 32
  pub named : map card_number (take i cards) ≡ take i numbers
  pub low : AllByRecursion (λ n. n < 32) (take i numbers)
  pub told : (n : ℕ) → times n (take i numbers) ≡ bit (get_or seen n false)
  pub marked : count_by (λ b. b) seen ≡ i

none_seen : (n : ℕ) → get_or (replicate 32 false) n false ≡ false
none_seen n = ⊎_elim (λ h. get_or-replicate 32 n false false h) (λ h. get_or_past (replicate 32 false) n false h) (cases_lt n 32)

pub noted_none : (numbers : List ℕ) (cards : List Card) → length cards ≡ 32 → Noted numbers 0 cards (replicate 32 false)
noted_none numbers cards long = record {
  room = long;
  long = refl;
  named = refl;
  low = tt;
  told = λ n. ap bit (sym (none_seen n));
  marked = refl;
}

-- a list of which as many are true as it has is true throughout
full : (bs : List Bool) → count_by (λ b. b) bs ≡ length bs → (n : ℕ) → n < length bs → get_or bs n false ≡ true
full [] e n h = absurd (omega arith)
full (true ∷ bs) e zero h = refl
full (true ∷ bs) e (suc n) h = full bs (omega (arith, sum_by-cons bit true bs)) n (omega arith)
full (false ∷ bs) e n h = absurd (omega (arith, sum_by-cons bit false bs, count_by-le-length (λ b. b) bs))

module _ (numbers : List ℕ) (i : ℕ) (cards : List Card) (seen : List Bool) (sofar : Noted numbers i cards seen) (within : i < length numbers) where
  step : (n : ℕ) → times n (take (i + 1) numbers) ≡ times n (take i numbers) + bit (eqb n (get_or numbers i 0))
  step n = sum_by_more (λ x. bit (eqb n x)) numbers i 0 within

  pub noted_twice : (n : ℕ) → n ≡ get_or numbers i 0 → get_or seen n false ≡ true → IsPack numbers → ⊥
  noted_twice n is again pack =
      let before : times n (take i numbers) ≡ 1 = sofar.told n ∙ ap bit again in
      let here : bit (eqb n (get_or numbers i 0)) ≡ 1 = ap bit (eq-eqb n (get_or numbers i 0) is) in
      omega (arith, step n, sum_by-take-le (λ x. bit (eqb n x)) numbers (i + 1), pack.2 n)

  pub noted_high : 32 ≤ get_or numbers i 0 → IsPack numbers → ⊥
  noted_high high pack = omega (arith, All-get_or (λ n. n < 32) numbers i 0 within pack.1)

-- all 32 are read
module _ (numbers : List ℕ) (i : ℕ) (cards : List Card) (seen : List Bool) (all : Noted numbers i cards seen) (long : length numbers ≡ 32) (end : 32 ≤ i) where
  pub noted_names : map card_number cards ≡ numbers
  noted_names =
      let a = take_all i cards (omega (arith, all.room)) in
      let b = take_all i numbers (omega arith) in
      let c = all.named in
      cc

  told_all : (n : ℕ) → times n numbers ≡ bit (get_or seen n false)
  told_all n = ap (times n) (sym (take_all i numbers (omega arith))) ∙ all.told n

  at_most : (b : Bool) → bit b ≤ 1
  at_most true = omega arith
  at_most false = omega arith

  pub noted_pack : IsPack numbers
  noted_pack = (
    long,
    subst (AllByRecursion (λ n. n < 32)) (take_all i numbers (omega arith)) all.low,
    (λ n. omega (arith, told_all n, at_most (get_or seen n false))),
  )

  pub noted_once : (n : ℕ) → n < 32 → times n numbers ≡ 1
  noted_once n small =
      let some = count_by-le-length (λ b. b) seen in
      told_all n ∙ ap bit (full seen (omega (arith, all.long, all.marked)) n (omega (arith, all.long)))
