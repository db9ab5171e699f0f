-- How often a number occurs in a pack that was cut, and in numbers in order.
use Rattle.std.proofs.Common.{◌≡◌, ℕ, ◌+◌, ◌<◌, ◌≤◌, Bool, cond, eqb, List, map, length, get_or, take, drop, set, sym, ap, ◌∙◌, arith, below_more}
use Rattle.std.proofs.lemmas.List.{map-append, map-set, drop-map, take-map, length-map, take-take, get_or-set_same, get_or-set_other}
use Rattle.std.proofs.lemmas.List.Sums.{sum_by-append, sum_by_more, sum_by-take-drop, sum_by-take-le}
use Rattle.std.proofs.lemmas.Bool.{eq-eqb}
use Rattle.cards.specs.declared.deck.Card.{Card}
use Rattle.cards.specs.Deck.{card_number}
use Rattle.cards.specs.Packs.{times, cut_at}

abbrev pub bit : Bool → ℕ
bit b = cond b 1 0

-- a cut moves the numbers and keeps how often each occurs
pub times_cut : {A : Type 0} (f : A → ℕ) (n k : ℕ) (xs : List A) → times n (map f (cut_at k xs)) ≡ times n (map f xs)
times_cut f n k xs =
    let test = λ (x : ℕ). bit (eqb n x) in
    let parts : times n (map f (cut_at k xs)) ≡ times n (drop k (map f xs)) + times n (take k (map f xs)) =
    ap (times n) (map-append f (drop k xs) (take k xs))
    ∙ (sum_by-append test (map f (drop k xs)) (map f (take k xs))
    ∙ (ap (λ ys. times n ys + times n (map f (take k xs))) (sym (drop-map f k xs))
    ∙ ap (λ ys. times n (drop k (map f xs)) + times n ys) (sym (take-map f k xs)))) in
    omega (arith, parts, sum_by-take-drop test (map f xs) k)

-- cards written one by one in the order of their numbers
pub ordered_more : (cards : List Card) (i : ℕ) (card : Card) → i < length cards → card_number card ≡ i → ((k : ℕ) → k < i → get_or (map card_number cards) k 0 ≡ k) → (k : ℕ) → k < i + 1 → get_or (map card_number (set cards i card)) k 0 ≡ k
ordered_more cards i card lt is before =
    let numbers = map card_number cards in
    let here : i < length numbers = omega (arith, length-map cards card_number) in
    let after : map card_number (set cards i card) ≡ set numbers i i = map-set card_number cards i card ∙ ap (set numbers i) is in
    below_more
    (λ k. get_or (map card_number (set cards i card)) k 0 ≡ k)
    i
    (λ k h. ap (λ ns. get_or ns k 0) after ∙ (get_or-set_other numbers i k i 0 (λ e. omega arith) ∙ before k h))
    (ap (λ ns. get_or ns i 0) after ∙ get_or-set_same numbers i i 0 here)

-- where no number occurs twice, two places have different numbers
pub apart : (numbers : List ℕ) (n j k : ℕ) → times n numbers ≤ 1 → j < k → k < length numbers → get_or numbers j 0 ≡ n → get_or numbers k 0 ≡ n → ⊥
apart numbers n j k once lt within at_j at-k =
    let test = λ (x : ℕ). bit (eqb n x) in
    let here : bit (eqb n (get_or numbers j 0)) ≡ 1 = ap bit (eq-eqb n (get_or numbers j 0) (sym at_j)) in
    let there : bit (eqb n (get_or numbers k 0)) ≡ 1 = ap bit (eq-eqb n (get_or numbers k 0) (sym at-k)) in
    let early : times n (take (j + 1) (take k numbers)) ≡ times n (take (j + 1) numbers) = ap (times n) (take-take (j + 1) k numbers (omega arith)) in
    omega (
      arith,
      sum_by_more test numbers j 0 (omega arith),
      sum_by_more test numbers k 0 within,
      sum_by-take-le test (take k numbers) (j + 1),
      sum_by-take-le test numbers (k + 1),
    )
