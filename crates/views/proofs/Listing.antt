-- Marks of cards, and their listing by number, for the functions on hands.
use Rattle.std.proofs.Common.{◌≡◌, ℕ, zero, suc, ◌+◌, ◌<◌, ◌≤◌, min, Bool, true, false, cond, List, [], ◌∷◌, ◌++◌, length, get_or, take, set, replicate, sym, refl, ap, ◌∙◌, add-zero, arith}
use Rattle.std.proofs.lemmas.List.{append_assoc, append-nil, length-append, length_push, length-take-le, take-append-le, take_all, take_more, take-replicate}
use mir.Val.{bool_byte}
use Rattle.rules.specs.Piles.{marked, marked_from, padded}

-- one more mark behind others
marked_push : (n : ℕ) (marks : List Bool) (mark : Bool) → marked_from n (marks ++ mark ∷ []) ≡ marked_from n marks ++ cond mark ((n + length marks) ∷ []) []
marked_push n [] true = ap (λ k. k ∷ []) (sym (add-zero n))
marked_push n [] false = refl
marked_push n (true ∷ marks) mark =
    let e : suc n + length marks ≡ n + suc (length marks) = omega arith in
    ap (λ ks. n ∷ ks) (marked_push (suc n) marks mark ∙ ap (λ k. marked_from (suc n) marks ++ cond mark (k ∷ []) []) e)
marked_push n (false ∷ marks) mark =
    let e : suc n + length marks ≡ n + suc (length marks) = omega arith in
    marked_push (suc n) marks mark ∙ ap (λ k. marked_from (suc n) marks ++ cond mark (k ∷ []) []) e

module _ (marks : List Bool) (i : ℕ) (within : i < length marks) where
  more : (mark : Bool) → get_or marks i false ≡ mark → marked (take (i + 1) marks) ≡ marked (take i marks) ++ cond mark (i ∷ []) []
  more mark is =
      let at : 0 + length (take i marks) ≡ i = omega (arith, length-take-le i marks (omega arith)) in
      ap marked (take_more marks i false within)
      ∙ (marked_push 0 (take i marks) (get_or marks i false)
      ∙ (ap (λ k. marked (take i marks) ++ cond (get_or marks i false) (k ∷ []) []) at
      ∙ ap (λ b. marked (take i marks) ++ cond b (i ∷ []) []) is))

  pub marked_yes : get_or marks i false ≡ true → marked (take (i + 1) marks) ≡ marked (take i marks) ++ i ∷ []
  marked_yes is = more true is

  pub marked_no : get_or marks i false ≡ false → marked (take (i + 1) marks) ≡ marked (take i marks)
  marked_no is = more false is ∙ append-nil (marked (take i marks))

-- one mark further on there is one more number or none
pub marked_more : (marks : List Bool) (i : ℕ) → length marks ≡ 32 → i < 32 → (length (marked (take (i + 1) marks)) ≡ length (marked (take i marks)) + bool_byte (get_or marks i false)) × (bool_byte (get_or marks i false) ≤ 1)
marked_more marks i long within = split (get_or marks i false) refl
  where
    before : List ℕ
    before = marked (take i marks)

    split : (mark : Bool) → get_or marks i false ≡ mark → (length (marked (take (i + 1) marks)) ≡ length before + bool_byte mark) × (bool_byte mark ≤ 1)
    split true is = (ap length (marked_yes marks i (omega (arith, long)) is) ∙ (length_push before i ∙ omega arith), omega arith)
    split false is = (ap length (marked_no marks i (omega (arith, long)) is) ∙ omega arith, omega arith)

pub marked_all : (marks : List Bool) (i : ℕ) → length marks ≤ i → marked (take i marks) ≡ marked marks
marked_all marks i end = ap marked (take_all i marks end)

-- one more number is listed where there is room, and left out where there is none
pad_room : (filler : ℕ) (xs : List ℕ) (n m x : ℕ) → n ≤ m → length xs < n → take n ((xs ++ x ∷ []) ++ replicate m filler) ≡ set (take n (xs ++ replicate m filler)) (length xs) x
pad_room filler [] zero m x h l = absurd (omega arith)
pad_room filler [] (suc n) zero x h l = absurd (omega arith)
pad_room filler [] (suc n) (suc m) x h l =
    ap (λ ys. x ∷ ys) (take-replicate n (suc m) filler (omega arith) ∙ sym (take-replicate n m filler (omega arith)))
pad_room filler (y ∷ xs) zero m x h l = absurd (omega arith)
pad_room filler (y ∷ xs) (suc n) m x h l = ap (λ ys. y ∷ ys) (pad_room filler xs n m x (omega arith) (omega arith))

-- the first i marks are gone through: as many numbers are listed as there are, or as there is room for
abbrev pub Listed : ℕ → List Bool → ℕ → ℕ → List ℕ → Type 0
Listed room marks i count numbers =
    (count ≡ min room (length (marked (take i marks)))) × (numbers ≡ padded room 255 (marked (take i marks)))

module _ (room : ℕ) (marks : List Bool) (i count : ℕ) (numbers : List ℕ) (within : i < length marks) (sofar : Listed room marks i count numbers) where
  abbrev before : List ℕ
  before = marked (take i marks)

  pub listed_yes : get_or marks i false ≡ true → count < room → Listed room marks (i + 1) (count + 1) (set numbers count i)
  listed_yes is room-left =
      let at : count ≡ length before = omega (arith, sofar.0) in
      let more = marked_yes marks i within is in (
        omega (arith, ap length more, length-append before (i ∷ [])),
        ap (λ ns. set ns count i) sofar.1
            ∙ (ap (λ k. set (padded room 255 before) k i) at
            ∙ sym (ap (padded room 255) more ∙ pad_room 255 before room room i (omega arith) (omega arith))),
      )

  pub listed_full : get_or marks i false ≡ true → room ≤ count → Listed room marks (i + 1) count numbers
  listed_full is full =
      let past : room ≤ length before = omega (arith, sofar.0) in
      let more = marked_yes marks i within is in (
        omega (arith, ap length more, length-append before (i ∷ []), sofar.0),
        sofar.1
            ∙ sym
            (ap (padded room 255) more
            ∙ (ap (take room) (append_assoc before (i ∷ []) (replicate room 255))
            ∙ (take-append-le room before (i ∷ replicate room 255) past
            ∙ sym (take-append-le room before (replicate room 255) past)))),
      )

  pub listed_no : get_or marks i false ≡ false → Listed room marks (i + 1) count numbers
  listed_no is =
      let same = marked_no marks i within is in
      (sofar.0 ∙ ap (λ ns. min room (length ns)) (sym same), sofar.1 ∙ ap (padded room 255) (sym same))
