-- A sight written part by part, and what is answered to it, for `write_sight` and `sight`.
use Rattle.std.proofs.Common.{◌≡◌, ℕ, ◌+◌, ◌-◌, ◌≤◌, Bool, true, false, cond, ltb, ltb-false, List, ◌++◌, length, take, drop, replicate, Some, None, Ok, Option, sym, refl, ap, ◌∙◌, arith}
use borrow.Rule.Slice.PartMut.{put_mid}
use Rattle.std.proofs.lemmas.List.{append_assoc, drop_at, drop-drop, length-append, length-drop, length-replicate, length-take-le, take_at}
use Rattle.cards.specs.declared.refusals.Refusal.TheVariants.{BufferTooShort}
use Rattle.cards.specs.declared.seats.Seat.{Seat}
use Rattle.cards.specs.Refusals.{answered}
use Rattle.rules.specs.declared.deals.Deal.{Deal}
use Rattle.rules.specs.Piles.{holding, marked, padded}
use Rattle.rules.specs.Sight.{buffer_after, bytes_of, head_bytes, put_seen_by, seen_by, shown_in, sight_of, sight_refusal}

pub padded_length : (n filler : ℕ) (xs : List ℕ) → length (padded n filler xs) ≡ n
padded_length n filler xs =
    length-take-le n (xs ++ replicate n filler) (omega (arith, length-append xs (replicate n filler), length-replicate {A = ℕ} n filler))

-- a part that is written right behind others
behind : (xs front ys : List ℕ) (n k : ℕ) → length front ≡ n → put_mid n k (front ++ drop n xs) ys ≡ (front ++ ys) ++ drop (n + k) xs
behind xs front ys n k long =
    ap (λ zs. zs ++ (ys ++ drop k (drop n (front ++ drop n xs)))) (take_at front (drop n xs) n long)
    ∙ (ap (λ zs. front ++ (ys ++ drop k zs)) (drop_at front (drop n xs) n long)
    ∙ (ap (λ zs. front ++ (ys ++ zs)) (drop-drop k n xs)
    ∙ sym (append_assoc front ys (drop (n + k) xs))))

-- three parts that are written one behind another, and a fourth
module _ (xs a b c : List ℕ) (long-a : length a ≡ 18) (long-b : length b ≡ 12) (long-c : length c ≡ 10) where
  three : put_mid 30 10 (put_mid 18 12 (a ++ drop 18 xs) b) c ≡ ((a ++ b) ++ c) ++ drop 40 xs
  three = ap (λ zs. put_mid 30 10 zs c) (behind xs a b 18 12 long-a) ∙ behind xs (a ++ b) c 30 10 (omega (arith, length-append a b))

  pub three_length : length (put_mid 30 10 (put_mid 18 12 (a ++ drop 18 xs) b) c) ≡ 40 + (length xs - 40)
  three_length = omega (arith, ap length three, length-append ((a ++ b) ++ c) (drop 40 xs), length-append (a ++ b) c, length-append a b, length-drop 40 xs)

  parts : (d : List ℕ) → put_mid 40 2 (put_mid 30 10 (put_mid 18 12 (a ++ drop 18 xs) b) c) d ≡ (a ++ (b ++ (c ++ d))) ++ drop 42 xs
  parts d =
      ap (λ zs. put_mid 40 2 zs d) three
      ∙ (behind xs ((a ++ b) ++ c) d 40 2 (omega (arith, length-append (a ++ b) c, length-append a b))
      ∙ ap (λ zs. zs ++ drop 42 xs) (append_assoc (a ++ b) c d ∙ append_assoc a b (c ++ d)))

-- the parts of a sight: a is its head, b the hand, c a hand that lies open and d the put cards
module _ (deal : Deal) (seat : Seat) (xs : List ℕ) (room : 42 ≤ length xs) (hand shown put : List Bool)
    (holds : hand ≡ holding seat deal.piles) (shows : marked shown ≡ marked (shown_in deal.common.contract deal.piles)) (puts : marked put ≡ marked (put_seen_by seat deal.common deal.piles))
    (count : ℕ) (a b c d : List ℕ) where
  pub sight_written : count ≡ length (marked hand) → length a ≡ length (take 18 xs) → a ≡ head_bytes deal.common count → b ≡ padded 12 255 (marked hand) → c ≡ padded 10 255 (marked shown) → d ≡ padded 2 255 (marked put)
      → put_mid 40 2 (put_mid 30 10 (put_mid 18 12 (a ++ drop 18 xs) b) c) d ≡ sight_of deal seat ++ drop 42 xs
  unfolding bytes_of
  sight_written counts long-a is-a is_b is_c is-d =
      let head = is-a ∙ ap (head_bytes deal.common) (counts ∙ ap (λ marks. length (marked marks)) holds) in
      parts xs a b c (long-a ∙ length-take-le 18 xs (omega arith)) (ap length is_b ∙ padded_length 12 255 (marked hand)) (ap length is_c ∙ padded_length 10 255 (marked shown)) d
      ∙ ap (λ zs. zs ++ drop 42 xs)
      (λ i. head i ++ ((is_b ∙ ap (λ marks. padded 12 255 (marked marks)) holds) i ++ ((is_c ∙ ap (padded 10 255) shows) i ++ (is-d ∙ ap (padded 2 255) puts) i)))

-- what is answered, and the buffer, where a seat's sight is written and where it is refused
module _ (deal : Deal) (xs : List ℕ) where
  abbrev Seen : List ℕ → Option Seat → Type 0
  Seen bytes o = (42 ≤ length xs) × (Ok (tt {0}) ≡ answered (sight_refusal o (length xs)) (tt {0})) × (bytes ++ drop 42 xs ≡ buffer_after deal o xs)

  seen_when : (bytes : List ℕ) (other : Seat) (short : Bool) → ltb (length xs) 42 ≡ short → Ok bytes ≡ answered (cond short (Some BufferTooShort) None) (sight_of deal other) → Seen bytes (Some other)
  seen_when bytes other true test is = let z : ◌≡◌ {A = ℕ} 0 1 = cc in absurd (omega arith)
  seen_when bytes other false test is =
      let same : bytes ≡ sight_of deal other = cc in (
        ltb-false (length xs) 42 test,
        ap (λ short. answered (cond short (Some BufferTooShort) None) (tt {0})) (sym test),
        ap (λ ys. ys ++ drop 42 xs) same ∙ ap (λ short. cond short xs (sight_of deal other ++ drop 42 xs)) (sym test),
      )

  pub seen : (o : Option Seat) (bytes : List ℕ) → Ok bytes ≡ seen_by deal o (length xs) → Seen bytes o
  seen None bytes is = let z : ◌≡◌ {A = ℕ} 0 1 = cc in absurd (omega arith)
  seen (Some other) bytes is = seen_when bytes other (ltb (length xs) 42) refl is
