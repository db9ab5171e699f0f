-- From a row to its bytes and back, for `read`.
use Rattle.std.proofs.Common.{◌≡◌, ℕ, suc, ◌+◌, ◌-◌, ◌*◌, ◌/◌, ◌%◌, ◌<◌, ◌≤◌, true, cond, List, [], ◌∷◌, ◌++◌, map, length, get_or, ℤ, pos, negsuc, count_by, sym, refl, ap, ◌∙◌, ⊎_elim, mod-eq_of_lt, arith}
use native.Mathlib.Nat.{div-eq_of_lt}
use Rattle.std.proofs.lemmas.Nat.{div-add-mod', div_below, div-mul-add, mod-mul-add}
use Rattle.std.specs.List.{flat_map}
use Rattle.std.proofs.lemmas.List.Sums.{sum_by-cons}
use Rattle.std.proofs.lemmas.Bool.{and_parts, and_from, lt-ltb, le-ltb, cases_lt}
use Rattle.std.proofs.lemmas.Bool.Decides.{nat_tests}
use Rattle.cards.specs.declared.seats.Seat.{Seat}
use Rattle.cards.specs.declared.seats.Seat.TheVariants.{Forehand, Middlehand, Rearhand}
use Rattle.cards.specs.Seats.{seat_number}
use Rattle.series.specs.declared.rows.Row.{Row}
use Rattle.series.specs.declared.rows.Row.TheVariants.{PassedIn, Game}
use Rattle.cards.specs.Units.{is_game_value}
use Rattle.series.specs.Rows.{role_number, points_of, is_game, is_row, are_rows}
use Rattle.series.specs.Format.{RawRow, raw_of, raw_rows, is_raw_row, are_raw_rows, is_raw_game, games, in_two, in_four, bits16, signed16, row_bytes}

pub back16 : (n : ℕ) → n < 65536 → bits16 (signed16 n) ≡ n
back16 n lt = ⊎_elim
    (λ low. ap (λ b. bits16 (cond b (pos n) (negsuc (65536 - suc n)))) (lt-ltb n 32768 low))
    (λ high. ap (λ b. bits16 (cond b (pos n) (negsuc (65536 - suc n)))) (le-ltb n 32768 high) ∙ omega arith)
    (cases_lt n 32768)

-- numbers of 16 and of 32 bits from their bytes
pub two_back : (a b : ℕ) → a < 256 → b < 256 → in_two (a + b * 256) ≡ a ∷ (b ∷ [])
two_back a b p q =
    let n : a + b * 256 ≡ b * 256 + a = omega arith in
    let low : (a + b * 256) % 256 ≡ a = ap (λ k. k % 256) n ∙ mod-mul-add b 256 a p in
    let high : (a + b * 256) / 256 % 256 ≡ b = ap (λ k. k / 256 % 256) n ∙ (ap (λ k. k % 256) (div-mul-add b 256 a p) ∙ mod-eq_of_lt q) in
    ap (λ k. k ∷ ((a + b * 256) / 256 % 256 ∷ [])) low ∙ ap (λ k. a ∷ (k ∷ [])) high

pub four_back : (a b c d : ℕ) → a < 256 → b < 256 → c < 256 → d < 256 → in_four (a + b * 256 + c * 65536 + d * 16777216) ≡ a ∷ (b ∷ (c ∷ (d ∷ [])))
four_back a b c d p q r s =
    let n = a + b * 256 + c * 65536 + d * 16777216 in
    let n1 : n ≡ (b + (c + d * 256) * 256) * 256 + a = omega arith in
    let n2 : n ≡ (c + d * 256) * 65536 + (a + b * 256) = omega arith in
    let n3 : n ≡ d * 16777216 + (a + b * 256 + c * 65536) = omega arith in
    let c1 : b + (c + d * 256) * 256 ≡ (c + d * 256) * 256 + b = omega arith in
    let c2 : c + d * 256 ≡ d * 256 + c = omega arith in
    let i : n % 256 ≡ a = ap (λ k. k % 256) n1 ∙ mod-mul-add _ 256 a p in
    let j : n / 256 % 256 ≡ b = ap (λ k. k / 256 % 256) n1 ∙ (ap (λ k. k % 256) (div-mul-add _ 256 a p ∙ c1) ∙ mod-mul-add (c + d * 256) 256 b q) in
    let k : n / 65536 % 256 ≡ c = ap (λ k. k / 65536 % 256) n2 ∙ (ap (λ k. k % 256) (div-mul-add _ 65536 _ (omega arith) ∙ c2) ∙ mod-mul-add d 256 c r) in
    let l : n / 16777216 % 256 ≡ d = ap (λ k. k / 16777216 % 256) n3 ∙ (ap (λ k. k % 256) (div-mul-add d 16777216 _ (omega arith)) ∙ mod-eq_of_lt s) in
    cc

-- points that a row can count, from their 16 bits
pub worth_back : (z : ℤ) → is_game_value z ≡ true → (bits16 z < 65536) × (signed16 (bits16 z) ≡ z)
worth_back (pos n) ok =
    let low : n ≤ 264 = grind (arith, nat_tests) in
    (omega arith, ap (λ b. cond b (pos n) (negsuc (65536 - suc n))) (lt-ltb n 32768 (omega arith)))
worth_back (negsuc n) ok =
    let high : n ≤ 539 = grind (arith, nat_tests) in
    let m = 65536 - suc n in
    let back : 65536 - suc m ≡ n = omega arith in
    (omega arith, ap (λ b. cond b (pos m) (negsuc (65536 - suc m))) (le-ltb m 32768 (omega arith)) ∙ ap negsuc back)

pub two_join : (n : ℕ) → n < 65536 → n % 256 + n / 256 % 256 * 256 ≡ n
two_join n lt =
    let high : n / 256 < 256 = div_below n 256 256 (omega arith) (omega arith) in
    let h : n / 256 % 256 ≡ n / 256 = mod-eq_of_lt high in
    omega (arith, div-add-mod' n 256, ap (λ k. k * 256) h)

pub small_join : (n : ℕ) → n < 256 → n % 256 + n / 256 % 256 * 256 + n / 65536 % 256 * 65536 + n / 16777216 % 256 * 16777216 ≡ n
small_join n lt =
    let a : n % 256 ≡ n = mod-eq_of_lt lt in
    let b : n / 256 ≡ 0 = div-eq_of_lt lt in
    let c : n / 65536 ≡ 0 = div-eq_of_lt (omega arith) in
    let d : n / 16777216 ≡ 0 = div-eq_of_lt (omega arith) in
    omega (arith, a, ap (λ k. k % 256) b, ap (λ k. k % 256) c, ap (λ k. k % 256) d)

points_back : (row : Row) → is_row row ≡ true → (bits16 (points_of row) < 65536) × (signed16 (bits16 (points_of row)) ≡ points_of row)
points_back PassedIn ok = (omega arith, refl)
points_back (Game declarer points) ok = worth_back points.0 ok

-- the rows in the bytes of rows are those rows
pub raws_of : (rows : List Row) → are_rows rows ≡ true → raw_rows (flat_map row_bytes rows) ≡ map raw_of rows
raws_of [] ok = refl
raws_of (row ∷ rows) ok =
    let parts = and_parts (is_row row) (are_rows rows) ok in
    let back = points_back row parts.0 in
    let n = bits16 (points_of row) in
    let raw : ℤ → RawRow = λ z. record { role = role_number row; second = 0; points = z } in
    ap (λ z. raw z ∷ raw_rows (flat_map row_bytes rows)) (ap signed16 (two_join n back.0) ∙ back.1)
    ∙ ap (λ raws. raw_of row ∷ raws) (raws_of rows parts.1)

-- bytes in which these rows stand are the rows' bytes
pub bytes_of : (part : List ℕ) (rows : List Row) → ((i : ℕ) → get_or part i 0 < 256) → length part ≡ 4 * length rows → raw_rows part ≡ map raw_of rows → part ≡ flat_map row_bytes rows
bytes_of [] [] small long is = refl
bytes_of [] (row ∷ rows) small long is = absurd (omega arith)
bytes_of (a ∷ part) [] small long is = absurd (omega arith)
bytes_of (a ∷ []) (row ∷ rows) small long is = absurd (omega arith)
bytes_of (a ∷ (b ∷ [])) (row ∷ rows) small long is = absurd (omega arith)
bytes_of (a ∷ (b ∷ (c ∷ []))) (row ∷ rows) small long is = absurd (omega arith)
bytes_of (a ∷ (b ∷ (c ∷ (d ∷ part)))) (row ∷ rows) small long is =
    let n = c + d * 256 in
    let raw : RawRow = record { role = a; second = b; points = signed16 n } in
    let head : raw ≡ raw_of row = cc in
    let tail : raw_rows part ≡ map raw_of rows = cc in
    let role : a ≡ role_number row = ap (λ (r : RawRow). r.role) head in
    let second : b ≡ 0 = ap (λ (r : RawRow). r.second) head in
    let points : signed16 n ≡ points_of row = ap (λ (r : RawRow). r.points) head in
    let fits : n < 65536 = omega (arith, small 2, small 3) in
    let bits : n ≡ bits16 (points_of row) = sym (back16 n fits) ∙ ap bits16 points in
    let two : c ∷ (d ∷ []) ≡ in_two (bits16 (points_of row)) = sym (two_back c d (small 2) (small 3)) ∙ ap in_two bits in
    let rest = bytes_of part rows (λ i. small (suc (suc (suc (suc i))))) (omega arith) tail in
    ap (λ k. k ∷ (b ∷ (c ∷ (d ∷ part)))) role
    ∙ (ap (λ k. role_number row ∷ (k ∷ (c ∷ (d ∷ part)))) second
    ∙ (ap (λ ks. role_number row ∷ (0 ∷ (ks ++ part))) two ∙ ap (λ ks. row_bytes row ++ ks) rest))

raw_game : (row : Row) → is_raw_game (raw_of row) ≡ is_game row
raw_game PassedIn = refl
raw_game (Game Forehand points) = refl
raw_game (Game Middlehand points) = refl
raw_game (Game Rearhand points) = refl

pub raw_games : (rows : List Row) → count_by is_raw_game (map raw_of rows) ≡ games rows
raw_games [] = refl
raw_games (row ∷ rows) =
    let here : cond {A = ℕ} (is_raw_game (raw_of row)) 1 0 ≡ cond (is_game row) 1 0 = ap (λ b. cond b 1 0) (raw_game row) in
    omega (arith, sum_by-cons (λ r. cond (is_raw_game r) 1 0) (raw_of row) (map raw_of rows), sum_by-cons (λ r. cond (is_game r) 1 0) row rows, raw_games rows)

raw_good : (row : Row) → is_row row ≡ true → is_raw_row (raw_of row) ≡ true
raw_good PassedIn ok = refl
raw_good (Game Forehand points) ok = and_from (is_game_value points.0) true ok refl
raw_good (Game Middlehand points) ok = and_from (is_game_value points.0) true ok refl
raw_good (Game Rearhand points) ok = and_from (is_game_value points.0) true ok refl

pub raws_good : (rows : List Row) → are_rows rows ≡ true → are_raw_rows (map raw_of rows) ≡ true
raws_good [] ok = refl
raws_good (row ∷ rows) ok =
    let parts = and_parts (is_row row) (are_rows rows) ok in
    and_from (is_raw_row (raw_of row)) (are_raw_rows (map raw_of rows)) (raw_good row parts.0) (raws_good rows parts.1)

same_seat : (s t : Seat) → seat_number s ≡ seat_number t → s ≡ t
same_seat Forehand Forehand e = refl
same_seat Forehand Middlehand e = absurd (omega arith)
same_seat Forehand Rearhand e = absurd (omega arith)
same_seat Middlehand Forehand e = absurd (omega arith)
same_seat Middlehand Middlehand e = refl
same_seat Middlehand Rearhand e = absurd (omega arith)
same_seat Rearhand Forehand e = absurd (omega arith)
same_seat Rearhand Middlehand e = absurd (omega arith)
same_seat Rearhand Rearhand e = refl

seat_low : (s : Seat) → seat_number s < 3
seat_low Forehand = omega arith
seat_low Middlehand = omega arith
seat_low Rearhand = omega arith

-- a row is known by its role and points
same_row : (r s : Row) → raw_of r ≡ raw_of s → r ≡ s
same_row PassedIn PassedIn e = refl
same_row PassedIn (Game t q) e = absurd (omega (arith, ap (λ (x : RawRow). x.role) e, seat_low t))
same_row (Game s p) PassedIn e = absurd (omega (arith, ap (λ (x : RawRow). x.role) e, seat_low s))
same_row (Game s p) (Game t q) e =
    let seats = same_seat s t (ap (λ (x : RawRow). x.role) e) in
    let points : p.0 ≡ q.0 = ap (λ (x : RawRow). x.points) e in
    λ i. Game (seats i) (record { 0 = points i })

pub same_rows : (rs ss : List Row) → map raw_of rs ≡ map raw_of ss → rs ≡ ss
same_rows [] [] e = refl
same_rows [] (s ∷ ss) e = let z : ◌≡◌ {A = ℕ} 0 1 = cc in absurd (omega arith)
same_rows (r ∷ rs) [] e = let z : ◌≡◌ {A = ℕ} 0 1 = cc in absurd (omega arith)
same_rows (r ∷ rs) (s ∷ ss) e =
    let head : raw_of r ≡ raw_of s = cc in
    let tail : map raw_of rs ≡ map raw_of ss = cc in
    let h = same_row r s head in
    let t = same_rows rs ss tail in
    cc
