-- The entries of a list's places, and the totals and rank behind each, for the report.
use Rattle.std.proofs.Common.{◌≡◌, ℕ, ◌+◌, ◌<◌, ◌≤◌, true, cond, ltb, List, [], ◌∷◌, ◌++◌, map, length, Some, None, Ok, Err, Option, Result, sym, refl, ap, ◌∙◌, subst, arith}
use Rattle.std.specs.List.{range_with_len, flat_map}
use Rattle.std.proofs.lemmas.List.FromFn.{map-range_with_len_more, length-map-range_with_len}
use Rattle.std.proofs.lemmas.List.{flat_map_more, map-id}
use Rattle.std.proofs.lemmas.Bool.{lt-ltb}
use Rattle.cards.specs.declared.refusals.Refusal.{Refusal}
use Rattle.cards.specs.Refusals.{answered}
use Rattle.series.specs.declared.rows.Places.{Places}
use Rattle.series.specs.declared.rows.Places.TheVariants.{Three, Four}
use Rattle.series.specs.declared.rows.Row.{Row}
use Rattle.series.specs.Format.{file_of, file_refusal}
use Rattle.series.specs.Rows.{places_number, are_rows}
use Rattle.ranking.specs.declared.standings.Entry.{Entry}
use Rattle.ranking.specs.Reports.{entry_for, entries_of, IsStanding, IsReport, ReportBy}

-- an answer that comes under a test that holds
pub answer_is : {A : Type 0} (i n : ℕ) (x y : A) (refusal : Refusal) → i < n → Ok x ≡ cond (ltb i n) (Ok y) (Err refusal) → x ≡ y
answer_is i n x y refusal lt e =
    let ok : ◌≡◌ {A = Result _ Refusal} (Ok x) (Ok y) = e ∙ ap (λ b. cond b (Ok y) (Err refusal)) (lt-ltb i n lt) in
    cc

pub few_places : (places : Places) → places_number places ≤ 4
few_places Three = omega arith
few_places Four = omega arith

pub length_counted : (n : ℕ) (rows : List Row) (k : ℕ) (entries : List Entry) → entries ≡ map (entry_for n rows) (range_with_len 0 k) → length entries ≡ k
length_counted n rows k entries are = ap length are ∙ length-map-range_with_len (entry_for n rows) 0 k

pub length_entries : (n : ℕ) (rows : List Row) (entries : List Entry) → entries ≡ entries_of n rows → length entries ≡ n
length_entries n rows entries are = length_counted n rows n entries are

pub entries_more : (n : ℕ) (rows : List Row) (k : ℕ) (before : List Entry) (entry : Entry) → before ≡ map (entry_for n rows) (range_with_len 0 k) → entry ≡ entry_for n rows k → before ++ entry ∷ [] ≡ map (entry_for n rows) (range_with_len 0 (k + 1))
entries_more n rows k before entry sofar is =
    ap (λ es. es ++ entry ∷ []) sofar
    ∙ (ap (λ e. map (entry_for n rows) (range_with_len 0 k) ++ e ∷ []) is ∙ sym (map-range_with_len_more (entry_for n rows) 0 k k (omega arith)))

counting_more : (k : ℕ) → range_with_len 0 (k + 1) ≡ range_with_len 0 k ++ k ∷ []
counting_more k = sym (map-id (range_with_len 0 (k + 1))) ∙ (map-range_with_len_more (λ x. x) 0 k k (omega arith) ∙ ap (λ ks. ks ++ k ∷ []) (map-id (range_with_len 0 k)))

-- a text that grows place by place
pub text_more : (f : ℕ → List ℕ) (k : ℕ) (before after : List ℕ) → before ≡ flat_map f (range_with_len 0 k) → after ≡ before ++ f k → after ≡ flat_map f (range_with_len 0 (k + 1))
text_more f k before after sofar added =
    added
    ∙ (ap (λ bytes. bytes ++ f k) sofar ∙ (flat_map_more f [] (range_with_len 0 k) k ∙ ap (flat_map f) (sym (counting_more k))))

-- what is not refused is accepted
accepted : (o : Option Refusal) → ◌≡◌ {A = Result (Unit {0}) Refusal} (Ok tt) (answered o tt) → o ≡ None
accepted None e = refl
accepted (Some refusal) e = let z : ◌≡◌ {A = ℕ} 0 1 = cc in absurd (omega arith)

pub report_standing : (file text : List ℕ) (places : Places) (rows : List Row) → ◌≡◌ {A = Result (Unit {0}) Refusal} (Ok tt) (answered (file_refusal file) tt) → are_rows rows ≡ true → file_of places rows ≡ file → IsStanding (places_number places) rows text → IsReport file text
report_standing file text places rows ok good is standing =
    let P : Option Refusal → Type 0 = λ o. ReportBy o file text in
    subst P (sym (accepted (file_refusal file) ok)) (places, rows, good, is, standing)
