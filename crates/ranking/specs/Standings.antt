-- A standing: who is ahead of whom, and which rank that gives.
use Rattle.std.specs.Prelude.{◌≡◌, ℕ, ◌+◌, ◌<◌, Bool, true, false, cond, List, length, pos, Ok, Err, count_by, Result, ◌≢◌, int_lt, nat_lt, slice_index_or}
use Rattle.cards.specs.declared.refusals.Refusal.{Refusal}
use Rattle.cards.specs.declared.refusals.Refusal.TheVariants.{NoSuchEntry}
use Rattle.ranking.specs.declared.standings.Entry.{Entry}

-- Ahead is the higher rating, then more games won, then fewer lost.
abbrev pub is_ahead : Entry → Entry → Bool
is_ahead a b =
    cond (int_lt b.rating.0 a.rating.0) true (cond (int_lt a.rating.0 b.rating.0) false (cond (nat_lt b.won a.won) true (cond (nat_lt a.won b.won) false (nat_lt a.lost b.lost))))

-- What stands where there is no entry.
abbrev pub no_entry : Entry
no_entry = record { rating = record { 0 = pos 0 }; won = 0; lost = 0 }

-- Whether another is ahead of this entry.
abbrev pub has_ahead : Entry → Entry → Bool
has_ahead entry other = is_ahead other entry

-- How many entries are ahead of the one that stands at i.
abbrev pub number_ahead : List Entry → ℕ → ℕ
number_ahead entries i = count_by (has_ahead (slice_index_or entries i no_entry)) entries

-- Rank is 1 plus the number of entries ahead.
abbrev pub rank_at : List Entry → ℕ → ℕ
rank_at entries i = 1 + number_ahead entries i

-- The rank of an entry, or 27 where it is not there.
abbrev pub rank_answer : List Entry → ℕ → Result ℕ Refusal
rank_answer entries i = cond (nat_lt i (length entries)) (Ok (rank_at entries i)) (Err NoSuchEntry)

-- An entry has rank 1, and none that stands before it has.
abbrev pub EarliestOfRankOne : List Entry → ℕ → Type 0
EarliestOfRankOne entries i = (rank_at entries i ≡ 1) × ((k : ℕ) → k < i → rank_at entries k ≢ 1)
