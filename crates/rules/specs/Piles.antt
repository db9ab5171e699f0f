-- Where the cards lie: hands, skat, and the cards of a pile.
use Rattle.std.specs.Prelude.{ℕ, suc, Bool, true, false, cond, List, [], ◌∷◌, ◌++◌, map, take, replicate, sum_by, ◌==◌, slice_index_or}
use Rattle.std.specs.List.{range_with_len}
use Rattle.cards.specs.declared.deck.Card.{Card}
use Rattle.cards.specs.declared.seats.Seat.{Seat}
use Rattle.cards.specs.Deck.{card_number, card_at, eyes_of}
use Rattle.cards.specs.Seats.{seat_number}
use Rattle.rules.specs.declared.deals.Pile.{Pile}
use Rattle.rules.specs.declared.deals.Pile.TheVariants.{InHand, InSkat, InTrick, WithDeclarer, WithDefenders}

abbrev pub is_seat : Seat → Seat → Bool
is_seat a b = seat_number a == seat_number b

-- The 32 cards in the order of their numbers.
unfoldable pub deck : List Card
deck = map card_at (range_with_len 0 32)

-- Where a card lies, of piles listed by the cards' numbers.
abbrev pub pile_in : List Pile → Card → Pile
pile_in piles card = slice_index_or piles (card_number card) InSkat

abbrev pub is_held : Seat → Pile → Bool
is_held seat (InHand holder) = is_seat seat holder
is_held seat InSkat = false
is_held seat InTrick = false
is_held seat WithDeclarer = false
is_held seat WithDefenders = false

abbrev pub is_in_skat : Pile → Bool
is_in_skat (InHand holder) = false
is_in_skat InSkat = true
is_in_skat InTrick = false
is_in_skat WithDeclarer = false
is_in_skat WithDefenders = false

abbrev pub is_held_or_in_skat : Seat → Pile → Bool
is_held_or_in_skat seat (InHand holder) = is_seat seat holder
is_held_or_in_skat seat InSkat = true
is_held_or_in_skat seat InTrick = false
is_held_or_in_skat seat WithDeclarer = false
is_held_or_in_skat seat WithDefenders = false

-- A hand, and the skat or the put cards, as a mark for each card.
abbrev pub holding : Seat → List Pile → List Bool
holding seat piles = map (is_held seat) piles

abbrev pub skat_of : List Pile → List Bool
skat_of piles = map is_in_skat piles

-- The numbers of the cards that are marked, rising.
abbrev pub marked_from : ℕ → List Bool → List ℕ
marked_from n [] = []
marked_from n (mark ∷ marks) = cond mark (n ∷ marked_from (suc n) marks) (marked_from (suc n) marks)

abbrev pub marked : List Bool → List ℕ
marked marks = marked_from 0 marks

-- So many, and something else behind where there are fewer.
abbrev pub padded : {A : Type 0} → ℕ → A → List A → List A
padded n filler items = take n (items ++ replicate n filler)

-- The cards that a seat holds or that lie in the skat, rising.
abbrev pub hand_and_skat : Seat → List Pile → List Card
hand_and_skat seat piles = map card_at (marked (map (is_held_or_in_skat seat) piles))

-- What counts for the declarer at the end: the tricks, and the skat or the put cards; and what for the defenders.
abbrev pub is_declarers : Pile → Bool
is_declarers (InHand holder) = false
is_declarers InSkat = true
is_declarers InTrick = false
is_declarers WithDeclarer = true
is_declarers WithDefenders = false

abbrev pub is_defenders : Pile → Bool
is_defenders (InHand holder) = false
is_defenders InSkat = false
is_defenders InTrick = false
is_defenders WithDeclarer = false
is_defenders WithDefenders = true

-- The eyes of the cards that lie in certain piles.
abbrev pub eyes_where : (Pile → Bool) → (Card → Pile) → ℕ
eyes_where counts lies = sum_by (λ card. cond (counts (lies card)) (eyes_of card) 0) deck
