use Rattle.std.proofs.Common.{◌≡◌, ℕ, List, [], ◌∷◌, length, get_or, vec_items, ap, ◌∙◌}
use Rattle.series.specs.Format.{games, in_two, in_four, file_length, header}
use Rattle.series.specs.Rows.{places_number}
use Rattle.series.proofs.lists.Sheet.header.Goals as goal

-- the bytes, with those of each field taken from a list of them
abbrev fields : ℕ → List ℕ → List ℕ → List ℕ → List ℕ
fields places rows games whole =
    83 ∷ (75 ∷ (76 ∷ (49 ∷ (places ∷ (0 ∷ (get_or rows 0 0 ∷ (get_or rows 1 0 ∷ (get_or games 0 0 ∷ (get_or games 1 0 ∷ (16 ∷ (0 ∷ (get_or whole 0 0 ∷ (get_or whole 1 0 ∷ (get_or whole 2 0 ∷ (get_or whole 3 0 ∷ [])))))))))))))))

fields_are : (places rows games n : ℕ) (p q r : List ℕ) → n ≡ places → p ≡ in_two rows → q ≡ in_two games → r ≡ in_four (file_length rows) → fields n p q r ≡ header places rows games
unfolding header
fields_are places rows games n p q r h i j k = cc

pub returns : goal.returns
returns c =
    let sheet = c.args.self.now in
    let rows = vec_items sheet.rows in
    let is = c.as_slice-rows.ensures.value in
    fields_are (places_number sheet.places) (length rows) (games rows) _ _ _ _ c.from.ensures
    (c.to_le_bytes.ensures ∙ ap (λ rs. in_two (length rs)) is)
    (c.to_le_bytes-2.ensures ∙ ap in_two (c.count_games.ensures ∙ ap games is))
    (c.to_le_bytes-3.ensures ∙ ap (λ rs. in_four (file_length (length rs))) is)
