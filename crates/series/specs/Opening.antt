-- What opening a list gives.
use Rattle.std.specs.Prelude.{◌≡◌, ℕ, false, [], Ok, Err, vec_items, Result}
use Rattle.cards.specs.declared.refusals.Refusal.TheVariants.{NotAList}
use Rattle.series.specs.declared.rows.Places.{Places}
use Rattle.series.specs.declared.rows.Places.TheVariants.{Three}
use Rattle.series.specs.declared.lists.List.{List as ListOf}
use Rattle.series.specs.declared.lists.Open.{Open}
use Rattle.series.specs.declared.lists.NotOpened.{NotOpened}
use Rattle.series.specs.declared.lists.NotOpened.TheVariants.{Refused, OutOfMemory}
use Rattle.series.specs.Rows.{places_number, is_places}

-- A list without rows, of these places.
abbrev pub IsEmpty : Places → ListOf Open → Type 0
IsEmpty places list = (list.sheet.places ≡ places) × (vec_items list.sheet.rows ≡ [])

-- An empty list of as many places as asked; or, where no list has so many, a refusal with an empty list of three.
abbrev pub Opened : ℕ → Result (ListOf Open) NotOpened → Type 0
Opened n (Ok list) = (places_number list.sheet.places ≡ n) × (vec_items list.sheet.rows ≡ [])
Opened n (Err (Refused bad)) = (is_places n ≡ false) × (bad.refusal ≡ NotAList) × IsEmpty Three bad.list
Opened n (Err OutOfMemory) = Unit {0}
