-- Records one after the other, each of which may be there.
-- No loop over bytes looks at the draft: its invariant is Makes bytes reading rest.
use Rattle.std.proofs.Common.{◌≡◌, ℕ, List, [], ◌∷◌, ◌++◌, Ok, refl, ap, subst, ◌∙◌}
use Rattle.std.specs.List.{flat_map}
use Rattle.cm_lists.proofs.Pieces.{flat_map_push}
use Rattle.ex_image.specs.Grammar.{Leads, Makes, MayStand}
use Rattle.ex_image.specs.Reading.{Reading, record_at, start, with_record}
use Rattle.ex_image.specs.Record.{Entry, record_text}
use Rattle.ex_image.proofs.RecordLaws.{record_takes}

-- records, and after them others
pub leads_append : (from middle to : Reading) (records more : List (Entry × List ℕ)) → Leads from records middle
    → Leads middle more to → Leads from (records ++ more) to
leads_append from middle to [] more one two = subst (λ at. Leads at more to) one two
leads_append from middle to (next ∷ records) more one two =
    (one.0, leads_append (with_record from next) middle to records more one.1 two)

-- one record more
pub leads_more : (from middle : Reading) (records : List (Entry × List ℕ)) (next : Entry × List ℕ)
    → Leads from records middle → MayStand middle next → Leads from (records ++ next ∷ []) (with_record middle next)
leads_more from middle records next one stands =
    leads_append from middle (with_record middle next) records (next ∷ []) one (stands, refl)

-- nothing is read of all bytes
pub makes_start : (bytes : List ℕ) → Makes bytes start bytes
unfolding Makes
makes_start bytes = ([], refl, refl)

-- one record more is read
pub makes_more : (bytes : List ℕ) (reading : Reading) (rest : List ℕ) (part : (Entry × List ℕ) × List ℕ)
    → Makes bytes reading rest → record_at reading rest ≡ Ok part → Makes bytes (with_record reading part.0) part.1
unfolding Makes
makes_more bytes reading rest part made is =
    let taken = record_takes reading rest part is in (
      made.0 ++ part.0 ∷ [],
      leads_more start reading made.0 part.0 made.1 taken.stands,
      made.2 ∙ ap (λ rest. flat_map record_text made.0 ++ rest) taken.joined
          ∙ flat_map_push record_text made.0 part.0 part.1,
    )
