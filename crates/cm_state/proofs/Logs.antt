-- [log-line] The log of fields that are written one after another.
use Rattle.std.proofs.Common.{◌≡◌, ℕ, ◌+◌, List, [], ◌∷◌, ◌++◌, take, Some, slice_get, get_or, ap, subst, sym, ◌∙◌}
use Rattle.std.proofs.lemmas.List.{append-nil, take_more}
use Rattle.std.proofs.lemmas.Grind.{flat_map-append}
use Rattle.std.proofs.lemmas.Option.{get_or_from_slice_get, slice_get_within}
use Rattle.std.specs.List.{flat_map}
use Rattle.cm_io.specs.declared.sink.Sink.{Ghosts}
use Rattle.cm_io.specs.declared.writer.Writer.{Writer}
use Rattle.cm_io.specs.Writer.{Writes}
use Rattle.cm_io.proofs.Texts.{writes_both, writes_none}
use Rattle.cm_blocks.specs.FieldView.{FieldView}
use Rattle.cm_state.specs.Log.{field_log, fields_log}

-- no field is put at first
pub no_fields : {T : Type 0} (s : Ghosts T) (a : Writer T) → Writes s a a (fields_log [])
unfolding fields_log
no_fields s a = writes_none s a

-- the fields before one, and that one after them
fields_and_one : (fields : List FieldView) (number : ℕ) (field : FieldView) → slice_get fields number ≡ Some field
    → fields_log (take (number + 1) fields) ≡ fields_log (take number fields) ++ field_log field
unfolding fields_log
fields_and_one fields number field is =
    let here : get_or fields number field ≡ field = get_or_from_slice_get fields number field field is in
    ap (flat_map field_log) (take_more fields number field (slice_get_within fields number field is))
    ∙ flat_map-append field_log (take number fields) (get_or fields number field ∷ [])
    ∙ ap (λ text. flat_map field_log (take number fields) ++ text)
    (append-nil (field_log (get_or fields number field)) ∙ ap field_log here)

-- a turn puts the field at its number
pub field_more : {T : Type 0} (s : Ghosts T) (a b c : Writer T) (fields : List FieldView) (number : ℕ)
    (field : FieldView) → slice_get fields number ≡ Some field
    → Writes s b c (field_log field) → Writes s a b (fields_log (take number fields))
    → Writes s a c (fields_log (take (number + 1) fields))
field_more s a b c fields number field is late early =
    subst (λ text. Writes s a c text) (sym (fields_and_one fields number field is))
    (writes_both s a b c (fields_log (take number fields)) (field_log field) late early)
