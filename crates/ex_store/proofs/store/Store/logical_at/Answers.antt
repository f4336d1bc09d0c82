use Rattle.std.proofs.Common.{◌≤◌, length, slice_get, refl, sym, arith, ap, ◌∙◌}
use Rattle.std.proofs.lemmas.List.Sums.{prefix_len-le-length}
use Rattle.std.specs.Option.{option_map}
use Rattle.ex_store.specs.State.{logical_name, number_of}
use Rattle.ex_store.proofs.store.Store.logical_at.Goals as goal

pub overflow_cast-result : goal.overflow_cast-result
overflow_cast-result c =
    let within : number_of c.as_str-2.result.now c.self.inside.directories.list ≤ length c.self.inside.directories.list =
    prefix_len-le-length _ c.self.inside.directories.list in
    omega (arith, c.number_of.ensures, c.self.invariant.well.draft.few_directories)

pub returns : goal.returns
returns c =
    rw (← c.self.view_is)
    (ap (option_map (logical_name c.self.inside.directories.list))
    (ap (slice_get c.self.inside.logical.list) (sym c.from.ensures) ∙ c.at-entry.ensures)
    ∙ rw (c.number_of.ensures, c.as_str.ensures.value, c.as_str-2.ensures.value) refl)
