use Rattle.std.proofs.Common.{◌≡◌, ℕ, List, Some, ap, subst, sym, ◌∙◌}
use Rattle.std.specs.Option.{option_map}
use Rattle.std.proofs.lemmas.Option.{slice_get-map}
use Rattle.ex_store.specs.Views.{row_of_view}
use Rattle.ex_image.specs.declared.version.Version.TheVariants as versions
use Rattle.ex_image.specs.Image.{file_record}
use Rattle.ex_image.specs.Record.{Entry, line_text, record_text}
use Rattle.ex_image.specs.Writing.{Appends}
use Rattle.ex_image.proofs.Leaves.{file_joined}
use Rattle.ex_image.proofs.records.FilesSeries.put.Goals as goal

pub returns : goal.returns
returns g c = λ here is.
    let row = row_of_view c.row-row.result in
    let told : Some (file_record versions.Two row) ≡ Some here =
    sym (slice_get-map (file_record versions.Two) c.args.self.now.parts.now.rows c.args.i ∙ ap (option_map (file_record versions.Two)) c.row-row.ensures) ∙ is in
    let same : file_record versions.Two row ≡ here = cc in
    subst (λ (made : Entry × List ℕ). Appends g.T.Target.tells (g.T.Target.outside c.args.target.now)
    (g.T.Target.outside c.put_file.new.target) (record_text made) c.put_file.result) same
    (subst (λ bytes. Appends g.T.Target.tells (g.T.Target.outside c.args.target.now)
    (g.T.Target.outside c.put_file.new.target) bytes c.put_file.result)
    (file_joined _ (line_text (file_record versions.Two row).0) _ _ (c.as_bytes.ensures ∙ c.file_line.ensures) c.as_slice.ensures)
    c.put_file.ensures)
