use Rattle.std.proofs.Common.{sym, ap, ◌∙◌}
use Rattle.ex_store.specs.Rows.{rows_in}
use Rattle.ex_store.proofs.SelectionLaws.{none_found}
use Rattle.ex_store.proofs.store.Store.select.Goals as goal

pub returns-in_err-directory : goal.returns-in_err-directory
returns-in_err-directory c =
    let state = c.args.self.now.state in
    c.from_residual.ensures
    ∙ none_found c.args.deleted c.args.files.now state c.args.from
    (ap (λ text. rows_in text state.rows) (sym c.as_str.ensures.value) ∙ c.in_err-directory.ensures)
