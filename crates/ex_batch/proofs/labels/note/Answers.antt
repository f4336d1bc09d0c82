use Rattle.std.proofs.Common.{subst, ◌≡◌, List, ℕ, Some}
use Rattle.std.specs.Prelude.{if◌then◌else◌}
use Rattle.std.specs.Map.{lookup}
use Rattle.std.specs.Str.{bytes_eq}
use Rattle.ex_batch.specs.Labels.{kept}
use Rattle.ex_batch.proofs.LabelIndex.{one_noted}
use Rattle.ex_batch.proofs.labels.note.Goals as goal

pub returns : goal.returns
returns c = λ name.
    one_noted c.args.line.now c.in-Some.name.now name c.args.place c.args.labels.now.entries c.insert.new.self.entries
    c.in-Some.ensures.label
    (subst (λ (it : List ℕ). lookup (bytes_eq (kept name)) c.insert.new.self.entries
    ≡ (if bytes_eq it (kept name) then Some c.args.place else lookup (bytes_eq (kept name)) c.args.labels.now.entries))
    c.kept.ensures (c.in_ok-insert.ensures.updates.0 (kept name)))
