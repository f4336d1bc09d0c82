use Rattle.std.proofs.Common.{rules, arith}
use Rattle.std.specs.Ordering.{on}
use Rattle.cm_files.specs.Catalogue.{by_bytes}
use Rattle.ex_store.specs.declared.directory.Definition.{Definition}
use Rattle.ex_store.specs.Views.{definition_of_view}
use Rattle.ex_image.proofs.ReaderFaults.{above_last}
use Rattle.ex_image.proofs.faults.is_logical_above.Goals as goal

pub returns-in-Some : goal.returns-in-Some
returns-in-Some c = λ directory.
    rw (above_last (on (λ (entry : Definition). entry.name) by_bytes) c.args.parts.now.logical c.in-Some.last
    (definition_of_view c.logical-last.result) (record { name = c.args.name.now; directory = directory }) (omega arith) c.logical-last.ensures)
    (search rules)
