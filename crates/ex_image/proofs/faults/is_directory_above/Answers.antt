use Rattle.std.proofs.Common.{rules, arith}
use Rattle.std.specs.Ordering.{on}
use Rattle.cm_files.specs.Catalogue.{by_bytes}
use Rattle.ex_store.specs.declared.directory.Directory.{Directory}
use Rattle.ex_store.specs.Views.{directory_of_view}
use Rattle.ex_image.proofs.ReaderFaults.{above_last}
use Rattle.ex_image.proofs.faults.is_directory_above.Goals as goal

pub returns-in-Some : goal.returns-in-Some
returns-in-Some c = λ retention.
    rw (above_last (on (λ (directory : Directory). directory.name) by_bytes) c.args.parts.now.directories c.in-Some.last
    (directory_of_view c.directory-last.result) (record { name = c.args.name.now; retention = retention }) (omega arith) c.directory-last.ensures)
    (search rules)
