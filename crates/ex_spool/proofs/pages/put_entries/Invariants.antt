-- The pages of the entries that were taken are written.
use Rattle.std.proofs.Common.{take}
use Rattle.std.specs.List.{flat_map}
use Rattle.cm_io.specs.Writer.{Writes}
use Rattle.ex_spool.specs.Spool.{due_text}
use Rattle.ex_spool.proofs.pages.put_entries.Given as goal

abbrev pub invariant-loop-entry : goal.invariant-loop-entry
invariant-loop-entry g l =
    Writes g.S.Sink l.fn.out l.out (flat_map (due_text l.moment l.store.state) (take l.entry-index l.entries))
