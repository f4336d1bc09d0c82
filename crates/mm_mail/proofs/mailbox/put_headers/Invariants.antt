-- The lines of the messages from here on are left to be written.
use Rattle.std.proofs.Common.{◌≡◌, true}
use Rattle.std.specs.List.{flat_map, list_all}
use Rattle.cm_io.proofs.Texts.{Left}
use Rattle.ex_store.specs.WellFormed.{is_row_among}
use Rattle.mm_mail.specs.Mailbox.{header_if, header_line, mailbox}
use Rattle.mm_mail.proofs.mailbox.put_headers.Given as goal

abbrev pub invariant-loop-row : goal.invariant-loop-row
invariant-loop-row g l = record {
  left : Left g.S.Sink l.fn.out l.out (flat_map header_if l.row-iterator)
      (flat_map header_line (mailbox l.store.state.connected l.store.state));
  lawful : list_all (is_row_among l.store.state.directories) l.row-iterator ≡ true;
}
