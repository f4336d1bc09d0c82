use Rattle.std.proofs.Common.{ap}
use Rattle.std.specs.List.{flat_map}
use Rattle.cm_io.proofs.Texts.{left_less, left_whole}
use Rattle.ex_commands.proofs.ElementLines.{is_first}
use Rattle.mm_mail.specs.Mailbox.{header_if, header_line, mailbox}
use Rattle.mm_mail.proofs.Mailboxes.{lines_at}
use Rattle.mm_mail.proofs.mailbox.put_headers.Goals as goal

pub loop-row-init : goal.loop-row-init
loop-row-init g c =
    let same = c.into_iter-row-iterator.ensures.into_iter_gives in
    record {
      left = rw (lines_at c.args.store.now.state _ _ _ _ _ c.parts.ensures.lawful c.parts.ensures.value c.connected.ensures
          c.numbered_place-place.ensures c.selection-row-items.ensures.value same) (left_whole _ _ _);
      lawful = rw same c.selection-row-items.ensures.lawful;
    }

pub put_header_if-requires : goal.put_header_if-requires
put_header_if-requires g c =
    (is_first c.args.store.now.state.directories _ _ _ c.in-Some.ensures.steps c.loop-row.invariant.lawful).moment

pub loop-row-preserved : goal.loop-row-preserved
loop-row-preserved g c =
    let next = c.in-Some.ensures.steps in
    record {
      left = left_less _ _ _ _ _ _ _ (flat_map header_line (mailbox c.args.store.now.state.connected c.args.store.now.state)) c.put_header_if.ensures
          c.loop-row.invariant.left (ap (flat_map header_if) next);
      lawful = (is_first c.args.store.now.state.directories _ _ _ next c.loop-row.invariant.lawful).lawful;
    }
