use Rattle.std.proofs.Common.{◌++◌, subst, sym, ◌∙◌}
use Rattle.cm_io.specs.Writer.{Writes}
use Rattle.cm_io.proofs.Texts.{writes_none}
use Rattle.ex_spool.specs.Pages.{row_text}
use Rattle.ex_spool.proofs.Banners.{note_none, note_some}
use Rattle.ex_spool.proofs.banner.put_note.Goals as goal

pub returns-then-is_empty : goal.returns-then-is_empty
returns-then-is_empty g c =
    subst (λ text. Writes g.S.Sink c.args.out.now c.args.out.now text) (sym (note_none c.args.note.now (sym c.is_empty.ensures ∙ c.if-is_empty.true)))
    (writes_none g.S.Sink c.args.out.now)

pub returns : goal.returns
returns g c =
    subst (λ text. Writes g.S.Sink c.args.out.now c.put_row.new.out text) (sym (note_some c.args.note.now (sym c.is_empty.ensures ∙ c.if-is_empty.false)))
    (subst (λ word. Writes g.S.Sink c.args.out.now c.put_row.new.out (row_text (word ++ c.args.note.now))) c.before_note.ensures c.put_row.ensures)
