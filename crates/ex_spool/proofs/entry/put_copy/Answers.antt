use Rattle.std.proofs.Common.{subst}
use Rattle.cm_io.specs.Writer.{Writes}
use Rattle.cm_io.proofs.Texts.{writes_both}
use Rattle.ex_spool.specs.Pages.{body_text}
use Rattle.ex_spool.proofs.entry.put_copy.Goals as goal

pub returns : goal.returns
returns g c =
    writes_both _ _ _ _ _ _
    (subst (λ width. Writes g.S.Sink c.put_banner.new.out c.put_body.new.out (body_text width c.args.bytes.now)) c.width_of.ensures.width c.put_body.ensures)
    c.put_banner.ensures
