use Rattle.std.proofs.Common.{subst}
use Rattle.cm_io.specs.Writer.{Writes}
use Rattle.ex_spool.proofs.Banners.{absent_is}
use Rattle.ex_spool.proofs.banner.put_absent.Goals as goal

pub returns : goal.returns
returns g c =
    subst (λ text. Writes g.S.Sink c.args.out.now c.put_absent_row.new.out text) (absent_is c.args.entry.now) c.put_absent_row.ensures
