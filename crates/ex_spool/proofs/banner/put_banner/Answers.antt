use Rattle.std.proofs.Common.{subst}
use Rattle.cm_io.specs.Writer.{Writes}
use Rattle.ex_spool.proofs.Banners.{banner_is}
use Rattle.ex_spool.proofs.banner.put_banner.Goals as goal

pub returns : goal.returns
returns g c =
    subst (λ text. Writes g.S.Sink c.args.out.now c.put_rows.new.out text) (banner_is c.args.entry.now c.args.copy) c.put_rows.ensures
