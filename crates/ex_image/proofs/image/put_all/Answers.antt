use Rattle.std.proofs.Common.{subst}
use Rattle.cm_io.specs.declared.sink.Put.TheVariants.{Failed}
use Rattle.ex_image.specs.Writing.{Appends}
use Rattle.ex_image.proofs.Appends.{appends_both, appends_early}
use Rattle.ex_image.proofs.Joins.{image_joined}
use Rattle.ex_image.proofs.image.put_all.Goals as goal

pub returns-in-Failed : goal.returns-in-Failed
returns-in-Failed g c =
    subst (λ bytes. Appends g.T.Target.tells (g.T.Target.outside c.args.target.now)
    (g.T.Target.outside c.put_names.new.target) bytes Failed) (image_joined c.args.parts.now)
    (appends_early _ _ _ _ _ c.in-Failed.ensures)

pub returns : goal.returns
returns g c =
    subst (λ bytes. Appends g.T.Target.tells (g.T.Target.outside c.args.target.now)
    (g.T.Target.outside c.put_files.new.target) bytes c.put_files.result) (image_joined c.args.parts.now)
    (appends_both _ _ _ _ _ _ _ c.in_default.ensures c.put_files.ensures)
