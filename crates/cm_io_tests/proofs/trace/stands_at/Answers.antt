use Rattle.std.proofs.Common.{ap, ◌∙◌, refl, map}
use Rattle.cm_io_tests.proofs.Cuts.{whole_trace}
use Rattle.cm_io_tests.proofs.trace.stands_at.Goals as goal

pub returns : goal.returns
returns c =
    whole_trace _ _ _ _ _
    (ap (λ them. map (λ line. line.now) them) c.deref.ensures.value ∙ c.in_ok-lines.ensures) refl refl
    c.new.ensures.items c.new-2.ensures.items c.new-3.ensures.items c.in_ok-go_on.ensures
