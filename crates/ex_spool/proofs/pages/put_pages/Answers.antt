use Rattle.std.proofs.Common.{subst, ◌∙◌, ap}
use Rattle.cm_io.specs.Writer.{Writes}
use Rattle.ex_image.proofs.Soundness.{forms_of_state}
use Rattle.ex_store.specs.State.{State}
use Rattle.ex_spool.proofs.DueLaws.{pages_are}
use Rattle.ex_spool.proofs.pages.put_pages.Goals as goal

pub put_entries-requires : goal.put_entries-requires
put_entries-requires g c =
    rw c.queue.ensures (forms_of_state c.parts.result c.args.store.now.state c.parts.ensures.value c.parts.ensures.lawful)

pub returns : goal.returns
returns g c =
    subst (λ text. Writes g.S.Sink c.args.out.now c.put_entries.new.out text)
    (pages_are c.args.moment c.args.store.now.state c.queue.result.now
    (c.queue.ensures ∙ ap (λ (state : State). state.queue) c.parts.ensures.value))
    c.put_entries.ensures
