use Rattle.std.proofs.Common.{ap, sym, ◌∙◌}
use Rattle.ex_commands.specs.Commands.Take.{first_bytes}
use Rattle.ex_commands.proofs.ElementLines.{is_first}
use Rattle.ex_commands.proofs.commands.take.file_bytes.Goals as goal

pub returns-in-Some-clause-bytes : goal.returns-in-Some-clause-bytes
returns-in-Some-clause-bytes c =
    c.as_slice.ensures ∙ sym (ap first_bytes (sym c.sources.ensures.value ∙ c.in-Some.ensures.steps))

pub returns-in-Some-clause-short : goal.returns-in-Some-clause-short
returns-in-Some-clause-short c =
    rw c.as_slice.ensures
    (is_first c.args.store.now.state.directories _ _ _ c.in-Some.ensures.steps c.sources.ensures.lawful).short

pub returns-in-None-clause-bytes : goal.returns-in-None-clause-bytes
returns-in-None-clause-bytes c = sym (ap first_bytes (sym c.sources.ensures.value ∙ c.in-None.ensures.steps.0))
