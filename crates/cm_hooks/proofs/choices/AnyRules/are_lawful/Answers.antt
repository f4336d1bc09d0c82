use Rattle.cm_hooks.specs.AmongLaws.{choices_lawful}
use Rattle.cm_hooks.proofs.choices.AnyRules.are_lawful.Goals as goal

pub returns : goal.returns
returns g c = choices_lawful g.C.Choices.choices g.C.Choices.help_text g.C.Choices.are_names
