use Rattle.std.proofs.Common.{ap, is_some, ◌∙◌}
use Rattle.cm_lists.proofs.Options.{is_some-copied}
use Rattle.ex_store.proofs.KeptNamesLaws.{has_found}
use Rattle.ex_store.proofs.logical_names.LogicalNames.has.Goals as goal

pub returns : goal.returns
returns c = c.is_some.ensures ∙ (is_some-copied c.find.result ∙ (ap is_some c.find.ensures ∙ has_found c.args.name.now c.args.self.now.list))
