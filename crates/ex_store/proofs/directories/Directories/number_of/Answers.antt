use Rattle.std.proofs.Common.{length, unwrap_or, ap, ◌∙◌}
use Rattle.ex_store.proofs.EntriesLaws.{number_or_all}
use Rattle.ex_store.proofs.directories.Directories.number_of.Goals as goal

pub returns : goal.returns
returns c =
    c.unwrap_or.ensures ∙ (ap (unwrap_or c.find.result) c.len.ensures
    ∙ (ap (λ found. unwrap_or found (length c.args.self.now.list)) c.find.ensures ∙ number_or_all c.args.name.now c.args.self.now.list))
