use Rattle.std.proofs.Common.{◌≡◌, not, rules, sym, subst}
use Rattle.std.proofs.lemmas.Fn.{filter_same}
use Rattle.ex_generations.specs.Generations.{IsAscending, unmarked}
use Rattle.ex_generations.proofs.Ascents.{IsAscending-filter}
use Rattle.ex_generations.proofs.change.drop_marked.Goals as goal

pub returns-clause-items : goal.returns-clause-items
returns-clause-items c = filter_same _ _ _ (λ x b f' k. search rules) _ _ c.retain.ensures.filtered

pub returns-clause-ascending : goal.returns-clause-ascending
returns-clause-ascending c =
    let items : c.retain.new.self.items ≡ unmarked c.args.files.now.items = filter_same _ _ _ (λ x b f' k. search rules) _ _ c.retain.ensures.filtered in
    subst (IsAscending 0) (sym items) (IsAscending-filter (λ file. not file.deleted) c.args.files.now.items 0 c.requires)
