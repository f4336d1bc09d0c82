use Rattle.std.proofs.Common.{◌≡◌, List, filter, length, rules, ap, arith, ◌∙◌}
use Rattle.std.proofs.lemmas.Fn.{filter_same}
use Rattle.cm_lists.specs.Ascent.{ascends}
use Rattle.ex_store.specs.Families.{by_family, rows_of}
use Rattle.ex_store.specs.declared.family.Family.{Family}
use Rattle.ex_store.proofs.SweepLaws.{ascends_filled, few_filled, has_files, rows_filled}
use Rattle.ex_store.proofs.sweep.drop_empty.Goals as goal

pub returns-clause-rows : goal.returns-clause-rows
returns-clause-rows c =
    let items : c.retain.new.self.items ≡ filter has_files c.args.families.now.items = filter_same _ _ _ (λ x b f' k. search rules) _ _ c.retain.ensures.filtered in
    ap rows_of items ∙ rows_filled c.args.families.now.items

pub returns-clause-ascend : goal.returns-clause-ascend
returns-clause-ascend c =
    let items : c.retain.new.self.items ≡ filter has_files c.args.families.now.items = filter_same _ _ _ (λ x b f' k. search rules) _ _ c.retain.ensures.filtered in
    ap (ascends by_family) items ∙ ascends_filled c.args.families.now.items c.requires

pub returns-clause-lean : goal.returns-clause-lean
returns-clause-lean c =
    let items : c.retain.new.self.items ≡ filter has_files c.args.families.now.items = filter_same _ _ _ (λ x b f' k. search rules) _ _ c.retain.ensures.filtered in
    let size : length c.retain.new.self.items ≡ length (filter has_files c.args.families.now.items) = ap (λ (it : List Family). length it) items in
    omega (arith, size, few_filled c.args.families.now.items)
