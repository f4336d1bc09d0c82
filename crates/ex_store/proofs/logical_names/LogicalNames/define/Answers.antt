use Rattle.std.proofs.Common.{◌≡◌, arith, ap, ◌∙◌}
use Rattle.ex_store.specs.Defining.{with_definition}
use Rattle.ex_store.specs.Entries.{definitions_of}
use Rattle.ex_store.proofs.KeptNamesLaws.{definition_made, definitions_ascend, with_definition_kept}
use Rattle.ex_store.proofs.SortedEntriesLaws.{inserted}
use Rattle.ex_store.proofs.logical_names.LogicalNames.define.Goals as goal

made : (c : goal.In-Ok) → definitions_of c.insert_sorted.new.self.entries ≡ with_definition c.args.new (definitions_of c.self.inside.directories.entries)
made c =
    let entries = c.self.inside.directories.entries in
    let place = c.in-Ok.ensures.index in
    let ascend = definitions_ascend entries (rw (← c.self.view_is) at c.requires.ascend) in
    ap definitions_of (c.in-Ok.ensures.entries ∙ inserted c.args.new.name c.args.new.directory entries place.0 c.in-Ok.field-0.0 ascend place.1 place.2)
    ∙ definition_made c.args.new entries c.requires.kept c.self.invariant.kept

pub invariant_of-self : goal.invariant_of-self
invariant_of-self c = record {
  kept = rw (made c) (with_definition_kept c.args.new (definitions_of c.self.inside.directories.entries) c.requires.kept c.self.invariant.kept);
  within = omega (arith, c.self.invariant.within, c.insert_sorted.ensures.spare);
}

pub returns-clause-list : goal.returns-clause-list
returns-clause-list c = made c ∙ ap (λ held. with_definition c.args.new held.list) c.self.view_is
