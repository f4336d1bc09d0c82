use Rattle.std.proofs.Common.{◌≡◌, ◌≤◌, ℕ, true, List, length, ap, arith, subst, ◌∙◌}
use Rattle.std.proofs.lemmas.Bool.{le-leb}
use Rattle.cm_text.specs.declared.name.TheConstants.{NAME_LIMIT}
use Rattle.ex_store.specs.Building.{with_directory}
use Rattle.ex_store.specs.Entries.{directories_of, is_short}
use Rattle.ex_store.proofs.EntriesLaws.{directories_ascend, directory_made, short_made}
use Rattle.ex_store.proofs.SortedEntriesLaws.{inserted}
use Rattle.ex_store.proofs.directories.Directories.make.Goals as goal

made : (c : goal.In-Ok) → directories_of c.insert_sorted.new.self.entries ≡ with_directory c.args.new (directories_of c.self.inside.retentions.entries)
made c =
    let entries = c.self.inside.retentions.entries in
    let place = c.in-Ok.ensures.index in
    let ascend = directories_ascend entries (rw (← c.self.view_is) at c.requires.ascend) in
    ap directories_of (c.in-Ok.ensures.entries ∙ inserted c.args.new.name c.args.new.retention entries place.0 c.in-Ok.field-0.0 ascend place.1 place.2)
    ∙ directory_made c.args.new entries

-- the name has at most 39 bytes
own : (c : goal.In-Ok) → is_short c.args.new ≡ true
own c = le-leb (length c.args.new.name) NAME_LIMIT (subst (λ (name : List ℕ). length name ≤ NAME_LIMIT) c.as_str.ensures.value c.as_str.ensures.within)

pub invariant_of-self : goal.invariant_of-self
invariant_of-self c = record {
  short = rw (made c) (short_made c.args.new (directories_of c.self.inside.retentions.entries) (own c) c.self.invariant.short);
  within = omega (arith, c.self.invariant.within, c.insert_sorted.ensures.spare);
}

pub returns-clause-list : goal.returns-clause-list
returns-clause-list c = made c ∙ ap (λ held. with_directory c.args.new held.list) c.self.view_is
