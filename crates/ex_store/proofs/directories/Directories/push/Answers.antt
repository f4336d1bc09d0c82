use Rattle.std.proofs.Common.{◌≡◌, ◌≤◌, ℕ, true, List, ◌∷◌, [], ◌++◌, length, refl, ap, arith, subst, ◌∙◌}
use Rattle.std.proofs.lemmas.Bool.{and_from, le-leb}
use Rattle.std.proofs.lemmas.List.Folds.{list_all-append}
use Rattle.cm_text.specs.declared.name.TheConstants.{NAME_LIMIT}
use Rattle.std.proofs.lemmas.List.{map-append}
use Rattle.indexmap.proofs.CallerLemmas.{insert_entry-new}
use Rattle.std.specs.Str.{bytes_eq}
use Rattle.ex_store.specs.Entries.{directories_of, directory_entry, is_short}
use Rattle.ex_store.proofs.EntriesLaws.{directory_is_new}
use Rattle.ex_store.proofs.directories.Directories.push.Goals as goal

added : (c : goal.In_ok-insert) → directories_of c.insert.new.self.entries ≡ directories_of c.self.inside.retentions.entries ++ c.args.new ∷ []
added c =
    let new = directory_is_new c.self.inside.retentions.entries c.args.new (rw (← c.self.view_is) at c.requires) in
    ap directories_of (c.in_ok-insert.ensures.entries ∙ insert_entry-new bytes_eq c.self.inside.retentions c.args.new.name c.args.new.retention new)
    ∙ map-append directory_entry c.self.inside.retentions.entries ((c.args.new.name, c.args.new.retention) ∷ [])

-- the name has at most 39 bytes
own : (c : goal.In_ok-insert) → is_short c.args.new ≡ true
own c = le-leb (length c.args.new.name) NAME_LIMIT (subst (λ (name : List ℕ). length name ≤ NAME_LIMIT) c.as_str.ensures.value c.as_str.ensures.within)

pub invariant_of-self-2 : goal.invariant_of-self-2
invariant_of-self-2 c =
    let directories = directories_of c.self.inside.retentions.entries in
    record {
      short = rw (added c, list_all-append is_short directories (c.args.new ∷ []))
          (and_from _ _ c.self.invariant.short (and_from _ _ (own c) refl));
      within = omega arith;
    }

pub returns-clause-added : goal.returns-clause-added
returns-clause-added c = added c ∙ ap (λ held. held.list ++ c.args.new ∷ []) c.self.view_is
