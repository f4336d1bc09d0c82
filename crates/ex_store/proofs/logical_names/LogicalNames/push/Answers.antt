use Rattle.std.proofs.Common.{◌≡◌, ◌∷◌, [], ◌++◌, refl, ap, ◌∙◌, arith}
use Rattle.std.proofs.lemmas.Bool.{and_from}
use Rattle.std.proofs.lemmas.List.{map-append}
use Rattle.std.proofs.lemmas.List.Folds.{list_all-append}
use Rattle.indexmap.proofs.CallerLemmas.{insert_entry-new}
use Rattle.std.specs.Str.{bytes_eq}
use Rattle.ex_store.specs.Entries.{definition_entry, definitions_of, is_kept}
use Rattle.ex_store.proofs.KeptNamesLaws.{definition_is_new}
use Rattle.ex_store.proofs.logical_names.LogicalNames.push.Goals as goal

added : (c : goal.In_ok-insert) → definitions_of c.insert.new.self.entries ≡ definitions_of c.self.inside.directories.entries ++ c.args.new ∷ []
added c =
    let entries = c.self.inside.directories.entries in
    let new = definition_is_new entries c.args.new (rw (← c.self.view_is) at c.requires.ascend) in
    ap definitions_of (c.in_ok-insert.ensures.entries ∙ insert_entry-new bytes_eq c.self.inside.directories c.args.new.name c.args.new.directory new)
    ∙ map-append definition_entry entries ((c.args.new.name, c.args.new.directory) ∷ [])

pub invariant_of-self-2 : goal.invariant_of-self-2
invariant_of-self-2 c =
    let logical = definitions_of c.self.inside.directories.entries in
    record {
      kept = rw (added c, list_all-append is_kept logical (c.args.new ∷ []))
          (and_from _ _ c.self.invariant.kept (and_from _ _ c.requires.kept refl));
      within = omega arith;
    }

pub returns-clause-added : goal.returns-clause-added
returns-clause-added c = added c ∙ ap (λ held. held.list ++ c.args.new ∷ []) c.self.view_is
