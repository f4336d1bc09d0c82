-- The first state, and states with another connected directory or fewer logical names.
use Rattle.std.proofs.Common.{◌≡◌, ℕ, ◌≤◌, Bool, true, false, not, ◌||◌, List, [], ◌∷◌, length, filter, refl, ap, arith, subst}
use Rattle.std.specs.Cmp.Lexicographic.{on_texts}
use Rattle.std.specs.List.{list_all, list_any}
use Rattle.std.proofs.lemmas.Bool.{and_parts, leb-true, or_parts}
use Rattle.std.proofs.lemmas.List.Sums.{count_by-le-length, length-filter}
use Rattle.std.proofs.lemmas.Slice.Eq.{bytes_eq-Decides}
use Rattle.cm_lists.proofs.Quantifiers.{all_filter}
use Rattle.cm_text.specs.Bytes.{is_name, is_word}
use Rattle.cm_text.specs.Case.{equals}
use Rattle.cm_text.specs.declared.name.TheConstants.{NAME_LIMIT}
use Rattle.ex_store.specs.declared.directory.Definition.{Definition}
use Rattle.ex_store.specs.declared.directory.Directory.{Directory}
use Rattle.ex_store.specs.State.{State, first_state, has_directory, is_named}
use Rattle.ex_store.specs.WellFormed.{IsWellFormed, is_definition_among, is_directory}
use Rattle.cm_lists.proofs.Ascents.{ascends_filter}

-- the first state is well formed
pub first_well_formed : IsWellFormed first_state
unfolding is_name is_word
first_well_formed = record {
  draft = record {
    directories_ascend = refl;
    directories_within = refl;
    few_directories = omega arith;
    logical_ascend = refl;
    logical_within = refl;
    few_logical = omega arith;
    rows = record { ascend = refl; within = refl; few = omega arith; small = omega arith };
    queue_within = refl;
    few_entries = omega arith;
  };
  connected_there = refl;
}

-- the name of a directory that is there has at most 39 bytes
pub name_is_short : (name : List ℕ) (directories : List Directory) → list_all is_directory directories ≡ true
    → has_directory name directories ≡ true → length name ≤ NAME_LIMIT
name_is_short name [] within there = absurd (cc)
name_is_short name (other ∷ more) within there =
    by (is_named name other) refl there (name_is_short name more (and_parts _ _ within).1)
  where
    by : (named : Bool) → is_named name other ≡ named → (named || has_directory name more) ≡ true
        → (has_directory name more ≡ true → length name ≤ NAME_LIMIT) → length name ≤ NAME_LIMIT
    by true is there rest =
        subst (λ text. length text ≤ NAME_LIMIT) ((bytes_eq-Decides other.name name).0 is)
        (leb-true (length other.name) NAME_LIMIT (and_parts _ _ (and_parts _ _ (and_parts _ _ within).0).0).0)
    by false is there rest = rest there

-- where a name stands for nothing, nothing is taken away
pub nothing_undefined : (name : List ℕ) (logical : List Definition) → list_any (λ entry. equals entry.name name) logical ≡ false
    → filter (λ entry. not (equals entry.name name)) logical ≡ logical
nothing_undefined name [] none = refl
nothing_undefined name (entry ∷ more) none =
    let parts : (equals entry.name name ≡ false) × (list_any (λ entry. equals entry.name name) more ≡ false) = or_parts _ _ none in
    rw parts.0 (ap (λ rest. entry ∷ rest) (nothing_undefined name more parts.1))

-- with fewer logical names the state is well formed
pub fewer_well_formed : (state : State) (keep : Definition → Bool) → IsWellFormed state
    → IsWellFormed (record state { logical = filter keep state.logical })
fewer_well_formed state keep well = record {
  draft = record {
    directories_ascend = well.draft.directories_ascend;
    directories_within = well.draft.directories_within;
    few_directories = well.draft.few_directories;
    logical_ascend = ascends_filter _ (on_texts (λ (entry : Definition). entry.name)) keep state.logical well.draft.logical_ascend;
    logical_within = all_filter (is_definition_among state.directories) keep state.logical well.draft.logical_within;
    few_logical = omega (arith, length-filter keep state.logical, count_by-le-length keep state.logical, well.draft.few_logical);
    rows = well.draft.rows;
    queue_within = well.draft.queue_within;
    few_entries = well.draft.few_entries;
  };
  connected_there = well.connected_there;
}
