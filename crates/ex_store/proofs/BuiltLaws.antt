-- A directory is made, or keeps another number of generations: what is well formed stays so.
use Rattle.std.proofs.Common.{◌≡◌, ℕ, ◌<◌, ◌≤◌, Bool, true, false, cond, ◌||◌, nat_le, List, [], ◌∷◌, length, map, find, is_some, Option, Some, None, unwrap_or, Ok, Err, IfSome, refl, ap, sym, subst, ◌∙◌, arith}
use Rattle.std.specs.Cmp.{IsTotalOrder}
use Rattle.std.specs.Cmp.Lexicographic.{on_texts, texts_ties}
use Rattle.std.specs.List.{list_all, list_any}
use Rattle.std.specs.Option.{option_map, option_map_or}
use Rattle.std.specs.Ordering.{is_eq, is_lt}
use Rattle.std.specs.Str.{bytes_eq}
use Rattle.std.proofs.lemmas.Bool.{and_from, and_parts, both_ways, le-leb, leb-false, leb-true, lt-leb, or_parts, or_right}
use Rattle.std.proofs.lemmas.List.{append-nil, length-map}
use Rattle.cm_lists.proofs.Bools.{and_weaker}
use Rattle.cm_lists.proofs.Positions.{find_any}
use Rattle.cm_lists.proofs.Quantifiers.{all_weaker}
use Rattle.cm_fields.specs.declared.code.Code.{Code}
use Rattle.cm_fields.specs.declared.code.Code.TheVariants.{DirLimit}
use Rattle.cm_lists.specs.Ascent.{ascends, insertion}
use Rattle.cm_files.specs.Catalogue.{by_bytes, is_directory_name}
use Rattle.ex_store.specs.declared.directory.Definition.{Definition}
use Rattle.ex_store.specs.declared.directory.Directory.{Directory}
use Rattle.ex_store.specs.declared.limits.TheConstants.{DIRECTORY_LIMIT, RETENTION_LIMIT}
use Rattle.ex_store.specs.declared.plan.Plan.TheVariants as plans
use Rattle.ex_store.specs.declared.queue.QueueEntry.{QueueEntry}
use Rattle.ex_store.specs.declared.row.Row.{Row}
use Rattle.ex_store.specs.Building.{built, by_directory, new_retention, with_directory}
use Rattle.ex_store.specs.Plan.{planned}
use Rattle.ex_store.specs.Ready.{Change, applied, done_on, of_directory}
use Rattle.ex_store.specs.State.{State, has_directory, is_named, retention_of}
use Rattle.ex_store.specs.WellFormed.{IsWellFormed, is_definition_among, is_directory, is_entry_among, is_row_among}
use Rattle.cm_lists.proofs.Ascents.{ascends_map}
use Rattle.cm_lists.proofs.Insertions.{inserted_all, inserted_ascends, inserted_length}

-- the directory of a name keeps as many generations
abbrev pub kept_as : List ℕ → ℕ → Directory → Directory
kept_as name retention other = cond (is_named name other) (record other { retention = retention }) other

pub by_directory_total : IsTotalOrder by_directory
by_directory_total = on_texts (λ (directory : Directory). directory.name)

-- a directory that is not there differs from all in its name
apart : (new : Directory) (directories : List Directory) → has_directory new.name directories ≡ false
    → list_any (λ other. is_eq (by_directory other new)) directories ≡ false
apart new [] absent = refl
apart new (other ∷ more) absent =
    let parts = or_parts _ _ absent in
    rw (sym (texts_ties other.name new.name) ∙ parts.0, apart new more parts.1) refl

-- the names stay where a directory keeps another number
kept_name : (name : List ℕ) (retention : ℕ) (other : Directory) → (kept_as name retention other).name ≡ other.name
kept_name name retention other = by (is_named name other)
  where
    by : (named : Bool) → (cond named (record other { retention = retention }) other).name ≡ other.name
    by true = refl
    by false = refl

kept_order : (name : List ℕ) (retention : ℕ) (other next : Directory) → by_directory (kept_as name retention other) (kept_as name retention next) ≡ by_directory other next
kept_order name retention other next =
    ap (λ text. by_bytes text (kept_as name retention next).name) (kept_name name retention other)
    ∙ ap (by_bytes other.name) (kept_name name retention next)

kept_ascends : (name : List ℕ) (retention : ℕ) (directories : List Directory) → ascends by_directory (map (kept_as name retention) directories) ≡ ascends by_directory directories
kept_ascends name retention directories = ascends_map by_directory by_directory (kept_as name retention) (kept_order name retention) directories

pub kept_has : (x name : List ℕ) (retention : ℕ) (directories : List Directory) → has_directory x (map (kept_as name retention) directories) ≡ has_directory x directories
kept_has x name retention [] = refl
kept_has x name retention (other ∷ more) =
    ap (λ text. bytes_eq text x || has_directory x (map (kept_as name retention) more)) (kept_name name retention other)
    ∙ ap (λ rest. is_named x other || rest) (kept_has x name retention more)

kept_within : (name : List ℕ) (retention : ℕ) (directories : List Directory) → retention ≤ RETENTION_LIMIT → list_all is_directory directories ≡ true
    → list_all is_directory (map (kept_as name retention) directories) ≡ true
kept_within name retention [] few within = refl
kept_within name retention (other ∷ more) few within =
    and_from _ _ (by (is_named name other)) (kept_within name retention more few (and_parts _ _ within).1)
  where
    by : (named : Bool) → is_directory (cond named (record other { retention = retention }) other) ≡ true
    by true = and_from _ _ (and_parts _ _ (and_parts _ _ within).0).0 (le-leb retention RETENTION_LIMIT few)
    by false = (and_parts _ _ within).0

pub inserted_has : (x : List ℕ) (new : Directory) (directories : List Directory) → has_directory x directories ≡ true
    → has_directory x (insertion by_directory new directories) ≡ true
inserted_has x new [] there = absurd (cc)
inserted_has x new (other ∷ more) there = by (is_lt (by_directory other new)) (is_named x other) refl there (inserted_has x new more)
  where
    by : (below named : Bool) → is_named x other ≡ named → (named || has_directory x more) ≡ true
        → (has_directory x more ≡ true → has_directory x (insertion by_directory new more) ≡ true)
        → has_directory x (cond below (other ∷ insertion by_directory new more) (new ∷ other ∷ more)) ≡ true
    by true true is there rest = rw is refl
    by true false is there rest = rw is (rest there)
    by false named is there rest = or_right (is_named x new) (has_directory x (other ∷ more)) (rw is there)

-- how many generations it keeps is within the limit
found_retention : (name : List ℕ) (directories : List Directory) → list_all is_directory directories ≡ true
    → unwrap_or (option_map (λ (directory : Directory). directory.retention) (find (is_named name) directories)) 1 ≤ RETENTION_LIMIT
found_retention name [] within = omega arith
found_retention name (other ∷ more) within = by (is_named name other) (found_retention name more (and_parts _ _ within).1)
  where
    by : (named : Bool) → unwrap_or (option_map (λ (directory : Directory). directory.retention) (find (is_named name) more)) 1 ≤ RETENTION_LIMIT
        → unwrap_or (option_map (λ (directory : Directory). directory.retention) (cond named (Some other) (find (is_named name) more))) 1 ≤ RETENTION_LIMIT
    by true rest = leb-true other.retention RETENTION_LIMIT (and_parts _ _ (and_parts _ _ within).0).1
    by false rest = rest

-- so is what a directory keeps
pub retention_within : (name : List ℕ) (directories : List Directory) → list_all is_directory directories ≡ true
    → nat_le (retention_of name directories) RETENTION_LIMIT ≡ true
retention_within name [] within = refl
retention_within name (other ∷ more) within = by (is_named name other) (retention_within name more (and_parts _ _ within).1)
  where
    by : (named : Bool) → nat_le (retention_of name more) RETENTION_LIMIT ≡ true
        → nat_le (option_map_or (λ (directory : Directory). directory.retention) (cond named (Some other) (find (is_named name) more)) 0) RETENTION_LIMIT ≡ true
    by true rest = (and_parts _ _ (and_parts _ _ within).0).1
    by false rest = rest

kept_limit : (name : List ℕ) (retention : Option ℕ) (directories : List Directory) → IfSome retention (λ count. count ≤ RETENTION_LIMIT)
    → list_all is_directory directories ≡ true → new_retention name retention directories ≤ RETENTION_LIMIT
kept_limit name None directories few within = found_retention name directories within
kept_limit name (Some count) directories few within = few

-- what a list of directories has to be
record AreDirectories (directories : List Directory) : Type 0 where
  ascend : ascends by_directory directories ≡ true
  within : list_all is_directory directories ≡ true
  few : length directories ≤ DIRECTORY_LIMIT

-- the directories with another one are such a list, and each that was there is there
record AreMore (before after : List Directory) : Type 0 where
  are : AreDirectories after
  there : (x : List ℕ) → has_directory x before ≡ true → has_directory x after ≡ true

with_more : (made : Directory) (directories : List Directory) → AreDirectories directories → is_directory made ≡ true
    → (has_directory made.name directories ≡ false → length directories < DIRECTORY_LIMIT) → AreMore directories (with_directory made directories)
with_more made directories are is room = by (has_directory made.name directories) refl
  where
    by : (there : Bool) → has_directory made.name directories ≡ there
        → AreMore directories (cond there (map (kept_as made.name made.retention) directories) (insertion by_directory made directories))
    by true known = record {
      are = record {
        ascend = kept_ascends made.name made.retention directories ∙ are.ascend;
        within = kept_within made.name made.retention directories (leb-true made.retention RETENTION_LIMIT (and_parts _ _ is).1) are.within;
        few = omega (arith, length-map directories (kept_as made.name made.retention), are.few);
      };
      there = λ x there. kept_has x made.name made.retention directories ∙ there;
    }
    by false new = record {
      are = record {
        ascend = inserted_ascends by_directory by_directory_total made directories are.ascend (apart made directories new);
        within = inserted_all by_directory is_directory made directories is are.within;
        few = omega (arith, inserted_length by_directory made directories, room new);
      };
      there = λ x there. inserted_has x made directories there;
    }

-- what is made of a name that is there, and of one that is not
has_found : (name : List ℕ) (directories : List Directory)
    → has_directory name directories
    ≡ is_some (option_map (λ (directory : Directory). directory.retention) (find (is_named name) directories))
has_found name directories = sym (find_any (λ (directory : Directory). directory.retention) (is_named name) directories)

pub built_kept : (name : List ℕ) (retention : Option ℕ) (directories : List Directory) (kept : ℕ)
    → option_map (λ (directory : Directory). directory.retention) (find (is_named name) directories) ≡ Some kept
    → built name retention directories ≡ Ok (record { name = name; retention = unwrap_or retention kept })
built_kept name retention directories kept is =
    rw (has_found name directories ∙ ap is_some is, is) refl

pub built_new : (name : List ℕ) (retention : Option ℕ) (directories : List Directory)
    → option_map (λ (directory : Directory). directory.retention) (find (is_named name) directories) ≡ None
    → length directories < DIRECTORY_LIMIT
    → built name retention directories ≡ Ok (record { name = name; retention = unwrap_or retention 1 })
built_new name retention directories is room =
    rw (has_found name directories ∙ ap is_some is, is, lt-leb DIRECTORY_LIMIT (length directories) room) refl

pub built_full : (name : List ℕ) (retention : Option ℕ) (directories : List Directory)
    → option_map (λ (directory : Directory). directory.retention) (find (is_named name) directories) ≡ None
    → DIRECTORY_LIMIT ≤ length directories → built name retention directories ≡ Err DirLimit
built_full name retention directories is full =
    rw (has_found name directories ∙ ap is_some is, le-leb DIRECTORY_LIMIT (length directories) full) refl

built_parts : (name : List ℕ) (retention : Option ℕ) (directories : List Directory) (made : Directory) → built name retention directories ≡ Ok made
    → (record { name = name; retention = new_retention name retention directories } ≡ made) × (has_directory name directories ≡ false → length directories < DIRECTORY_LIMIT)
built_parts name retention directories made is = by (has_directory name directories) (nat_le DIRECTORY_LIMIT (length directories)) refl refl is
  where
    by : (there full : Bool) → has_directory name directories ≡ there → nat_le DIRECTORY_LIMIT (length directories) ≡ full
        → cond there (Ok (record { name = name; retention = new_retention name retention directories })) (cond full (Err DirLimit) (Ok (record { name = name; retention = new_retention name retention directories }))) ≡ Ok made
        → (record { name = name; retention = new_retention name retention directories } ≡ made) × (has_directory name directories ≡ false → length directories < DIRECTORY_LIMIT)
    by true full known limit is = (cc, λ absent. absurd (both_ways _ absent known))
    by false true known limit is = absurd (cc)
    by false false known limit is = (cc, λ absent. leb-false DIRECTORY_LIMIT (length directories) limit)

definition_more : (before after : List Directory) → ((x : List ℕ) → has_directory x before ≡ true → has_directory x after ≡ true)
    → (entry : Definition) → is_definition_among before entry ≡ true → is_definition_among after entry ≡ true
definition_more before after there entry = and_weaker _ _ _ (and_weaker _ _ _ (there entry.directory))

row_more : (before after : List Directory) → ((x : List ℕ) → has_directory x before ≡ true → has_directory x after ≡ true)
    → (row : Row) → is_row_among before row ≡ true → is_row_among after row ≡ true
row_more before after there row = and_weaker _ _ _ (and_weaker _ _ _ (and_weaker _ _ _ (and_weaker _ _ _ (and_weaker _ _ _ (there row.key.directory)))))

entry_more : (before after : List Directory) → ((x : List ℕ) → has_directory x before ≡ true → has_directory x after ≡ true)
    → (entry : QueueEntry) → is_entry_among before entry ≡ true → is_entry_among after entry ≡ true
entry_more before after there entry =
    and_weaker _ _ _ (and_weaker _ _ _ (and_weaker _ _ _ (and_weaker _ _ _ (and_weaker _ _ _
    (and_weaker _ _ _ (and_weaker _ _ _ (and_weaker _ _ _ (and_weaker _ _ _ (and_weaker _ _ _ (there entry.file.key.directory))))))))))

well_formed_with_more : (state : State) (after : List Directory) → IsWellFormed state → AreMore state.directories after
    → IsWellFormed (record state { directories = after })
well_formed_with_more state after well more = record {
  draft = record {
    directories_ascend = more.are.ascend;
    directories_within = more.are.within;
    few_directories = more.are.few;
    logical_ascend = well.draft.logical_ascend;
    logical_within = all_weaker (is_definition_among state.directories) (is_definition_among after) (definition_more state.directories after more.there) state.logical well.draft.logical_within;
    few_logical = well.draft.few_logical;
    rows = record {
      ascend = well.draft.rows.ascend;
      within = all_weaker (is_row_among state.directories) (is_row_among after) (row_more state.directories after more.there) state.rows well.draft.rows.within;
      few = well.draft.rows.few;
      small = well.draft.rows.small;
    };
    queue_within = all_weaker (is_entry_among state.directories) (is_entry_among after) (entry_more state.directories after more.there) state.queue well.draft.queue_within;
    few_entries = well.draft.few_entries;
  };
  connected_there = more.there state.connected well.connected_there;
}

-- the state with a directory that is made is well formed
pub well_formed_built : (state : State) (name : List ℕ) (retention : Option ℕ) (made : Directory) → IsWellFormed state
    → is_directory_name name ≡ true → IfSome retention (λ count. count ≤ RETENTION_LIMIT) → built name retention state.directories ≡ Ok made
    → IsWellFormed (record state { directories = with_directory made state.directories })
well_formed_built state name retention made well named few is =
    let parts = built_parts name retention state.directories made is in
    let are : AreDirectories state.directories = record { ascend = well.draft.directories_ascend; within = well.draft.directories_within; few = well.draft.few_directories } in
    let limit : new_retention name retention state.directories ≤ RETENTION_LIMIT = kept_limit name retention state.directories few well.draft.directories_within in
    let form : is_directory (record { name = name; retention = new_retention name retention state.directories }) ≡ true = and_from _ _ named (le-leb _ _ limit) in
    subst (λ (made : Directory). IsWellFormed (record state { directories = with_directory made state.directories })) parts.0
    (well_formed_with_more state _ well (with_more _ state.directories are form parts.1))

-- what is done where a directory alone is made
makes : (state : State) (made : Directory)
    → applied (of_directory made) state ≡ record state { directories = with_directory made state.directories }
makes state made =
    ap (λ (queue : List QueueEntry). record state { directories = with_directory made state.directories; queue = queue })
    (append-nil state.queue)

pub planned_built : (state : State) (name : List ℕ) (retention : Option ℕ) (made : Directory) (change : Change) (moment : ℕ)
    → built name retention state.directories ≡ Ok made → change ≡ of_directory made
    → planned (plans.Build name retention) moment state ≡ Ok (done_on state change)
unfolding planned
planned_built state name retention made change moment is only =
    rw (is, only) (ap (λ (state : State). Ok (record { state = state; pairs = [] })) (sym (makes state made)))

pub planned_refused : (state : State) (name : List ℕ) (retention : Option ℕ) (code : Code) (moment : ℕ)
    → built name retention state.directories ≡ Err code → planned (plans.Build name retention) moment state ≡ Err code
unfolding planned
planned_refused state name retention code moment is = rw is refl

pub sound_built : (state : State) (name : List ℕ) (retention : Option ℕ) (made : Directory) (change : Change) → IsWellFormed state
    → is_directory_name name ≡ true → IfSome retention (λ count. count ≤ RETENTION_LIMIT) → built name retention state.directories ≡ Ok made
    → change ≡ of_directory made → IsWellFormed (applied change state)
sound_built state name retention made change well named few is only =
    subst (λ (next : State). IsWellFormed next)
    (sym (ap (λ (each : Change). applied each state) only ∙ makes state made))
    (well_formed_built state name retention made well named few is)
