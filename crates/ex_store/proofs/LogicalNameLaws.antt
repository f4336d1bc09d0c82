-- The directory that a logical name stands for, and its number.
use Rattle.std.proofs.Common.{◌≡◌, ℕ, Bool, true, false, cond, List, [], ◌∷◌, map, find, Some, refl, sym, ap, ◌∙◌}
use Rattle.std.specs.List.{list_all}
use Rattle.std.specs.Option.{option_map}
use Rattle.std.proofs.lemmas.Bool.{and_parts}
use Rattle.cm_text.specs.Case.{equals}
use Rattle.ex_store.specs.declared.directory.Definition.{Definition}
use Rattle.ex_store.specs.declared.directory.Directory.{Directory}
use Rattle.ex_store.specs.Entries.{directory_for}
use Rattle.ex_store.specs.State.{has_directory, logical_name, number_of}
use Rattle.ex_store.specs.WellFormed.{is_definition_among}

-- its number is what a catalogue tells
pub found_number : (directories : List Directory) (name : List ℕ) (logical : List Definition)
    → option_map (λ directory. number_of directory directories) (directory_for name logical)
    ≡ option_map (λ entry. entry.directory) (find (λ entry. equals entry.name name) (map (logical_name directories) logical))
found_number directories name [] = refl
found_number directories name (entry ∷ logical) = by (equals entry.name name) (found_number directories name logical)
  where
    by : (is : Bool)
        → option_map (λ directory. number_of directory directories) (directory_for name logical)
        ≡ option_map (λ entry. entry.directory) (find (λ entry. equals entry.name name) (map (logical_name directories) logical))
        → option_map (λ directory. number_of directory directories)
        (option_map (λ (entry : Definition). entry.directory) (cond is (Some entry) (find (λ entry. equals entry.name name) logical)))
        ≡ option_map (λ entry. entry.directory)
        (cond is (Some (logical_name directories entry)) (find (λ entry. equals entry.name name) (map (logical_name directories) logical)))
    by true rest = refl
    by false rest = rest

-- the directory is there
pub found_there : (directories : List Directory) (name directory : List ℕ) (logical : List Definition)
    → list_all (is_definition_among directories) logical ≡ true → directory_for name logical ≡ Some directory
    → has_directory directory directories ≡ true
found_there directories name directory [] all is = absurd (cc)
found_there directories name directory (entry ∷ logical) all is =
    by (equals entry.name name) is (found_there directories name directory logical (and_parts _ _ all).1)
  where
    by : (same : Bool)
        → option_map (λ (entry : Definition). entry.directory) (cond same (Some entry) (find (λ entry. equals entry.name name) logical)) ≡ Some directory
        → (directory_for name logical ≡ Some directory → has_directory directory directories ≡ true)
        → has_directory directory directories ≡ true
    by true is rest =
        let here : entry.directory ≡ directory = cc in
        ap (λ each. has_directory each directories) (sym here) ∙ (and_parts _ _ (and_parts _ _ (and_parts _ _ all).0).0).0
    by false is rest = rest is
