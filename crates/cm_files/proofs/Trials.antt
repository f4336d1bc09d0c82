-- Trials of users, directories and files: each is local, the end of the line decides it, and an accepted field
-- ends in the text.
use Rattle.std.proofs.Common.{◌≡◌, ℕ, ◌<◌, Bool, false, ◌==◌, slice_get, List, [], ◌∷◌, ◌++◌, length, refl, ap, arith, subst, sym, ◌∙◌}
use Rattle.std.specs.List.{prefix_len}
use Rattle.std.specs.Option.{option_map_or}
use Rattle.std.proofs.lemmas.Bool.Decides.{nat_tests}
use Rattle.std.proofs.lemmas.List.Sums.{prefix_len-le-length}
use Rattle.cm_lists.proofs.Bools.{by_test}
use Rattle.cm_lists.proofs.Elements.{slice_get-append_left}
use Rattle.cm_lists.proofs.Prefixes.{prefix_len_beyond, prefix_len_inside}
use Rattle.std.proofs.lemmas.Bool.{cond_both}
use Rattle.cm_text.specs.Bytes.{is_name, is_word}
use Rattle.cm_fields.specs.declared.value.Value.{Value}
use Rattle.cm_fields.specs.declared.trial.Try.TheVariants.{Accept}
use Rattle.cm_fields.specs.Finish.{DecidesFinished}
use Rattle.cm_fields.specs.Local.{Holds, IsLocal}
use Rattle.cm_fields.specs.Try.{by_run}
use Rattle.cm_fields.proofs.LineEnds.{run_decides}
use Rattle.cm_fields.proofs.Trials.{LooksBeyond, Reaches, holds_beyond, is_local}
use Rattle.cm_fields.proofs.Runs.{run_decided, run_is_local, run_reaches, run_seen, said_beyond}
use Rattle.cm_fields.specs.declared.value.FileKind.{FileKind}
use Rattle.cm_files.specs.declared.flags.Flags.{Flags}
use Rattle.cm_files.specs.Catalogue.{Catalogue}
use Rattle.cm_files.specs.Fields.{directory, directory_of, file, file_of, has_colon_after, is_file, is_plain_path, user, user_of}

pub file_is_local : (c : Catalogue) (kind : FileKind) (flags : Flags) → IsLocal (file c kind flags)
file_is_local c kind flags = run_is_local is_file (file_of c kind flags)

pub directory_is_local : (new : Bool) (c : Catalogue) → IsLocal (directory new c)
directory_is_local new c = run_is_local is_file (directory_of new c)

-- a run that ends in the front has the same byte after it whatever follows
colon_inside : (front more : List ℕ) → prefix_len is_plain_path front < length front
    → has_colon_after (front ++ more) ≡ has_colon_after front
colon_inside front more ends =
    ap (λ found. option_map_or (λ other. other == 58) found false)
    (ap (λ size. slice_get (front ++ more) size) (prefix_len_inside is_plain_path front more ends)
    ∙ slice_get-append_left front more (prefix_len is_plain_path front) ends)

user_decided : (c : Catalogue) (front more other : List ℕ) (at : ℕ)
    → Holds (length front) (user c (front ++ more) at) (user c (front ++ other) at)
user_decided c front more other at =
    let size = prefix_len is_plain_path front in
    by_test _ (size == length front)
    (λ ends. holds_beyond _ _ _
    (cond_both (prefix_len is_plain_path (front ++ more) == length (front ++ more)) _ _ (LooksBeyond (length front)) (λ _. tt) (λ _. said_beyond _ at _ _ _ (let beyond = prefix_len_beyond is_plain_path front more (grind (arith, nat_tests)) in omega arith))))
    (λ ends.
    let inside : size < length front = (let most = prefix_len-le-length is_plain_path front in grind (arith, nat_tests)) in
    let same : has_colon_after (front ++ more) ≡ has_colon_after (front ++ other) =
    colon_inside front more inside ∙ sym (colon_inside front other inside) in
    subst (λ (colon : Bool). Holds (length front) (user c (front ++ more) at) (by_run is_plain_path (user_of c colon) (front ++ other) at)) same
    (run_decided is_plain_path (user_of c (has_colon_after (front ++ more))) front more other at))

pub user_is_local : (c : Catalogue) → IsLocal (user c)
user_is_local c =
    is_local (user c) (user_decided c) (λ rest at. run_seen is_plain_path (user_of c (has_colon_after rest)) rest at)

pub file_decides : (c : Catalogue) (kind : FileKind) (flags : Flags) → DecidesFinished (file c kind flags)
unfolding is_name is_word
file_decides c kind flags = run_decides is_file (file_of c kind flags) refl

pub directory_decides : (new : Bool) (c : Catalogue) → DecidesFinished (directory new c)
unfolding is_name is_word
directory_decides new c = run_decides is_file (directory_of new c) refl

pub user_decides : (c : Catalogue) → DecidesFinished (user c)
unfolding is_name is_word
user_decides c line at =
    run_decides is_plain_path (λ _. user_of c (has_colon_after (line ++ 13 ∷ []))) refl line at

pub file_reaches : (c : Catalogue) (kind : FileKind) (flags : Flags) (rest : List ℕ) (at : ℕ) (value : Value) (looked end : ℕ)
    → file c kind flags rest at ≡ Accept value looked end → Reaches at (length rest) looked end
file_reaches c kind flags rest at = run_reaches is_file (file_of c kind flags at) rest at

pub directory_reaches : (new : Bool) (c : Catalogue) (rest : List ℕ) (at : ℕ) (value : Value) (looked end : ℕ)
    → directory new c rest at ≡ Accept value looked end → Reaches at (length rest) looked end
directory_reaches new c rest at = run_reaches is_file (directory_of new c at) rest at

pub user_reaches : (c : Catalogue) (rest : List ℕ) (at : ℕ) (value : Value) (looked end : ℕ)
    → user c rest at ≡ Accept value looked end → Reaches at (length rest) looked end
user_reaches c rest at = run_reaches is_plain_path (user_of c (has_colon_after rest)) rest at
