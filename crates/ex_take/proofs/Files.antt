-- Files that are open, the one that is taken now at the end.
-- A list whose last counts is said as by ArrayVec::pop: by slice_get and take at length xs - 1.
use Rattle.std.proofs.Common.{◌≡◌, ℕ, suc, get_or, ◌-◌, ◌<◌, ◌==◌, ◌&&◌, true, false, cond, List, [], ◌∷◌, ◌++◌, length, take, slice_get, Option, None, Some, refl, sym, ap, ◌∙◌, arith}
use Rattle.std.proofs.lemmas.List.{length-take-le}
use Rattle.std.proofs.lemmas.Option.{slice_get-get_or}
use Rattle.cm_lists.proofs.Elements.{last_split}
use Rattle.cm_lists.proofs.Pieces.{push_is_not_empty}
use Rattle.ex_take.specs.Exec.{innermost, is_over, open_files}

-- one at the end that is over is none of those that go on
open_over : (files : List (List (List ℕ))) (file : List (List ℕ)) → (length file == 0) ≡ true
    → open_files (files ++ file ∷ []) ≡ open_files files
open_over [] file over = rw over refl
open_over (one ∷ files) file over =
    ap (λ others. cond (length others == 0 && length one == 0) [] (one ∷ others)) (open_over files file over)

-- and where it is not over all go on
open_on : (files : List (List (List ℕ))) (file : List (List ℕ)) → (length file == 0) ≡ false
    → open_files (files ++ file ∷ []) ≡ files ++ file ∷ []
open_on [] file on = rw on refl
open_on (one ∷ files) file on =
    ap (λ others. cond (length others == 0 && length one == 0) [] (one ∷ others)) (open_on files file on)
    ∙ rw (push_is_not_empty files file) refl

-- where the file that is taken now is over, it is taken away
pub over_less : (files others : List (List (List ℕ))) → is_over (innermost files) ≡ true → others ≡ take (length files - 1) files
    → length others < length files
over_less [] others over less = absurd (cc)
over_less (file ∷ files) others over less =
    let size : length (file ∷ files) ≡ suc (length files) = refl in
    omega (arith, ap length less, size, length-take-le (length (file ∷ files) - 1) (file ∷ files) (omega arith))

by_last : (files : List (List (List ℕ))) (last : Option (List (List ℕ))) → innermost files ≡ last → is_over last ≡ true
    → open_files (take (length files - 1) files) ≡ open_files files
by_last files None is over = absurd (cc)
by_last files (Some file) is over =
    sym (ap open_files (last_split files file is) ∙ open_over (take (length files - 1) files) file over)

pub open_less : (files others : List (List (List ℕ))) → is_over (innermost files) ≡ true → others ≡ take (length files - 1) files
    → open_files others ≡ open_files files
open_less files others over less = ap open_files less ∙ by_last files (innermost files) refl over

-- else all go on
pub some_last : (file : List (List ℕ)) (files : List (List (List ℕ))) → innermost (file ∷ files) ≡ None → ⊥
some_last file files is =
    let size : length (file ∷ files) ≡ suc (length files) = refl in
    let there : slice_get (file ∷ files) (length (file ∷ files) - 1) ≡ Some (get_or (file ∷ files) (length (file ∷ files) - 1) file)
    = slice_get-get_or (file ∷ files) (length (file ∷ files) - 1) file (omega (arith, size)) in cc

on_last : (files : List (List (List ℕ))) (last : Option (List (List ℕ))) → innermost files ≡ last → is_over last ≡ false
    → files ≡ open_files files
on_last [] None is on = refl
on_last (file ∷ files) None is on = absurd (some_last file files is)
on_last files (Some file) is on =
    last_split files file is ∙ sym (open_on (take (length files - 1) files) file on) ∙ ap open_files (sym (last_split files file is))

pub open_all : (files : List (List (List ℕ))) → is_over (innermost files) ≡ false → files ≡ open_files files
open_all files on = on_last files (innermost files) refl on
