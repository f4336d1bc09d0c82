-- What a step of a file's completion found, where its outcome is whole.
use Rattle.std.proofs.Common.{◌≡◌, ◌⊎◌, inl, inr, ℕ, Bool, ◌&&◌, if◌then◌else◌, List, [], ◌∷◌, ◌++◌, decimal, Option, Some, None, refl}
use Rattle.cm_text.specs.BeginLaws.{lower}
use Rattle.cm_text.specs.Case.{equals}
use Rattle.cm_files.specs.declared.row.FileRow.{FileRow}
use Rattle.cm_files.specs.Selection.{agree}
use Rattle.cm_recognise.specs.declared.file_outcome.Request.{Request}
use Rattle.cm_recognise.specs.declared.found.Found.{Found}
use Rattle.cm_recognise.specs.declared.found.Found.TheVariants.{Nobody, One, Several}
use Rattle.cm_recognise.specs.declared.insertion.Mode.{Mode}
use Rattle.cm_recognise.specs.declared.insertion.Mode.TheVariants as modes
use Rattle.cm_recognise.specs.declared.outcome.Outcome.{Outcome}
use Rattle.cm_recognise.specs.declared.outcome.Outcome.TheVariants.{Nothing, Part, Piece, Whole}
use Rattle.cm_recognise.specs.FileOutcome.{after_kind, after_name, as_piece, generation_step, kind_step, name_step}
use Rattle.cm_recognise.specs.Candidates.{found_kinds, found_names, highest, kind_like, missing, name_like}
use Rattle.cm_recognise.proofs.Sources.{found_comes}
use Rattle.cm_recognise.proofs.Completions.{listed_of}
use Rattle.cm_recognise.proofs.LetterCase.{completed_lower}

-- what stands for the generation
abbrev pub number_of : Bool → ℕ → List ℕ
number_of all generation = if all then 42 ∷ [] else decimal generation

-- a whole outcome of a step names what was found
pub record Numbered (request : Request) (gathered bytes : List ℕ) (after : ℕ) (found : Option ℕ) : Type 0 where
  pub generation : ℕ
  pub found_is : found ≡ Some generation
  pub bytes_is : gathered ++ number_of request.flags.all_generations generation ≡ bytes
  pub leads : request.next ≡ after

pub numbered_of : (request : Request) (gathered bytes : List ℕ) (after : ℕ) (other : Outcome) (found : Option ℕ)
    → generation_step request gathered other found ≡ Whole bytes after → (other ≡ Whole bytes after) ⊎ Numbered request gathered bytes after found
numbered_of request gathered bytes after other None is = inl is
numbered_of request gathered bytes after other (Some generation) is =
    let bytes_is : gathered ++ number_of request.flags.all_generations generation ≡ bytes = cc in
    let leads : request.next ≡ after = cc in
    inr (record { generation = generation; found_is = refl; bytes_is = bytes_is; leads = leads })

pub record Kinded (request : Request) (rows : List FileRow) (gathered name typed bytes : List ℕ) (after : ℕ) (found : Found) : Type 0 where
  pub kind : List ℕ
  pub found_is : found ≡ One kind
  pub numbered : Numbered request (gathered ++ (missing kind typed ++ 46 ∷ [])) bytes after (highest rows request.flags.deleted name kind)

pub kinded_of : (request : Request) (rows : List FileRow) (gathered name typed bytes : List ℕ) (after : ℕ) (found : Found)
    → kind_step request rows gathered name typed found ≡ Whole bytes after → Kinded request rows gathered name typed bytes after found
kinded_of request rows gathered name typed bytes after Nobody is = cc
kinded_of request rows gathered name typed bytes after (Several front) is = cc
kinded_of request rows gathered name typed bytes after (One kind) is = by request.mode is
  where
    whole : List ℕ
    whole = gathered ++ (missing kind typed ++ 46 ∷ [])

    either : (Part whole ≡ Whole bytes after) ⊎ Numbered request whole bytes after (highest rows request.flags.deleted name kind)
        → Kinded request rows gathered name typed bytes after (One kind)
    either (inl never) = cc
    either (inr numbered) = record { kind = kind; found_is = refl; numbered = numbered }

    by : (mode : Mode) → after_kind mode request rows whole name kind ≡ Whole bytes after
        → Kinded request rows gathered name typed bytes after (One kind)
    by modes.Part is = cc
    by modes.Escape is = either (numbered_of request whole bytes after (Part whole) (highest rows request.flags.deleted name kind) is)

pub record Called (request : Request) (rows : List FileRow) (typed bytes : List ℕ) (after : ℕ) (found : Found) : Type 0 where
  pub name : List ℕ
  pub found_is : found ≡ One name
  pub kinded : Kinded request rows (missing name typed ++ 46 ∷ []) name [] bytes after (found_kinds rows request.flags.deleted name [])

pub called_of : (request : Request) (rows : List FileRow) (typed bytes : List ℕ) (after : ℕ) (found : Found)
    → name_step request rows typed found ≡ Whole bytes after → Called request rows typed bytes after found
called_of request rows typed bytes after Nobody is = cc
called_of request rows typed bytes after (Several front) is = cc
called_of request rows typed bytes after (One name) is = by request.mode is
  where
    by : (mode : Mode) → after_name mode request rows (missing name typed ++ 46 ∷ []) name ≡ Whole bytes after
        → Called request rows typed bytes after (One name)
    by modes.Part is = cc
    by modes.Escape is =
        record {
          name = name;
          found_is = refl;
          kinded = kinded_of request rows (missing name typed ++ 46 ∷ []) name [] bytes after (found_kinds rows request.flags.deleted name []) is;
        }

-- what completes a name, and a type
pub name_lower : (rows : List FileRow) (deleted : Bool) (typed name : List ℕ) → found_names rows deleted typed ≡ One name
    → lower (typed ++ missing name typed) ≡ lower name
name_lower rows deleted typed name found =
    let comes = found_comes FileRow (name_like deleted typed) rows name found in
    completed_lower name typed (listed_of typed (agree comes.x.deleted deleted) comes.x.name name comes.gives).begins

pub kind_lower : (rows : List FileRow) (deleted : Bool) (name typed kind : List ℕ) → found_kinds rows deleted name typed ≡ One kind
    → lower (typed ++ missing kind typed) ≡ lower kind
kind_lower rows deleted name typed kind found =
    let comes = found_comes FileRow (kind_like deleted name typed) rows kind found in
    completed_lower kind typed
    (listed_of typed (agree comes.x.deleted deleted && equals comes.x.name name) comes.x.kind kind comes.gives).begins

-- a piece is not whole
pub piece_never : (outcome : Outcome) (bytes : List ℕ) (after : ℕ) → as_piece outcome ≡ Whole bytes after → ⊥
piece_never Nothing bytes after is = cc
piece_never (Part text) bytes after is = cc
piece_never (Piece text) bytes after is = cc
piece_never (Whole text next) bytes after is = cc
