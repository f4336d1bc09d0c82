-- Users, directories, names, types and generations of a catalogue that what is typed may go on as.
use Rattle.std.specs.Prelude.{ℕ, ◌≤◌, ◌&&◌, Bool, if◌then◌else◌, max, List, [], ◌∷◌, length, drop, Option, Some, None}
use Rattle.std.specs.List.{filter_map}
use Rattle.std.specs.Str.{bytes_eq}
use Rattle.cm_text.specs.declared.name.TheConstants.{NAME_LIMIT}
use Rattle.cm_text.specs.Case.{begins_with, equals}
use Rattle.cm_tables.specs.Common.{shared}
use Rattle.cm_files.specs.declared.row.FileRow.{FileRow}
use Rattle.cm_files.specs.Catalogue.{Catalogue}
use Rattle.cm_files.specs.Fields.{is_user}
use Rattle.cm_files.specs.Selection.{agree}
use Rattle.cm_recognise.specs.declared.found.Found.{Found}
use Rattle.cm_recognise.specs.declared.found.Found.TheVariants.{Nobody, One, Several}

-- what is missing after an atom of a text that begins with it
abbrev pub missing : List ℕ → List ℕ → List ℕ
missing text atom = drop (length atom) text

-- each of a list, one after the other
abbrev pub gather : {S Y : Type 0} → (S → Y → S) → S → List Y → S
gather step so_far [] = so_far
gather step so_far (y ∷ more) = gather step (step so_far y) more

-- one more, if there is one
abbrev pub with_some : {S Y : Type 0} → (S → Y → S) → S → Option Y → S
with_some step so_far None = so_far
with_some step so_far (Some y) = step so_far y

-- a text more: it is the first, the same again, or one of several, of which it is kept what they share
abbrev pub with_text : Found → List ℕ → Found
with_text Nobody text = One text
with_text (One found) text = if bytes_eq found text then One found else Several (shared found text)
with_text (Several front) text = Several (shared front text)

-- a number more, of which the greatest is kept
abbrev pub greater : Option ℕ → ℕ → Option ℕ
greater None number = Some number
greater (Some most) number = Some (max most number)

-- a text that is listed and begins with what is typed
abbrev pub if_begins : List ℕ → Bool → List ℕ → Option (List ℕ)
if_begins typed listed text = if listed && begins_with text typed then Some text else None

-- a directory that begins so
abbrev pub directory_like : List ℕ → List ℕ → Option (List ℕ)
directory_like typed name = if begins_with name typed then Some name else None

-- a user who begins so
abbrev pub user_like : List ℕ → List ℕ → Option (List ℕ)
user_like typed name = if_begins typed (is_user name) name

-- the name of a file that begins so, of those that are marked deleted or of the others
abbrev pub name_like : Bool → List ℕ → FileRow → Option (List ℕ)
name_like deleted typed row = if_begins typed (agree row.deleted deleted) row.name

-- the type, which begins so, of a file of this name
abbrev pub kind_like : Bool → List ℕ → List ℕ → FileRow → Option (List ℕ)
kind_like deleted name typed row = if_begins typed (agree row.deleted deleted && equals row.name name) row.kind

-- the generation of a file of this name and type
abbrev pub generation_like : Bool → List ℕ → List ℕ → FileRow → Option ℕ
generation_like deleted name kind row =
    if agree row.deleted deleted && (equals row.name name && equals row.kind kind) then Some row.generation else None

-- what texts say together
abbrev pub found_of : List (List ℕ) → Found
found_of texts = gather with_text Nobody texts

-- the directories, the users, the names of files, and the types of the files of one name, that begin with what is
-- typed
abbrev pub found_directories : Catalogue → List ℕ → Found
found_directories c typed = found_of (filter_map (directory_like typed) c.directories)

abbrev pub found_users : Catalogue → List ℕ → Found
found_users c typed = found_of (filter_map (user_like typed) c.directories)

abbrev pub found_names : List FileRow → Bool → List ℕ → Found
found_names rows deleted typed = found_of (filter_map (name_like deleted typed) rows)

abbrev pub found_kinds : List FileRow → Bool → List ℕ → List ℕ → Found
found_kinds rows deleted name typed = found_of (filter_map (kind_like deleted name typed) rows)

-- the highest generation of the files of one name and type
abbrev pub highest : List FileRow → Bool → List ℕ → List ℕ → Option ℕ
highest rows deleted name kind = gather greater None (filter_map (generation_like deleted name kind) rows)

-- what is found is no longer than a name may be
abbrev pub IsFound : Found → Type 0
IsFound Nobody = Unit {0}
IsFound (One text) = length text ≤ NAME_LIMIT
IsFound (Several front) = length front ≤ NAME_LIMIT
