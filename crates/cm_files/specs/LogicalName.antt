-- Logical names, each of which stands for a directory.
use Rattle.std.specs.Prelude.{ℕ, Bool, not, ◌&&◌, false, nat_le, List, [], ◌∷◌, length, codes}
use Rattle.std.specs.Char.{is_ascii_alphabetic}
use Rattle.std.specs.List.{list_all}
use Rattle.cm_text.specs.declared.name.TheConstants.{NAME_LIMIT}
use Rattle.cm_text.specs.Bytes.{is_name}
use Rattle.cm_text.specs.Case.{equals}

-- the first byte is a letter
abbrev pub begins_with_letter : List ℕ → Bool
begins_with_letter [] = false
begins_with_letter (byte ∷ more) = is_ascii_alphabetic byte

-- 1 to 39 name bytes that begin with a letter, and no device's name
unfoldable pub is_logical_name : List ℕ → Bool
is_logical_name name =
    nat_le (length name) NAME_LIMIT && begins_with_letter name && list_all is_name name
    && not (equals name (codes "PS")) && not (equals name (codes "DSK")) && not (equals name (codes "TTY"))
