-- What each key is to the editor.
use Rattle.std.specs.Prelude.{ℕ, ◌==◌, ◌&&◌, ◌||◌, Bool, true, false, List, if◌then◌else◌}
use Rattle.cm_text.specs.Bytes.{is_text}
use Rattle.cm_text.specs.Text.{ends_in_hyphen}
use Rattle.cm_line.specs.declared.key.KeyClass.{KeyClass}
use Rattle.cm_line.specs.declared.key.KeyClass.TheVariants.{Text, End, Join, Rub, Word, Erase, Show, Back, Stop, Escape, Part, Help, Other}

-- 13 and 10 are CR and LF, 127 is DEL, 27 is ESC and 63 is `?`; 23, 21, 18, 8, 3 and 6 are control-W, -U, -R,
-- -H, -C and -F
unfoldable pub class_of : ℕ → KeyClass
class_of key =
    if is_text key then Text
    else (if key == 13 || key == 10 then End
    else (if key == 127 then Rub
    else (if key == 23 then Word
    else (if key == 21 then Erase
    else (if key == 18 then Show
    else (if key == 8 then Back
    else (if key == 3 then Stop
    else (if key == 27 then Escape
    else (if key == 6 then Part
    else (if key == 63 then Help
    else Other))))))))))

-- the key finishes the line
abbrev pub is_end : KeyClass → Bool
is_end End = true
is_end class = false

-- the class of a key on a line: an end continues one that ends in a hyphen
unfoldable pub class_at : List ℕ → ℕ → KeyClass
class_at line key = if is_end (class_of key) && ends_in_hyphen line then Join else class_of key
