-- A file that is typed in, key by key.
use Rattle.std.specs.Prelude.{ℕ, ◌+◌, ◌-◌, ◌==◌, Bool, ◌&&◌, ◌||◌, nat_le, if◌then◌else◌, List, [], ◌∷◌, ◌++◌, length, take, slice_get, codes, Option, Some, None}
use Rattle.cm_text.specs.ScreenBytes.{bell, control_c, end_of_line, rubout, screen_byte}
use Rattle.ex_generations.specs.declared.file.TheConstants.{FILE_LIMIT}
use Rattle.ex_commands.specs.declared.data.DataTurn.{DataTurn}
use Rattle.ex_commands.specs.declared.data.DataTurn.TheVariants as turns
use Rattle.ex_commands.specs.declared.data.Echo.{Echo}
use Rattle.ex_commands.specs.declared.data.Echo.TheVariants as echoes

-- how many bytes a key puts in that is shown so
abbrev pub size_of : Echo → ℕ
size_of (echoes.Byte byte) = 1
size_of echoes.Line = 2
size_of echoes.Bell = 0
size_of echoes.Rubout = 0
size_of echoes.Written = 0
size_of echoes.Dropped = 0

-- the bell rings where a file has no room for what is put in
abbrev pub adding : List ℕ → Echo → Echo
adding bytes echo = if nat_le (length bytes + size_of echo) FILE_LIMIT then echo else echoes.Bell

-- the last byte goes, but no end of a line does
abbrev pub rubbing : Option ℕ → Echo
rubbing None = echoes.Bell
rubbing (Some last) = if last == 10 then echoes.Bell else echoes.Rubout

-- TAB, or from space to tilde
abbrev pub is_typed : ℕ → Bool
is_typed key = key == 9 || (nat_le 32 key && nat_le key 126)

-- a byte is put in, CR or LF ends a line, DEL takes a byte away, control-Z writes the file, and control-C drops it;
-- any other key rings
unfoldable pub echo_of : List ℕ → ℕ → Echo
echo_of bytes key =
    if is_typed key then adding bytes (echoes.Byte key)
    else (if key == 13 || key == 10 then adding bytes echoes.Line
    else (if key == 127 then rubbing (slice_get bytes (length bytes - 1))
    else (if key == 26 then echoes.Written else (if key == 3 then echoes.Dropped else echoes.Bell))))

-- what the key shows
unfoldable pub echo_text : Echo → List ℕ
echo_text (echoes.Byte byte) = screen_byte byte ∷ []
echo_text echoes.Line = end_of_line
echo_text echoes.Bell = bell
echo_text echoes.Rubout = rubout
echo_text echoes.Written = codes "^Z" ++ end_of_line
echo_text echoes.Dropped = control_c ++ end_of_line

-- the bytes after it
abbrev pub bytes_by : List ℕ → Echo → List ℕ
bytes_by bytes (echoes.Byte byte) = bytes ++ byte ∷ []
bytes_by bytes echoes.Line = bytes ++ 13 ∷ 10 ∷ []
bytes_by bytes echoes.Bell = bytes
bytes_by bytes echoes.Rubout = take (length bytes - 1) bytes
bytes_by bytes echoes.Written = bytes
bytes_by bytes echoes.Dropped = []

abbrev pub bytes_after : List ℕ → ℕ → List ℕ
bytes_after bytes key = bytes_by bytes (echo_of bytes key)

-- its outcome
abbrev pub turn_of : Echo → DataTurn
turn_of (echoes.Byte byte) = turns.More
turn_of echoes.Line = turns.More
turn_of echoes.Bell = turns.More
turn_of echoes.Rubout = turns.More
turn_of echoes.Written = turns.Write
turn_of echoes.Dropped = turns.Dropped
