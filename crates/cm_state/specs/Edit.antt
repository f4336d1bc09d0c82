-- What one key makes of a session (COMND's editing keys).
use Rattle.std.specs.Prelude.{ℕ, ◌-◌, false, List, [], ◌∷◌, ◌++◌, length, take, Option, Some, None, unwrap_or, nat_lt, if◌then◌else◌}
use Rattle.cm_text.specs.declared.text.TheConstants.{LINE_LIMIT}
use Rattle.cm_text.specs.Text.{finished, joined}
use Rattle.cm_line.specs.declared.key.KeyClass.{KeyClass}
use Rattle.cm_line.specs.declared.key.KeyClass.TheVariants.{Text, End, Join, Rub, Word, Erase, Show, Back, Stop, Escape, Part, Help, Other}
use Rattle.cm_line.specs.Keys.{class_at, is_end}
use Rattle.cm_line.specs.Word.{word_start}
use Rattle.cm_blocks.specs.declared.field.Ending.{Ending}
use Rattle.cm_blocks.specs.declared.field.Ending.TheVariants as ending
use Rattle.cm_blocks.specs.FieldView.{FieldView}
use Rattle.cm_blocks.specs.Parse.{parse_of}
use Rattle.cm_blocks.specs.Setting.{Setting}
use Rattle.cm_recognise.specs.declared.insertion.Insertion.{Insertion}
use Rattle.cm_recognise.specs.declared.insertion.Mode.TheVariants as modes
use Rattle.cm_recognise.specs.Insertion.{insertion}
use Rattle.cm_state.specs.SessionState.{SessionState, line_before, text_of}

-- what a key of this class puts into a line whose parse has these fields and ends so: ESC and control-F complete it
abbrev pub completion : Setting → KeyClass → List FieldView → Ending → List ℕ → Insertion
completion s Escape fields ends line = insertion s fields ends line modes.Escape
completion s Part fields ends line = insertion s fields ends line modes.Part
completion s class fields ends line = record { bytes = []; bell = false }

-- the line after a key, CR left out, where a key that completes puts these bytes in
abbrev pub edit : KeyClass → ℕ → List ℕ → Option (List ℕ) → List ℕ → List ℕ
edit Text key line recall inserted = if nat_lt (length line) LINE_LIMIT then line ++ key ∷ [] else line
edit Rub key line recall inserted = take (length line - 1) line
edit Word key line recall inserted = take (word_start line) line
edit Erase key line recall inserted = []
edit Stop key line recall inserted = []
edit Back key line recall inserted = unwrap_or recall line
edit Escape key line recall inserted = line ++ inserted
edit Part key line recall inserted = line ++ inserted
edit Join key line recall inserted = joined line
edit End key line recall inserted = line
edit Show key line recall inserted = line
edit Help key line recall inserted = line
edit Other key line recall inserted = line

-- a refused line keeps the bytes before its faulty field
abbrev pub before_fault : List ℕ → Ending → Option (List ℕ)
before_fault line (ending.Open place) = None
before_fault line ending.Done = None
before_fault line (ending.Fault fault) = Some (take fault.at line)

-- what a key puts into the line that it meets
abbrev pub completed : Setting → SessionState → KeyClass → Insertion
completed s held class =
    let parse = parse_of s held.node (line_before held) in
    completion s class parse.fields parse.ending (line_before held)

-- [whole-line]
-- the session after a key of this class: the line, finished where the class is an end, and the parse of that text
unfoldable pub edited_as : Setting → SessionState → KeyClass → ℕ → SessionState
edited_as s held class key =
    let line = edit class key (line_before held) held.recall (completed s held class).bytes in
    let parse = parse_of s held.node (if is_end class then finished line else line) in
    record held {
      line = line;
      is_finished = is_end class;
      fields = parse.fields;
      ending = parse.ending;
      recall = if is_end class then before_fault line parse.ending else None;
    }

-- [key-line] after a key, whose class is that on the line that it meets
abbrev pub edited : Setting → SessionState → ℕ → SessionState
edited s held key = edited_as s held (class_at (line_before held) key) key

-- with the same text parsed afresh: after a finished line control-H brings back what that line's end would leave
unfoldable pub parsed_again : Setting → SessionState → SessionState
parsed_again s held =
    let parse = parse_of s held.node (text_of held) in
    record held {
      fields = parse.fields;
      ending = parse.ending;
      recall = if held.is_finished then before_fault held.line parse.ending else held.recall;
    }
