-- Traces: events, one a line, in the order in which they happen.
use Rattle.std.specs.Prelude.{ℕ, ◌==◌, Bool, if◌then◌else◌, List, [], map, codes}
use Rattle.std.specs.List.{after_first, before_first}
use Rattle.std.specs.Str.{bytes_eq}
use Rattle.std.specs.Str.Lines.{lines}
use Rattle.cm_io_tests.specs.Texts.{meaning}

-- a key is asked for, bytes are put on the screen, or on the log, or from here on the state is these bytes
pub data Event : Type 0 where
  Get : Event
  Show : List ℕ → Event
  Log : List ℕ → Event
  Act : List ℕ → Event

abbrev pub is_space : ℕ → Bool
is_space byte = byte == 32

-- the first word of a line
unfoldable pub kind_of : List ℕ → List ℕ
kind_of line = before_first is_space line

-- what the text after that stands for
unfoldable pub text_of : List ℕ → List ℕ
text_of line = meaning (after_first is_space line)

-- a line says get, show, log or act
unfoldable pub event_of : List ℕ → Event
event_of line =
    if bytes_eq (kind_of line) (codes "get") then Get
    else (if bytes_eq (kind_of line) (codes "show") then Show (text_of line)
    else (if bytes_eq (kind_of line) (codes "log") then Log (text_of line) else Act (text_of line)))

unfoldable pub events_of : List ℕ → List Event
events_of trace = map event_of (lines trace)

-- what an event puts on the screen
abbrev pub screen_text : Event → List ℕ
screen_text Get = []
screen_text (Show bytes) = bytes
screen_text (Log bytes) = []
screen_text (Act bytes) = []

-- and on the log
abbrev pub log_text : Event → List ℕ
log_text Get = []
log_text (Show bytes) = []
log_text (Log bytes) = bytes
log_text (Act bytes) = []

-- the state after it
abbrev pub state_after : List ℕ → Event → List ℕ
state_after state Get = state
state_after state (Show bytes) = state
state_after state (Log bytes) = state
state_after state (Act bytes) = bytes

-- how many keys it asks for
abbrev pub get_count : Event → ℕ
get_count Get = 1
get_count (Show bytes) = 0
get_count (Log bytes) = 0
get_count (Act bytes) = 0
