-- Keywords and switches (.CMKEY, .CMSWI).
use Rattle.std.specs.Prelude.{ℕ, ◌+◌, ◌==◌, Bool, false, if◌then◌else◌, List, [], ◌∷◌, length, take, Result, Ok, Err, slice_get}
use Rattle.std.specs.List.{prefix_len}
use Rattle.std.specs.Option.{option_map_or}
use Rattle.cm_text.specs.Bytes.{is_word}
use Rattle.cm_tables.specs.declared.entry.Entry.{Entry}
use Rattle.cm_tables.specs.declared.table.Look.{Look}
use Rattle.cm_tables.specs.declared.table.Look.TheVariants as looks
use Rattle.cm_tables.specs.Look.{look}
use Rattle.cm_fields.specs.declared.code.Code.{Code}
use Rattle.cm_fields.specs.declared.code.Code.TheVariants.{NotKeyword, Ambiguous, NotSwitch, NeedColon}
use Rattle.cm_fields.specs.declared.trial.Try.{Try}
use Rattle.cm_fields.specs.declared.trial.Try.TheVariants.{Accept, Refuse, More}
use Rattle.cm_fields.specs.declared.value.Value.{Value}
use Rattle.cm_fields.specs.declared.value.Value.TheVariants.{Key, Switch}
use Rattle.cm_fields.specs.Try.{by_run}

-- the position of the one entry that is found
abbrev pub position_of : Look → Result ℕ Code
position_of looks.None = Err NotKeyword
position_of looks.Ambiguous = Err Ambiguous
position_of (looks.Abbrev position) = Ok position
position_of (looks.Exact position) = Ok position

-- the entry that a run means; a run of no bytes is no keyword
unfoldable pub entry_position : List Entry → List ℕ → Result ℕ Code
entry_position table run = if length run == 0 then Err NotKeyword else position_of (look table run)

abbrev pub code_at : List Entry → ℕ → ℕ
code_at table position = option_map_or (λ (entry : Entry). entry.code) (slice_get table position) 0

abbrev pub has_colon : List Entry → ℕ → Bool
has_colon table position = option_map_or (λ (entry : Entry). entry.colon) (slice_get table position) false

-- the value of the entry that a run means
abbrev pub key_value : List Entry → Result ℕ Code → Result Value Code
key_value table (Ok position) = Ok (Key position (code_at table position))
key_value table (Err code) = Err code

abbrev pub key : List Entry → List ℕ → ℕ → Try
key table rest at = by_run is_word (λ run. key_value table (entry_position table run)) rest at

-- the name of a switch is a run of this size, which the next byte ends; an entry with a colon wants that byte
-- to be one, and takes it
abbrev pub named_switch : List Entry → ℕ → ℕ → Bool → Result ℕ Code → Try
named_switch table at size colon (Ok position) =
    if has_colon table position
    then (if colon then Accept (Switch position (code_at table position)) (size + 2) (at + (size + 2))
    else Refuse NeedColon (size + 2))
    else Accept (Switch position (code_at table position)) (size + 2) (at + (size + 1))
named_switch table at size colon (Err code) = Refuse code (size + 2)

-- after the slash
abbrev pub after_slash : List Entry → List ℕ → ℕ → Try
after_slash table rest at =
    let size = prefix_len is_word rest in
    if size == length rest then More
    else named_switch table at size (option_map_or (λ byte. byte == 58) (slice_get rest size) false)
    (entry_position table (take size rest))

abbrev pub switch : List Entry → List ℕ → ℕ → Try
switch table [] at = More
switch table (byte ∷ rest) at = if byte == 47 then after_slash table rest at else Refuse NotSwitch 1
