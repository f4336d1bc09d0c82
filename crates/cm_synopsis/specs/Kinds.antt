-- The kinds of a field: words of their own, lists that stand above, classes of bytes, or several of these.
use Rattle.std.specs.Prelude.{ℕ, ◌+◌, ◌-◌, ◌==◌, Bool, false, not, ◌||◌, nat_lt, if◌then◌else◌, List, [], ◌∷◌, ◌++◌, length, take, drop, codes, Option, None, Some, option_and_then, unwrap_or, Result, Ok, Err}
use Rattle.std.specs.Str.{bytes_eq}
use Rattle.cm_text.specs.ByteSets.{with_range, set_of}
use Rattle.cm_synopsis.specs.Bytes.{ends_in}
use Rattle.cm_synopsis.specs.declared.field.Kind.{Kind}
use Rattle.cm_synopsis.specs.declared.field.Kind.TheVariants.{Class, Date, Ipv4, Ipv4Prefix, Ipv6, Ipv6Prefix, Listed, Mac, Number, Quoted, Rest, Word}
use Rattle.cm_synopsis.specs.declared.field.TheConstants.{KIND_LIMIT}
use Rattle.cm_synopsis.specs.declared.reason.Reason.{Reason}
use Rattle.cm_synopsis.specs.declared.reason.Reason.TheVariants.{BadClass, ManyKinds, UnknownKind}

-- the first byte is this one
abbrev pub begins_in : ℕ → List ℕ → Bool
begins_in first [] = false
begins_in first (byte ∷ bytes) = byte == first

-- what is between the first byte and the last, where the last is this one and not the first
abbrev pub inside : ℕ → List ℕ → Option (List ℕ)
inside last text =
    if nat_lt (length text) 2 || not (ends_in last text) then None else Some (take (length text - 2) (drop 1 text))

-- the kinds that have words of their own
abbrev pub address_kind : List ℕ → Option Kind
address_kind text =
    if bytes_eq text (codes "ipv4") then Some Ipv4
    else if bytes_eq text (codes "ipv4/len") then Some Ipv4Prefix
    else if bytes_eq text (codes "ipv6") then Some Ipv6
    else if bytes_eq text (codes "ipv6/len") then Some Ipv6Prefix
    else None

abbrev pub known_kind : List ℕ → Option Kind
known_kind text =
    if bytes_eq text (codes "number") then Some Number
    else if bytes_eq text (codes "word") then Some Word
    else if bytes_eq text (codes "quoted") then Some Quoted
    else if bytes_eq text (codes "date") then Some Date
    else if bytes_eq text (codes "rest") then Some Rest
    else if bytes_eq text (codes "mac") then Some Mac
    else address_kind text

-- the number of the first list with this name, counted from a number on
abbrev pub place_of : ℕ → List ℕ → List (List ℕ) → Option ℕ
place_of place text [] = None
place_of place text (name ∷ lists) = if bytes_eq name text then Some place else place_of (place + 1) text lists

-- a word of its own comes before the name of a list
abbrev pub named_kind : Option Kind → Option ℕ → Result Kind Reason
named_kind (Some kind) place = Ok kind
named_kind None (Some place) = Ok (Listed place)
named_kind None None = Err UnknownKind

-- a set with the bytes from the first to the last more, all of 33 to 126
abbrev pub class_range : ℕ → ℕ → ℕ → Option ℕ
class_range set first last =
    if nat_lt first 33 || nat_lt last first || nat_lt 126 last then None else Some (with_range set first last)

-- the last byte of a range, where a hyphen and it follow the first
abbrev pub last_of : List ℕ → Option ℕ
last_of [] = None
last_of (hyphen ∷ []) = None
last_of (hyphen ∷ last ∷ more) = if hyphen == 45 then Some last else None

-- so many bytes of the range are behind the first
abbrev pub size_of : Option ℕ → ℕ
size_of (Some last) = 2
size_of None = 0

-- a set with what a class tells more: single bytes, and ranges; so many bytes are of the range before
abbrev pub class_after : ℕ → ℕ → List ℕ → Option ℕ
class_after set passed [] = Some set
class_after set passed (byte ∷ more) =
    if nat_lt 0 passed then class_after set (passed - 1) more
    else option_and_then (λ (some : ℕ). class_after some (size_of (last_of more)) more)
    (class_range set byte (unwrap_or (last_of more) byte))

-- the class between brackets has a byte at least
abbrev pub class_kind : Option ℕ → Result Kind Reason
class_kind (Some set) = Ok (Class set)
class_kind None = Err BadClass

abbrev pub class_of : Option (List ℕ) → Result Kind Reason
class_of None = Err BadClass
class_of (Some []) = Err BadClass
class_of (Some (byte ∷ bytes)) = class_kind (class_after (set_of []) 0 (byte ∷ bytes))

-- the kind that a text tells
abbrev pub kind_of : List (List ℕ) → List ℕ → Result Kind Reason
kind_of lists text =
    if begins_in 91 text then class_of (inside 93 text) else named_kind (known_kind text) (place_of 0 text lists)

-- one kind more, of at most so many
abbrev pub with_kind : List Kind → Kind → Result (List Kind) Reason
with_kind made kind = if nat_lt (length made) KIND_LIMIT then Ok (made ++ kind ∷ []) else Err ManyKinds

abbrev pub with_read : List Kind → Result Kind Reason → Result (List Kind) Reason
with_read made (Ok kind) = with_kind made kind
with_read made (Err reason) = Err reason

-- what is made of a result, where it is one
abbrev pub then_of : {A B : Type 0} → (A → Result B Reason) → Result A Reason → Result B Reason
then_of after (Ok value) = after value
then_of after (Err reason) = Err reason

-- a byte of a kind, and no bar between two
abbrev pub is_inside : ℕ → Bool
is_inside byte = not (byte == 124)

-- kinds with bars between them, of which these are made, and the next is begun
abbrev pub kinds_after : List (List ℕ) → List Kind → List ℕ → List ℕ → Result (List Kind) Reason
kinds_after lists made begun [] = with_read made (kind_of lists begun)
kinds_after lists made begun (byte ∷ bytes) =
    if is_inside byte then kinds_after lists made (begun ++ byte ∷ []) bytes
    else then_of (λ more. kinds_after lists more [] bytes) (with_read made (kind_of lists begun))

-- the kinds of a field: one, or several in angle brackets
abbrev pub kinds_inside : List (List ℕ) → Option (List ℕ) → Result (List Kind) Reason
kinds_inside lists (Some text) = kinds_after lists [] [] text
kinds_inside lists None = Err UnknownKind

abbrev pub kinds_of : List (List ℕ) → List ℕ → Result (List Kind) Reason
kinds_of lists text =
    if begins_in 60 text then kinds_inside lists (inside 62 text) else with_read [] (kind_of lists text)
