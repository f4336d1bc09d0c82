-- The interfaces of the router, in the order of their names.
use Rattle.std.specs.Prelude.{◌≡◌, ℕ, ◌≤◌, ◌&&◌, ◌||◌, ◌==◌, Bool, true, false, not, nat_lt, nat_le, if◌then◌else◌, List, [], ◌∷◌, filter, length, map, slice_get, slice_set}
use Rattle.std.specs.Char.{is_ascii_lowercase}
use Rattle.std.specs.List.{insert, list_all, list_any, prefix_len}
use Rattle.std.specs.Option.{option_map_or}
use Rattle.std.specs.Ordering.{is_eq, is_lt, on}
use Rattle.std.specs.declared.cmp.Ordering.{Ordering}
use Rattle.cm_text.specs.Bytes.{is_word}
use Rattle.cm_text.specs.declared.name.TheConstants.{NAME_LIMIT}
use Rattle.cm_lists.specs.Ascent.{ascends}
use Rattle.cm_files.specs.Catalogue.{by_bytes}
use Rattle.eg_router.specs.declared.interface.Change.{Change}
use Rattle.eg_router.specs.declared.interface.Change.TheVariants.{Address, Description, Shutdown}
use Rattle.eg_router.specs.declared.interface.Interface.{Interface}
use Rattle.eg_router.specs.declared.interfaces.TheConstants.{INTERFACE_LIMIT}

-- the interface of this name, which is up, with no settings
abbrev pub fresh : List ℕ → Interface
fresh name = record { name = name; address = []; description = []; is_down = false }

-- an interface after a change
abbrev pub changed : Change → Interface → Interface
changed (Address address) it = record it { address = address }
changed (Description text) it = record it { description = text }
changed (Shutdown is_down) it = record it { is_down = is_down }

-- a letter, a digit, a hyphen or a point
abbrev pub is_typed_byte : ℕ → Bool
is_typed_byte byte = is_word byte || byte == 46

-- a text that is not empty, and whose first byte is no point
abbrev pub begins_name : List ℕ → Bool
begins_name [] = false
begins_name (byte ∷ more) = not (byte == 46)

-- 1 to 39 letters, digits, hyphens and points, of which the first is no point
abbrev pub is_typed_name : List ℕ → Bool
is_typed_name text = begins_name text && nat_le (length text) NAME_LIMIT && list_all is_typed_byte text

-- such a text in upper case
abbrev pub is_capital : ℕ → Bool
is_capital byte = not (is_ascii_lowercase byte)

abbrev pub is_interface_name : List ℕ → Bool
is_interface_name name = is_typed_name name && list_all is_capital name

abbrev pub names_of : List Interface → List (List ℕ)
names_of interfaces = map (λ (it : Interface). it.name) interfaces

-- interfaces by their names
abbrev pub by_name : Interface → Interface → Ordering
by_name = on (λ (it : Interface). it.name) by_bytes

-- at most 16, whose names are names and ascend
pub record AreInterfaces (interfaces : List Interface) : Type 0 where
  pub few : length interfaces ≤ INTERFACE_LIMIT
  pub names : list_all (λ (it : Interface). is_interface_name it.name) interfaces ≡ true
  pub ascend : ascends by_name interfaces ≡ true

-- how many are below a name
abbrev pub place : List ℕ → List Interface → ℕ
place name interfaces = prefix_len (λ (it : Interface). is_lt (by_bytes it.name name)) interfaces

-- one has this name
abbrev pub has : List ℕ → List Interface → Bool
has name interfaces = list_any (λ (it : Interface). is_eq (by_bytes it.name name)) interfaces

-- one of this name is there, or may be made
abbrev pub may_enter : List ℕ → List Interface → Bool
may_enter name interfaces =
    has name interfaces || (is_interface_name name && nat_lt (length interfaces) INTERFACE_LIMIT)

-- with one of this name, which is new where there was none
abbrev pub with_name : List ℕ → List Interface → List Interface
with_name name interfaces =
    if has name interfaces then interfaces else insert interfaces (place name interfaces) (fresh name)

-- without the one of this name
abbrev pub without_name : List ℕ → List Interface → List Interface
without_name name interfaces = filter (λ (it : Interface). not (is_eq (by_bytes it.name name))) interfaces

-- with the one at this place changed, where there is one
abbrev pub with_change : ℕ → Change → List Interface → List Interface
with_change at change interfaces =
    option_map_or (λ (it : Interface). slice_set interfaces at (changed change it)) (slice_get interfaces at) interfaces

-- the name of the one at this place, and none where there is none
abbrev pub name_at : ℕ → List Interface → List ℕ
name_at at interfaces = option_map_or (λ (it : Interface). it.name) (slice_get interfaces at) []
