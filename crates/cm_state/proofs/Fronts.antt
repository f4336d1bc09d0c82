-- How much of a line a key leaves as it was.
-- How much of a line stays is known by the class of the key (front_stays), but for what control-H brings back. So no
-- key copies a line.
use Rattle.std.proofs.Common.{◌≡◌, ℕ, zero, suc, ◌+◌, ◌-◌, ◌≤◌, min, ◌==◌, Bool, true, false, if◌then◌else◌, nat_lt, List, [], ◌∷◌, ◌++◌, length, take, slice_get, Option, Some, None, refl, arith, length-append}
use Rattle.std.proofs.lemmas.Bool.Decides.{nat_tests}
use Rattle.std.proofs.lemmas.List.{length-take}
use Rattle.std.proofs.lemmas.List.Sums.{common_prefix_len-le}
use Rattle.std.specs.Option.{option_map_or}
use Rattle.cm_lists.proofs.Numbers.{eq_itself}
use Rattle.cm_text.specs.Text.{ends_in_hyphen, finished, joined}
use Rattle.cm_text.specs.declared.text.TheConstants.{JOIN, LINE_LIMIT}
use Rattle.cm_line.specs.declared.key.KeyClass.{KeyClass}
use Rattle.cm_line.specs.declared.key.KeyClass.TheVariants.{Text, End, Join, Rub, Word, Erase, Show, Back, Stop, Escape, Part, Help, Other}
use Rattle.cm_line.specs.Keys.{is_end}
use Rattle.cm_line.specs.Word.{word_start}
use Rattle.cm_line.proofs.ClassLaws.{some_bytes}
use Rattle.cm_blocks.specs.KeptParse.{common}
use Rattle.cm_state.specs.Edit.{edit}
use Rattle.cm_state.specs.Front.{front}

-- a line and what is longer than it begin alike with the whole line
pub common_longer : (line more : List ℕ) → common line (line ++ more) ≡ length line
common_longer [] more = refl
common_longer (byte ∷ line) more = rw (eq_itself byte) (let later = common_longer line more in omega (arith, later))

common_same : (line : List ℕ) → common line line ≡ length line
common_same [] = refl
common_same (byte ∷ line) = rw (eq_itself byte) (let later = common_same line in omega (arith, later))

-- a line and a prefix of it begin alike with the prefix
common_prefix : (size : ℕ) (line : List ℕ) → common line (take size line) ≡ length (take size line)
common_prefix zero [] = refl
common_prefix zero (byte ∷ line) = refl
common_prefix (suc size) [] = refl
common_prefix (suc size) (byte ∷ line) = rw (eq_itself byte)
    (let later = common_prefix size line in omega (arith, later))

-- the front that stays: what a key leaves of the line
abbrev Stays : KeyClass → ℕ → List ℕ → Option (List ℕ) → List ℕ → Type 0
Stays class key line recall inserted =
    let now : List ℕ = edit class key line recall inserted in
    min (front class line recall) (length now) ≡ common line (if is_end class then finished now else now)

prefix_stays : (size : ℕ) (line : List ℕ) → min (length line) (length (take size line)) ≡ common line (take size line)
prefix_stays size line =
    let most : length (take size line) ≤ length line = omega (arith, length-take size line) in
    omega (arith, common_prefix size line)

line_stays : (line : List ℕ) → min (length line) (length line) ≡ common line line
line_stays line = omega (arith, common_same line)

text_stays : (fits : Bool) (key : ℕ) (line : List ℕ)
    → let now : List ℕ = if fits then line ++ key ∷ [] else line in min (length line) (length now) ≡ common line now
text_stays true key line = omega (arith, common_longer line (key ∷ []), length-append line (key ∷ []))
text_stays false key line = line_stays line

none_stays : (line : List ℕ) → min (length line) 0 ≡ common line []
none_stays [] = refl
none_stays (byte ∷ line) = omega arith

pub longer_stays : (line more : List ℕ) → min (length line) (length (line ++ more)) ≡ common line (line ++ more)
longer_stays line more = omega (arith, common_longer line more, length-append line more)

-- a line that ends in a hyphen and the line with the join byte in its place begin alike up to there
common_join : (size : ℕ) (line : List ℕ) → size + 1 ≡ length line
    → option_map_or (λ (byte : ℕ). byte == 45) (slice_get line size) false ≡ true
    → common line (take size line ++ JOIN ∷ []) ≡ size
common_join zero [] all ends = absurd (omega (arith, all))
common_join zero (byte ∷ []) all ends = let differs : (byte == JOIN) ≡ false = grind (arith, nat_tests) in rw differs refl
common_join zero (byte ∷ next ∷ line) all ends = absurd (omega (arith, all))
common_join (suc size) [] all ends = absurd (omega (arith, all))
common_join (suc size) (byte ∷ line) all ends =
    rw (eq_itself byte) (let later = common_join size line (omega (arith, all)) ends in omega (arith, later))

join_stays : (line : List ℕ) → ends_in_hyphen line ≡ true → min (length line - 1) (length (joined line)) ≡ common line (joined line)
join_stays line ends =
    let some = some_bytes line ends in
    let alike : common line (joined line) ≡ length line - 1 = common_join (length line - 1) line (omega (arith, some)) ends in
    omega (arith, alike, length-append (take (length line - 1) line) (JOIN ∷ []), length-take (length line - 1) line)

pub front_stays : (class : KeyClass) (key : ℕ) (line : List ℕ) (recall : Option (List ℕ)) (inserted : List ℕ)
    → (class ≡ Join → ends_in_hyphen line ≡ true) → Stays class key line recall inserted
front_stays Text key line recall inserted join = text_stays (nat_lt (length line) LINE_LIMIT) key line
front_stays Join key line recall inserted join = join_stays line (join refl)
front_stays End key line recall inserted join = omega (arith, common_longer line (13 ∷ []))
front_stays Rub key line recall inserted join = prefix_stays (length line - 1) line
front_stays Word key line recall inserted join = prefix_stays (word_start line) line
front_stays Erase key line recall inserted join = none_stays line
front_stays Stop key line recall inserted join = none_stays line
front_stays Back key line None inserted join = line_stays line
front_stays Back key line (Some bytes) inserted join =
    let most = common_prefix_len-le (λ byte other. byte == other) line bytes in omega (arith, most.1)
front_stays Show key line recall inserted join = line_stays line
front_stays Escape key line recall inserted join = longer_stays line inserted
front_stays Part key line recall inserted join = longer_stays line inserted
front_stays Help key line recall inserted join = line_stays line
front_stays Other key line recall inserted join = line_stays line
