-- How a file specification is read that goes on.
use Rattle.std.proofs.Common.{◌≡◌, ℕ, zero, suc, ◌+◌, ◌-◌, ◌<◌, ◌≤◌, Bool, true, false, ◌&&◌, ◌==◌, nat_lt, if◌then◌else◌, List, [], ◌∷◌, ◌++◌, length, take, drop, Option, Some, None, Ok, refl, ap, sym, arith, ◌∙◌, length-append, length-drop}
use Rattle.std.specs.List.{list_all, list_any, prefix_len}
use Rattle.std.specs.Option.{option_map_or}
use Rattle.std.proofs.lemmas.Bool.{and_parts, or_parts}
use Rattle.std.proofs.lemmas.Bool.Decides.{nat_tests}
use Rattle.std.proofs.lemmas.List.{drop-append-le, drop_all, take-append-le}
use Rattle.std.proofs.lemmas.List.Sums.{prefix_len-le-length}
use Rattle.std.proofs.lemmas.Option.{slice_get_past}
use Rattle.std.proofs.Math.Seq.{take-append_seam}
use Rattle.cm_lists.proofs.Bools.{by_test}
use Rattle.cm_lists.proofs.Elements.{slice_get-append_left}
use Rattle.cm_lists.proofs.Pieces.{append_cons_first, drop_next, drop_of_some, drop_part, drop_within}
use Rattle.cm_lists.proofs.Prefixes.{prefix_len_beyond, prefix_len_inside, prefix_len_stops}
use Rattle.cm_lists.proofs.Quantifiers.{all_weaker}
use Rattle.cm_text.specs.declared.name.TheConstants.{NAME_LIMIT}
use Rattle.cm_text.specs.Bytes.{is_name, is_word}
use Rattle.cm_fields.specs.declared.value.Gen.{Gen}
use Rattle.cm_fields.specs.declared.value.Gen.TheVariants as generations
use Rattle.cm_fields.specs.declared.value.Span.{Span}
use Rattle.cm_fields.specs.declared.value.Spec.{Spec}
use Rattle.cm_fields.specs.Try.{span}
use Rattle.cm_files.specs.declared.parts.Parts.{Parts}
use Rattle.cm_files.specs.declared.parts.Read.{Read}
use Rattle.cm_files.specs.Spec.{are_parts, device_read, directory_read, generation_of, is_long, is_path, is_pattern, name_read, nothing_read, part, part_read, parts_after, parts_of, pointed_read, read_spec, stands_at}
use Rattle.cm_files.proofs.Fronts.{stands_within}

-- a mark that is not in a text
abbrev pub lacks : ℕ → List ℕ → Type 0
lacks mark text = list_any (λ other. other == mark) text ≡ false

stands_nowhere : (text : List ℕ) (place mark : ℕ) → lacks mark text → stands_at text place mark ≡ false
stands_nowhere [] place mark none = refl
stands_nowhere (byte ∷ text) zero mark none = (or_parts (byte == mark) _ none).0
stands_nowhere (byte ∷ text) (suc place) mark none = stands_nowhere text place mark (or_parts (byte == mark) _ none).1

stands_more : (text more : List ℕ) (place mark : ℕ) → lacks mark more → stands_at (text ++ more) place mark ≡ stands_at text place mark
stands_more [] more place mark none = stands_nowhere more place mark none
stands_more (byte ∷ text) more zero mark none = refl
stands_more (byte ∷ text) more (suc place) mark none = stands_more text more place mark none

stands_past : (text : List ℕ) (place mark : ℕ) → length text ≤ place → stands_at text place mark ≡ false
stands_past text place mark past =
    ap (λ found. option_map_or (λ other. other == mark) found false) (slice_get_past text place past)

stands_inside : (text more : List ℕ) (place mark : ℕ) → place < length text
    → stands_at (text ++ more) place mark ≡ stands_at text place mark
stands_inside text more place mark within =
    ap (λ found. option_map_or (λ other. other == mark) found false) (slice_get-append_left text more place within)

-- what is at a place, and after it
pub stands_first : (text : List ℕ) (place first : ℕ) (rest : List ℕ) (mark : ℕ) → drop place text ≡ first ∷ rest
    → stands_at text place mark ≡ (first == mark)
stands_first [] zero first rest mark is = cc
stands_first [] (suc place) first rest mark is = cc
stands_first (byte ∷ text) zero first rest mark is =
    let same : byte ≡ first = cc in ap (λ byte. byte == mark) same
stands_first (byte ∷ text) (suc place) first rest mark is = stands_first text place first rest mark is

stands_end : (text : List ℕ) (place mark : ℕ) → drop place text ≡ [] → stands_at text place mark ≡ false
stands_end [] place mark is = refl
stands_end (byte ∷ text) zero mark is = cc
stands_end (byte ∷ text) (suc place) mark is = stands_end text place mark is

-- what is said of the device, by how many name bytes there are and whether a colon is after them
abbrev device_by : ℕ → Bool → Read
device_by size stands = if nat_lt 0 size && stands then part_read 0 size (size + 1) else nothing_read 0

device_none : (size : ℕ) → device_by size false ≡ nothing_read 0
device_none size = by (nat_lt 0 size)
  where
    by : (test : Bool) → (if test && false then part_read 0 size (size + 1) else nothing_read 0) ≡ nothing_read 0
    by true = refl
    by false = refl

pub device_more : (atom more : List ℕ) → lacks 58 more → device_read (atom ++ more) ≡ device_read atom
device_more atom more none =
    by_test _ (prefix_len is_name atom == length atom)
    (λ all.
    let size : prefix_len is_name atom ≡ length atom = grind (arith, nat_tests) in
    let long = prefix_len_beyond is_name atom more size in
    let first : stands_at (atom ++ more) (prefix_len is_name (atom ++ more)) 58 ≡ false =
    stands_more atom more (prefix_len is_name (atom ++ more)) 58 none ∙ stands_past atom (prefix_len is_name (atom ++ more)) 58 long in
    let second : stands_at atom (prefix_len is_name atom) 58 ≡ false = stands_past atom (prefix_len is_name atom) 58 (omega arith) in
    let whole : device_read (atom ++ more) ≡ nothing_read 0 =
    ap (device_by (prefix_len is_name (atom ++ more))) first ∙ device_none (prefix_len is_name (atom ++ more)) in
    let front : device_read atom ≡ nothing_read 0 =
    ap (device_by (prefix_len is_name atom)) second ∙ device_none (prefix_len is_name atom) in
    whole ∙ sym front)
    (λ differs.
    let most = prefix_len-le-length is_name atom in
    let inside : prefix_len is_name atom < length atom = grind (arith, nat_tests) in
    let same = prefix_len_inside is_name atom more inside in
    let stands = stands_more atom more (prefix_len is_name atom) 58 none in
    ap (λ (size : ℕ). device_by size (stands_at (atom ++ more) size 58)) same ∙ ap (device_by (prefix_len is_name atom)) stands)

-- the directory that is closed, or none
abbrev closed_by : ℕ → ℕ → Bool → Option Read
closed_by at size closed = if closed then Some (part_read (at + 1) size (at + size + 2)) else None

closed_test : (at size : ℕ) (closed : Bool) (read : Read) → closed_by at size closed ≡ Some read → closed ≡ true
closed_test at size true read is = refl
closed_test at size false read is = cc

abbrev directory_by : Bool → ℕ → Option Read → Option Read
directory_by opens at closed = if opens then closed else Some (nothing_read at)

abbrev closing : List ℕ → ℕ → Option Read
closing atom at =
    let size = prefix_len is_path (drop (at + 1) atom) in
    closed_by at size (stands_at atom (at + 1 + size) 62 && are_parts (take size (drop (at + 1) atom)))

closing_more : (atom more : List ℕ) (at : ℕ) (read : Read) → at < length atom → closing atom at ≡ Some read
    → closing (atom ++ more) at ≡ Some read
closing_more atom more at read within is =
    let inner = drop (at + 1) atom in
    let size = prefix_len is_path inner in
    let test = closed_test at size (stands_at atom (at + 1 + size) 62 && are_parts (take size inner)) read is in
    let parts = and_parts (stands_at atom (at + 1 + size) 62) (are_parts (take size inner)) test in
    let place = stands_within atom (at + 1 + size) 62 parts.0 in
    let rest : drop (at + 1) (atom ++ more) ≡ inner ++ more = drop-append-le (at + 1) atom more (omega arith) in
    let inner_size = length-drop (at + 1) atom in
    let inside : size < length inner = omega arith in
    let same : prefix_len is_path (drop (at + 1) (atom ++ more)) ≡ size = ap (prefix_len is_path) rest ∙ prefix_len_inside is_path inner more inside in
    let stands : stands_at (atom ++ more) (at + 1 + size) 62 ≡ true = stands_inside atom more (at + 1 + size) 62 place ∙ parts.0 in
    let front : take size (drop (at + 1) (atom ++ more)) ≡ take size inner = ap (take size) rest ∙ take-append-le size inner more (omega arith) in
    let whole : are_parts (take size (drop (at + 1) (atom ++ more))) ≡ true = ap are_parts front ∙ parts.1 in
    ap (λ (size : ℕ). closed_by at size (stands_at (atom ++ more) (at + 1 + size) 62 && are_parts (take size (drop (at + 1) (atom ++ more))))) same
    ∙ ap (λ (stands : Bool). closed_by at size (stands && are_parts (take size (drop (at + 1) (atom ++ more))))) stands
    ∙ ap (closed_by at size) (whole ∙ sym test) ∙ is

pub directory_more : (atom more : List ℕ) (at : ℕ) (read : Read) → lacks 60 more → directory_read atom at ≡ Some read
    → directory_read (atom ++ more) at ≡ Some read
directory_more atom more at read none is = by (stands_at atom at 60) refl is
  where
    by : (opens : Bool) → stands_at atom at 60 ≡ opens → directory_by opens at (closing atom at) ≡ Some read
        → directory_read (atom ++ more) at ≡ Some read
    by true opens is =
        let stands : stands_at (atom ++ more) at 60 ≡ true = stands_more atom more at 60 none ∙ opens in
        ap (λ (opens : Bool). directory_by opens at (closing (atom ++ more) at)) stands
        ∙ closing_more atom more at read (stands_within atom at 60 opens) is
    by false opens is =
        let stands : stands_at (atom ++ more) at 60 ≡ false = stands_more atom more at 60 none ∙ opens in
        ap (λ (opens : Bool). directory_by opens at (closing (atom ++ more) at)) stands ∙ is

-- a directory in its brackets, with which the text ends
pub directory_whole : (whole : List ℕ) (at : ℕ) (body : List ℕ) → drop at whole ≡ 60 ∷ (body ++ 62 ∷ [])
    → list_all is_path body ≡ true → are_parts body ≡ true
    → directory_read whole at ≡ Some (part_read (at + 1) (length body) (at + length body + 2))
unfolding is_name is_word
directory_whole whole at body is all parts =
    let opens : stands_at whole at 60 ≡ true = stands_first whole at 60 (body ++ 62 ∷ []) 60 is in
    let rest = drop_next whole at 60 (body ++ 62 ∷ []) is in
    let size : prefix_len is_path (drop (at + 1) whole) ≡ length body = ap (prefix_len is_path) rest ∙ prefix_len_stops is_path body (62 ∷ []) all refl in
    let end : drop (at + 1 + length body) whole ≡ 62 ∷ [] = drop_part whole (at + 1) body (62 ∷ []) rest in
    let stands : stands_at whole (at + 1 + length body) 62 ≡ true = stands_first whole (at + 1 + length body) 62 [] 62 end in
    let front : take (length body) (drop (at + 1) whole) ≡ body = ap (take (length body)) rest ∙ take-append_seam body (62 ∷ []) in
    let named : are_parts (take (length body) (drop (at + 1) whole)) ≡ true = ap are_parts front ∙ parts in
    ap (λ (opens : Bool). directory_by opens at (closing whole at)) opens
    ∙ ap (λ (size : ℕ). closed_by at size (stands_at whole (at + 1 + size) 62 && are_parts (take size (drop (at + 1) whole)))) size
    ∙ ap (λ (stands : Bool). closed_by at (length body) (stands && are_parts (take (length body) (drop (at + 1) whole)))) stands
    ∙ ap (closed_by at (length body)) named

-- a name, a type and a generation where they stand
pub name_at : (whole : List ℕ) (at : ℕ) (name rest : List ℕ) → drop at whole ≡ name ++ rest → list_all is_pattern name ≡ true
    → prefix_len is_pattern rest ≡ 0 → 0 < length name → name_read whole at ≡ Some (part_read at (length name) (at + length name))
name_at whole at name rest is all none some =
    let size : prefix_len is_pattern (drop at whole) ≡ length name = ap (prefix_len is_pattern) is ∙ prefix_len_stops is_pattern name rest all none in
    let test : nat_lt 0 (length name) ≡ true = grind (arith, nat_tests) in
    rw (size, test) refl

pub name_nowhere : (whole : List ℕ) (at : ℕ) → drop at whole ≡ [] → at ≡ length whole → name_read whole at ≡ Some (nothing_read at)
name_nowhere whole at is end =
    let size : prefix_len is_pattern (drop at whole) ≡ 0 = ap (prefix_len is_pattern) is in
    let test : (at == length whole) ≡ true = grind (arith, nat_tests) in
    rw (size, test) refl

pub pointed_at : (whole : List ℕ) (at : ℕ) (text rest : List ℕ) → drop at whole ≡ 46 ∷ (text ++ rest) → list_all is_pattern text ≡ true
    → prefix_len is_pattern rest ≡ 0 → pointed_read whole at ≡ part_read (at + 1) (length text) (at + 1 + length text)
pointed_at whole at text rest is all none =
    let stands : stands_at whole at 46 ≡ true = stands_first whole at 46 (text ++ rest) 46 is in
    let after = drop_next whole at 46 (text ++ rest) is in
    let size : prefix_len is_pattern (drop (at + 1) whole) ≡ length text = ap (prefix_len is_pattern) after ∙ prefix_len_stops is_pattern text rest all none in
    rw (stands, size) refl

pub pointed_nowhere : (whole : List ℕ) (at : ℕ) → drop at whole ≡ [] → pointed_read whole at ≡ nothing_read at
pointed_nowhere whole at is = rw (stands_end whole at 46 is) refl

-- the bytes of a part
pub part_bytes : (whole : List ℕ) (start : ℕ) (text rest : List ℕ) → drop start whole ≡ text ++ rest
    → part whole (span start (length text)) ≡ text
part_bytes whole start text rest is =
    let size : start + length text - start ≡ length text = omega arith in
    ap (λ (size : ℕ). take size (drop start whole)) size ∙ ap (take (length text)) is ∙ take-append_seam text rest

not_long : (start size : ℕ) → size ≤ NAME_LIMIT → is_long (Some (span start size)) ≡ false
not_long start size short = grind (arith, nat_tests)

stops_at_point : (rest : List ℕ) → prefix_len is_pattern (46 ∷ rest) ≡ 0
unfolding is_name is_word
stops_at_point rest = refl

-- a name, a type and a generation that may be after a directory
pub record Full (name kind number : List ℕ) : Type 0 where
  pub some : 0 < length name
  pub name_short : length name ≤ NAME_LIMIT
  pub kind_short : length kind ≤ NAME_LIMIT
  pub names : list_all is_name name ≡ true
  pub kinds : list_all is_name kind ≡ true
  pub numbers : list_all is_pattern number ≡ true

abbrev pub full : List ℕ → List ℕ → List ℕ → List ℕ
full name kind number = name ++ 46 ∷ (kind ++ 46 ∷ number)

abbrev pub full_parts : Read → Read → List ℕ → List ℕ → List ℕ → Parts
full_parts device directory name kind number =
    record {
      device = device.part;
      directory = directory.part;
      name = Some (span directory.next (length name));
      kind = Some (span (directory.next + length name + 1) (length kind));
      generation = Some (span (directory.next + length name + 1 + length kind + 1) (length number));
    }

abbrev pub full_spec : Read → Read → List ℕ → List ℕ → Gen → Spec
full_spec device directory name kind generation =
    record {
      device = device.part;
      directory = directory.part;
      name = Some (span directory.next (length name));
      kind = Some (span (directory.next + length name + 1) (length kind));
      generation = generation;
    }

pattern_byte : (byte : ℕ) → is_name byte ≡ true → is_pattern byte ≡ true
pattern_byte byte is = rw is refl

-- how it is read after a directory
pub parts_full : (whole : List ℕ) (device directory : Read) (name kind number : List ℕ) → device_read whole ≡ device
    → directory_read whole device.next ≡ Some directory → directory.next ≤ length whole
    → drop directory.next whole ≡ full name kind number → Full name kind number
    → parts_of whole ≡ Some (full_parts device directory name kind number)
parts_full whole device directory name kind number device_is directory_is within is f =
    let at = directory.next in
    let cons = append_cons_first name 46 (kind ++ 46 ∷ number) in
    let some : (length whole == 0) ≡ false = drop_of_some whole at cons.0 cons.1 (is ∙ cons.2) in
    let names = all_weaker is_name is_pattern pattern_byte name f.names in
    let kinds = all_weaker is_name is_pattern pattern_byte kind f.kinds in
    let name_is = name_at whole at name (46 ∷ (kind ++ 46 ∷ number)) is names (stops_at_point (kind ++ 46 ∷ number)) f.some in
    let first : drop (at + length name) whole ≡ 46 ∷ (kind ++ 46 ∷ number) = drop_part whole at name (46 ∷ (kind ++ 46 ∷ number)) is in
    let kind_is = pointed_at whole (at + length name) kind (46 ∷ number) first kinds (stops_at_point number) in
    let inner : drop (at + length name + 1) whole ≡ kind ++ 46 ∷ number = drop_next whole (at + length name) 46 (kind ++ 46 ∷ number) first in
    let second : drop (at + length name + 1 + length kind) whole ≡ 46 ∷ number = drop_part whole (at + length name + 1) kind (46 ∷ number) inner in
    let all : drop (at + length name + 1 + length kind) whole ≡ 46 ∷ (number ++ []) = second ∙ ap (λ (text : List ℕ). 46 ∷ text) (sym (none number)) in
    let number_is = pointed_at whole (at + length name + 1 + length kind) number [] all f.numbers refl in
    let end : (at + length name + 1 + length kind + 1 + length number == length whole) ≡ true =
    (let rest_size = length-drop at whole in
    let full_size : length (drop at whole) ≡ length name + (1 + (length kind + (1 + length number))) =
    ap length is ∙ length-append name (46 ∷ (kind ++ 46 ∷ number)) ∙ ap (λ (n : ℕ). length name + n) (sizes kind number) in
    grind (arith, nat_tests)) in
    rw (some, device_is, directory_is, name_is, kind_is, number_is, end) refl
  where
    none : (text : List ℕ) → text ++ [] ≡ text
    none [] = refl
    none (byte ∷ text) = ap (λ (text : List ℕ). byte ∷ text) (none text)

    sizes : (kind number : List ℕ) → length (46 ∷ (kind ++ 46 ∷ number)) ≡ 1 + (length kind + (1 + length number))
    sizes kind number = let both = length-append kind (46 ∷ number) in omega arith

pub read_full : (whole : List ℕ) (device directory : Read) (name kind number : List ℕ) (generation : Gen)
    → device_read whole ≡ device → directory_read whole device.next ≡ Some directory → directory.next ≤ length whole
    → is_long device.part ≡ false → is_long directory.part ≡ false → drop directory.next whole ≡ full name kind number
    → Full name kind number → generation_of number ≡ Some generation
    → read_spec whole ≡ Ok (full_spec device directory name kind generation)
read_full whole device directory name kind number generation device_is directory_is within device_short directory_short is f means =
    let at = directory.next in
    let parts_are = parts_full whole device directory name kind number device_is directory_is within is f in
    let name_short = not_long at (length name) f.name_short in
    let kind_short = not_long (at + length name + 1) (length kind) f.kind_short in
    let first : drop (at + length name) whole ≡ 46 ∷ (kind ++ 46 ∷ number) = drop_part whole at name (46 ∷ (kind ++ 46 ∷ number)) is in
    let inner : drop (at + length name + 1) whole ≡ kind ++ 46 ∷ number = drop_next whole (at + length name) 46 (kind ++ 46 ∷ number) first in
    let second : drop (at + length name + 1 + length kind) whole ≡ 46 ∷ number = drop_part whole (at + length name + 1) kind (46 ∷ number) inner in
    let last : drop (at + length name + 1 + length kind + 1) whole ≡ number ++ [] =
    drop_next whole (at + length name + 1 + length kind) 46 number second ∙ sym (none number) in
    let bytes : part whole (span (at + length name + 1 + length kind + 1) (length number)) ≡ number =
    part_bytes whole (at + length name + 1 + length kind + 1) number [] last in
    rw (parts_are, device_short, directory_short, name_short, kind_short, bytes, means) refl
  where
    none : (text : List ℕ) → text ++ [] ≡ text
    none [] = refl
    none (byte ∷ text) = ap (λ (text : List ℕ). byte ∷ text) (none text)

-- after a directory with which the text ends nothing is read
abbrev after_by : Option Span → Option Span → Read → Read → Read → ℕ → Option Parts
after_by device directory name kind generation size =
    if generation.next == size
    then Some (record { device = device; directory = directory; name = name.part; kind = kind.part; generation = generation.part })
    else None

abbrev no_file : Option Span → Option Span → Parts
no_file device directory = record { device = device; directory = directory; name = None; kind = None; generation = None }

nothing_after : (whole : List ℕ) (device directory : Option Span) (next : ℕ) → pointed_read whole next ≡ nothing_read next
    → (next == length whole) ≡ true → parts_after whole device directory (nothing_read next) ≡ Some (no_file device directory)
nothing_after whole device directory next pointed ends =
    ap (λ (kind : Read). after_by device directory (nothing_read next) kind (pointed_read whole kind.next) (length whole)) pointed
    ∙ ap (λ (generation : Read). after_by device directory (nothing_read next) (nothing_read next) generation (length whole)) pointed
    ∙ ap (λ (test : Bool). if test then Some (no_file device directory) else None) ends

-- how a directory reads that is closed
abbrev pub closed_spec : Read → List ℕ → Spec
closed_spec device body =
    record {
      device = device.part;
      directory = Some (span (device.next + 1) (length body));
      name = None;
      kind = None;
      generation = generations.Missing;
    }

pub closed_reads : (whole : List ℕ) (device : Read) (body : List ℕ) → device_read whole ≡ device
    → drop device.next whole ≡ 60 ∷ (body ++ 62 ∷ []) → list_all is_path body ≡ true → are_parts body ≡ true
    → is_long device.part ≡ false → length body ≤ NAME_LIMIT → read_spec whole ≡ Ok (closed_spec device body)
unfolding generation_of
closed_reads whole device body device_is text all parts device_fits body_fits =
    let at = device.next in
    let next = at + length body + 2 in
    let directory_is = directory_whole whole at body text all parts in
    let within = drop_within at whole 60 (body ++ 62 ∷ []) text in
    let size = length-drop at whole in
    let size_is : length (drop at whole) ≡ 1 + (length body + 1) = ap length text ∙ (let both = length-append body (62 ∷ []) in omega arith) in
    let end : next ≡ length whole = omega arith in
    let nothing : drop next whole ≡ [] = drop_all next whole (omega arith) in
    let name_is = name_nowhere whole next nothing end in
    let pointed_is = pointed_nowhere whole next nothing in
    let some : (length whole == 0) ≡ false = grind (arith, nat_tests) in
    let ends : (next == length whole) ≡ true = grind (arith, nat_tests) in
    let fits : is_long (Some (span (at + 1) (length body))) ≡ false = grind (arith, nat_tests) in
    let after = nothing_after whole device.part (Some (span (at + 1) (length body))) next pointed_is ends in
    let parts_are : parts_of whole ≡ Some (no_file device.part (Some (span (at + 1) (length body)))) =
    rw (some, device_is, directory_is, name_is) after in
    rw (parts_are, device_fits, fits) refl
