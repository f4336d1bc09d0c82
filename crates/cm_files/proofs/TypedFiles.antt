-- What is typed of a file, cut at its points.
use Rattle.std.proofs.Common.{◌≡◌, ℕ, zero, suc, ◌+◌, ◌-◌, ◌≤◌, Bool, true, false, ◌||◌, ◌==◌, nat_lt, if◌then◌else◌, List, [], ◌∷◌, ◌++◌, length, take, drop, Option, Some, None, option_and_then, Ok, Err, refl, ap, sym, subst, arith, ◌∙◌, length-drop}
use Rattle.std.specs.List.{prefix_len}
use Rattle.std.proofs.lemmas.Bool.{or_parts}
use Rattle.std.proofs.lemmas.Bool.Decides.{nat_tests}
use Rattle.std.proofs.lemmas.List.{drop-drop, drop_all, take-append-drop}
use Rattle.std.proofs.lemmas.List.Sums.{prefix_len-le-length}
use Rattle.cm_fields.specs.declared.value.Gen.{Gen}
use Rattle.cm_fields.specs.declared.value.Span.{Span}
use Rattle.cm_fields.specs.declared.value.Spec.{Spec}
use Rattle.cm_fields.specs.Try.{span}
use Rattle.cm_files.specs.declared.parts.Parts.{Parts}
use Rattle.cm_files.specs.declared.parts.Read.{Read}
use Rattle.cm_files.specs.declared.spec.SpecFault.TheVariants.{NameLong}
use Rattle.cm_files.specs.Spec.{by_parts, device_read, directory_read, generation_of, is_long, is_pattern, name_read, nothing_read, part, part_or_nothing, part_read, parts_after, parts_of, pointed_read, read_spec, stands_at, with_generation}
use Rattle.cm_files.proofs.Fronts.{stands_within}

-- how a specification was read
pub record ReadAs (atom : List ℕ) (spec : Spec) : Type 0 where
  pub directory : Read
  pub name : Read
  pub directory_is : directory_read atom (device_read atom).next ≡ Some directory
  pub name_is : name_read atom directory.next ≡ Some name
  pub ends : (pointed_read atom (pointed_read atom name.next).next).next ≡ length atom
  pub device_short : is_long (device_read atom).part ≡ false
  pub directory_short : is_long directory.part ≡ false
  pub spec_device : spec.device ≡ (device_read atom).part
  pub spec_directory : spec.directory ≡ directory.part
  pub spec_name : spec.name ≡ name.part
  pub spec_kind : spec.kind ≡ (pointed_read atom name.next).part

-- the parts come from what is after device, directory and name
record PartsAs (atom : List ℕ) (parts : Parts) : Type 0 where
  directory : Read
  name : Read
  directory_is : directory_read atom (device_read atom).next ≡ Some directory
  name_is : name_read atom directory.next ≡ Some name
  ends : (pointed_read atom (pointed_read atom name.next).next).next ≡ length atom
  device_part : parts.device ≡ (device_read atom).part
  directory_part : parts.directory ≡ directory.part
  name_part : parts.name ≡ name.part
  kind_part : parts.kind ≡ (pointed_read atom name.next).part

parts_as : (atom : List ℕ) (parts : Parts) → parts_of atom ≡ Some parts → PartsAs atom parts
parts_as atom parts is = by_empty (length atom == 0) is
  where
    after : (directory name : Read) → directory_read atom (device_read atom).next ≡ Some directory → name_read atom directory.next ≡ Some name
        → (ends : Bool) → ((pointed_read atom (pointed_read atom name.next).next).next == length atom) ≡ ends
        → (if ends then Some (record {
          device = (device_read atom).part;
          directory = directory.part;
          name = name.part;
          kind = (pointed_read atom name.next).part;
          generation = (pointed_read atom (pointed_read atom name.next).next).part;
        }) else None) ≡ Some parts → PartsAs atom parts
    after directory name directory_is name_is true ends is =
        let same : ◌≡◌ {A = Parts} (record {
          device = (device_read atom).part;
          directory = directory.part;
          name = name.part;
          kind = (pointed_read atom name.next).part;
          generation = (pointed_read atom (pointed_read atom name.next).next).part;
        }) parts = cc in
        record {
          directory = directory;
          name = name;
          directory_is = directory_is;
          name_is = name_is;
          ends = grind (arith, nat_tests);
          device_part = sym (ap (λ (parts : Parts). parts.device) same);
          directory_part = sym (ap (λ (parts : Parts). parts.directory) same);
          name_part = sym (ap (λ (parts : Parts). parts.name) same);
          kind_part = sym (ap (λ (parts : Parts). parts.kind) same);
        }
    after directory name directory_is name_is false ends is = cc

    by_name : (directory : Read) → directory_read atom (device_read atom).next ≡ Some directory → (name : Option Read)
        → name_read atom directory.next ≡ name
        → option_and_then (parts_after atom (device_read atom).part directory.part) name ≡ Some parts → PartsAs atom parts
    by_name directory directory_is None name_is is = cc
    by_name directory directory_is (Some name) name_is is =
        after directory name directory_is name_is ((pointed_read atom (pointed_read atom name.next).next).next == length atom) refl is

    by_directory : (directory : Option Read) → directory_read atom (device_read atom).next ≡ directory
        → option_and_then (λ (directory : Read). option_and_then (parts_after atom (device_read atom).part directory.part) (name_read atom directory.next)) directory ≡ Some parts
        → PartsAs atom parts
    by_directory None directory_is is = cc
    by_directory (Some directory) directory_is is = by_name directory directory_is (name_read atom directory.next) refl is

    by_empty : (empty : Bool) → (if empty then None else option_and_then (λ (directory : Read). option_and_then (parts_after atom (device_read atom).part directory.part) (name_read atom directory.next)) (directory_read atom (device_read atom).next)) ≡ Some parts
        → PartsAs atom parts
    by_empty true is = cc
    by_empty false is = by_directory (directory_read atom (device_read atom).next) refl is

-- parts that are not too long are those of the specification
record Kept (parts : Parts) (spec : Spec) : Type 0 where
  device_short : is_long parts.device ≡ false
  directory_short : is_long parts.directory ≡ false
  device : spec.device ≡ parts.device
  directory : spec.directory ≡ parts.directory
  name : spec.name ≡ parts.name
  kind : spec.kind ≡ parts.kind

kept : (atom : List ℕ) (parts : Parts) (spec : Spec) → by_parts atom (Some parts) ≡ Ok spec → Kept parts spec
kept atom parts spec is =
    by_long (is_long parts.device || is_long parts.directory || is_long parts.name || is_long parts.kind) refl is
  where
    by_generation : (generation : Option Gen) → is_long parts.device ≡ false → is_long parts.directory ≡ false
        → with_generation parts generation ≡ Ok spec → Kept parts spec
    by_generation None device directory is = cc
    by_generation (Some generation) device directory is =
        let same : ◌≡◌ {A = Spec} (record {
          device = parts.device;
          directory = parts.directory;
          name = parts.name;
          kind = parts.kind;
          generation = generation;
        }) spec = cc in
        record {
          device_short = device;
          directory_short = directory;
          device = sym (ap (λ (spec : Spec). spec.device) same);
          directory = sym (ap (λ (spec : Spec). spec.directory) same);
          name = sym (ap (λ (spec : Spec). spec.name) same);
          kind = sym (ap (λ (spec : Spec). spec.kind) same);
        }

    by_long : (long : Bool) → (is_long parts.device || is_long parts.directory || is_long parts.name || is_long parts.kind) ≡ long
        → (if long then Err NameLong else with_generation parts (generation_of (part_or_nothing atom parts.generation))) ≡ Ok spec
        → Kept parts spec
    by_long true long is = cc
    by_long false long is =
        let all = or_parts (is_long parts.device || is_long parts.directory || is_long parts.name) (is_long parts.kind) long in
        let three = or_parts (is_long parts.device || is_long parts.directory) (is_long parts.name) all.0 in
        let two = or_parts (is_long parts.device) (is_long parts.directory) three.0 in
        by_generation (generation_of (part_or_nothing atom parts.generation)) two.0 two.1 is

pub read_of : (atom : List ℕ) (spec : Spec) → read_spec atom ≡ Ok spec → ReadAs atom spec
read_of atom spec is = by (parts_of atom) refl is
  where
    by : (parts : Option Parts) → parts_of atom ≡ parts → by_parts atom parts ≡ Ok spec → ReadAs atom spec
    by None found is = cc
    by (Some parts) found is =
        let read = parts_as atom parts found in
        let of = kept atom parts spec is in
        record {
          directory = read.directory;
          name = read.name;
          directory_is = read.directory_is;
          name_is = read.name_is;
          ends = read.ends;
          device_short = ap is_long (sym read.device_part) ∙ of.device_short;
          directory_short = ap is_long (sym read.directory_part) ∙ of.directory_short;
          spec_device = of.device ∙ read.device_part;
          spec_directory = of.directory ∙ read.directory_part;
          spec_name = of.name ∙ read.name_part;
          spec_kind = of.kind ∙ read.kind_part;
        }

-- a part of the text, and what is after it
part_then : (atom : List ℕ) (start size : ℕ) → drop start atom ≡ part atom (span start size) ++ drop (start + size) atom
part_then atom start size =
    let same : start + size - start ≡ size = omega arith in
    sym (ap (λ (n : ℕ). take n (drop start atom) ++ drop (start + size) atom) same
    ∙ ap (λ (rest : List ℕ). take size (drop start atom) ++ rest) (sym (drop-drop size start atom))
    ∙ take-append-drop size (drop start atom))

-- a type or a generation is read after a point, or nothing is
pub record Pointed (atom : List ℕ) (at : ℕ) (place : Span) : Type 0 where
  pub cut : drop at atom ≡ 46 ∷ (part atom place ++ drop place.end atom)
  pub next : (pointed_read atom at).next ≡ place.end
  pub within : place.end ≤ length atom

first_of : (atom : List ℕ) (at mark : ℕ) → stands_at atom at mark ≡ true → drop at atom ≡ mark ∷ drop (suc at) atom
first_of [] at mark stands = cc
first_of (byte ∷ atom) zero mark stands =
    let same : byte ≡ mark = grind (arith, nat_tests) in ap (λ (byte : ℕ). byte ∷ atom) same
first_of (byte ∷ atom) (suc at) mark stands = first_of atom at mark stands

abbrev pointed_by : List ℕ → ℕ → Bool → Read
pointed_by atom at stands =
    if stands
    then (let size = prefix_len is_pattern (drop (at + 1) atom) in part_read (at + 1) size (at + 1 + size))
    else nothing_read at

pub pointed_of : (atom : List ℕ) (at : ℕ) (place : Span) → (pointed_read atom at).part ≡ Some place → Pointed atom at place
pointed_of atom at place is = by (stands_at atom at 46) refl is
  where
    by : (stands : Bool) → stands_at atom at 46 ≡ stands → (pointed_by atom at stands).part ≡ Some place → Pointed atom at place
    by false stands is = cc
    by true stands is =
        let size = prefix_len is_pattern (drop (at + 1) atom) in
        let same : span (at + 1) size ≡ place = cc in
        let within = stands_within atom at 46 stands in
        let most = prefix_len-le-length is_pattern (drop (at + 1) atom) in
        let rest = length-drop (at + 1) atom in
        let next : suc at ≡ at + 1 = omega arith in
        let cut : drop at atom ≡ 46 ∷ (part atom (span (at + 1) size) ++ drop (at + 1 + size) atom) =
        first_of atom at 46 stands ∙ ap (λ (n : ℕ). 46 ∷ drop n atom) next ∙ ap (λ (text : List ℕ). 46 ∷ text) (part_then atom (at + 1) size) in
        let read : (pointed_read atom at).next ≡ at + 1 + size = ap (λ (stands : Bool). (pointed_by atom at stands).next) stands in
        let short : at + 1 + size ≤ length atom = omega arith in
        let whole : Pointed atom at (span (at + 1) size) = record { cut = cut; next = read; within = short } in
        subst (Pointed atom at) same whole

pub pointed_none : (atom : List ℕ) (at : ℕ) → (pointed_read atom at).part ≡ None → (pointed_read atom at ≡ nothing_read at) × (stands_at atom at 46 ≡ false)
pointed_none atom at is = by (stands_at atom at 46) refl is
  where
    by : (stands : Bool) → stands_at atom at 46 ≡ stands → (pointed_by atom at stands).part ≡ None
        → (pointed_read atom at ≡ nothing_read at) × (stands_at atom at 46 ≡ false)
    by true stands is = cc
    by false stands is = (ap (pointed_by atom at) stands, stands)

-- a name is read, or the text ends
pub record NameOf (atom : List ℕ) (at : ℕ) (name : Read) : Type 0 where
  pub cut : drop at atom ≡ part_or_nothing atom name.part ++ drop name.next atom
  pub within : name.next ≤ length atom
  pub from : at ≤ length atom

abbrev name_by : List ℕ → ℕ → Bool → Bool → Option Read
name_by atom at some ends =
    let size = prefix_len is_pattern (drop at atom) in
    if some then Some (part_read at size (at + size)) else (if ends then Some (nothing_read at) else None)

pub name_of : (atom : List ℕ) (at : ℕ) (name : Read) → name_read atom at ≡ Some name → NameOf atom at name
name_of atom at name is =
    by (nat_lt 0 (prefix_len is_pattern (drop at atom))) refl (at == length atom) refl is
  where
    by : (some : Bool) → nat_lt 0 (prefix_len is_pattern (drop at atom)) ≡ some → (ends : Bool) → (at == length atom) ≡ ends
        → name_by atom at some ends ≡ Some name → NameOf atom at name
    by true some ends at_end is =
        let size = prefix_len is_pattern (drop at atom) in
        let same : part_read at size (at + size) ≡ name = cc in
        let most = prefix_len-le-length is_pattern (drop at atom) in
        let rest = length-drop at atom in
        let inside : at + size ≤ length atom = grind (arith, nat_tests) in
        let whole : NameOf atom at (part_read at size (at + size)) = record { cut = part_then atom at size; within = inside; from = omega arith } in
        subst (NameOf atom at) same whole
    by false some true at_end is =
        let same : nothing_read at ≡ name = cc in
        let end : at ≡ length atom = grind (arith, nat_tests) in
        let whole : NameOf atom at (nothing_read at) = record { cut = refl; within = omega arith; from = omega arith } in
        subst (NameOf atom at) same whole
    by false some false at_end is = cc

-- what is typed after the directory, by the type that is read
pub cut_name : (atom : List ℕ) (spec : Spec) (r : ReadAs atom spec) → spec.kind ≡ None
    → drop r.directory.next atom ≡ part_or_nothing atom spec.name
cut_name atom spec r none =
    let named = name_of atom r.directory.next r.name r.name_is in
    let first = pointed_none atom r.name.next (sym r.spec_kind ∙ none) in
    let again : (pointed_read atom (pointed_read atom r.name.next).next).next ≡ r.name.next =
    ap (λ (read : Read). (pointed_read atom read.next).next) first.0 ∙ ap (λ (read : Read). read.next) first.0 in
    let end : r.name.next ≡ length atom = sym again ∙ r.ends in
    let nothing : drop r.name.next atom ≡ [] = drop_all r.name.next atom (omega arith) in
    named.cut ∙ ap (λ (rest : List ℕ). part_or_nothing atom r.name.part ++ rest) nothing
    ∙ all (part_or_nothing atom r.name.part) ∙ ap (part_or_nothing atom) (sym r.spec_name)
  where
    all : (text : List ℕ) → text ++ [] ≡ text
    all [] = refl
    all (byte ∷ text) = ap (λ (text : List ℕ). byte ∷ text) (all text)

pub cut_kind : (atom : List ℕ) (spec : Spec) (r : ReadAs atom spec) (place : Span) → spec.kind ≡ Some place
    → drop r.directory.next atom ≡ part_or_nothing atom spec.name ++ 46 ∷ (part atom place ++ drop place.end atom)
cut_kind atom spec r place some =
    let named = name_of atom r.directory.next r.name r.name_is in
    let pointed = pointed_of atom r.name.next place (sym r.spec_kind ∙ some) in
    named.cut ∙ ap (λ (rest : List ℕ). part_or_nothing atom r.name.part ++ rest) pointed.cut
    ∙ ap (λ (name : Option Span). part_or_nothing atom name ++ 46 ∷ (part atom place ++ drop place.end atom)) (sym r.spec_name)

-- after the type a point is where one byte is left
pub cut_point : (atom : List ℕ) (spec : Spec) (r : ReadAs atom spec) (place : Span) → spec.kind ≡ Some place
    → place.end + 1 ≡ length atom → drop place.end atom ≡ 46 ∷ []
cut_point atom spec r place some end = by (stands_at atom place.end 46) refl
  where
    next : (pointed_read atom r.name.next).next ≡ place.end
    next = (pointed_of atom r.name.next place (sym r.spec_kind ∙ some)).next

    by : (stands : Bool) → stands_at atom place.end 46 ≡ stands → drop place.end atom ≡ 46 ∷ []
    by true stands =
        first_of atom place.end 46 stands ∙ ap (λ (rest : List ℕ). 46 ∷ rest) (drop_all (suc place.end) atom (omega arith))
    by false stands =
        let last : (pointed_read atom place.end).next ≡ place.end = ap (λ (stands : Bool). (pointed_by atom place.end stands).next) stands in
        let all : place.end ≡ length atom = sym (ap (λ (n : ℕ). (pointed_read atom n).next) next ∙ last) ∙ r.ends in
        absurd (omega arith)
