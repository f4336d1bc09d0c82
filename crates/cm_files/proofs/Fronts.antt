-- What is read of the front of a text stays as it goes on.
use Rattle.std.proofs.Common.{◌≡◌, ℕ, zero, suc, ◌+◌, ◌-◌, ◌<◌, ◌≤◌, Bool, true, false, ◌&&◌, nat_lt, if◌then◌else◌, List, [], ◌∷◌, ◌++◌, length, take, drop, Option, Some, None, refl, ap, sym, subst, arith, ◌∙◌, length-drop}
use Rattle.std.specs.List.{list_any, prefix_len}
use Rattle.std.proofs.lemmas.List.{drop-append-le, take-append-le}
use Rattle.std.proofs.lemmas.List.Sums.{prefix_len-le-length}
use Rattle.cm_text.specs.Bytes.{is_name}
use Rattle.cm_fields.specs.declared.value.Span.{Span}
use Rattle.cm_fields.specs.Try.{span}
use Rattle.cm_files.specs.declared.parts.Read.{Read}
use Rattle.cm_files.specs.Catalogue.{Catalogue}
use Rattle.cm_files.specs.Pattern.{is_wild}
use Rattle.cm_files.specs.Resolve.{by_device, by_directory, has_wild}
use Rattle.cm_files.specs.Spec.{are_parts, device_read, directory_read, is_path, nothing_read, part, part_read, stands_at}

-- a part of the front of a text
pub part_more : (atom more : List ℕ) (place : Span) → place.start ≤ place.end → place.end ≤ length atom
    → part (atom ++ more) place ≡ part atom place
part_more atom more place order within =
    let size = length-drop place.start atom in
    ap (take (place.end - place.start)) (drop-append-le place.start atom more (omega arith))
    ∙ take-append-le (place.end - place.start) (drop place.start atom) more (omega arith)

-- where the device stands
pub record DeviceAt (atom : List ℕ) (place : Span) : Type 0 where
  pub is : place ≡ span 0 (prefix_len is_name atom)
  pub within : prefix_len is_name atom ≤ length atom

pub device_at : (atom : List ℕ) (place : Span) → (device_read atom).part ≡ Some place → DeviceAt atom place
device_at atom place is = by (nat_lt 0 (prefix_len is_name atom) && stands_at atom (prefix_len is_name atom) 58) is
  where
    by : (test : Bool) → (if test then part_read 0 (prefix_len is_name atom) (prefix_len is_name atom + 1) else nothing_read 0).part ≡ Some place
        → DeviceAt atom place
    by true is =
        let same : span 0 (prefix_len is_name atom) ≡ place = cc in
        record { is = sym same; within = prefix_len-le-length is_name atom }
    by false is = cc

pub by_device_more : (c : Catalogue) (atom more : List ℕ)
    → by_device c (atom ++ more) (device_read atom).part ≡ by_device c atom (device_read atom).part
by_device_more c atom more = by (device_read atom).part refl
  where
    by : (place : Option Span) → (device_read atom).part ≡ place → by_device c (atom ++ more) place ≡ by_device c atom place
    by None is = refl
    by (Some place) is =
        let of = device_at atom place is in
        let order : place.start ≤ place.end = subst (λ (place : Span). place.start ≤ place.end) (sym of.is) (omega arith) in
        let within : place.end ≤ length atom = subst (λ (place : Span). place.end ≤ length atom) (sym of.is) (let most = of.within in omega arith) in
        rw (part_more atom more place order within) refl

-- where a directory stands
record Within (atom : List ℕ) (place : Span) : Type 0 where
  order : place.start ≤ place.end
  end : place.end ≤ length atom

pub stands_within : (atom : List ℕ) (at mark : ℕ) → stands_at atom at mark ≡ true → at < length atom
stands_within [] at mark stands = cc
stands_within (byte ∷ atom) zero mark stands = omega arith
stands_within (byte ∷ atom) (suc at) mark stands = let rest = stands_within atom at mark stands in omega arith

directory_within : (atom : List ℕ) (at : ℕ) (read : Read) (place : Span) → directory_read atom at ≡ Some read → read.part ≡ Some place
    → Within atom place
directory_within atom at read place is given = by (stands_at atom at 60) is
  where
    size : ℕ
    size = prefix_len is_path (drop (at + 1) atom)

    closed : (ends : Bool) → stands_at atom (at + 1 + size) 62 ≡ ends
        → (if ends && are_parts (take size (drop (at + 1) atom)) then Some (part_read (at + 1) size (at + size + 2)) else None) ≡ Some read
        → Within atom place
    closed false ends is = cc
    closed true ends is = parts (are_parts (take size (drop (at + 1) atom))) is
      where
        parts : (named : Bool) → (if named then Some (part_read (at + 1) size (at + size + 2)) else None) ≡ Some read → Within atom place
        parts false is = cc
        parts true is =
            let same : part_read (at + 1) size (at + size + 2) ≡ read = cc in
            let places : ◌≡◌ {A = Option Span} (Some (span (at + 1) size)) (Some place) = ap (λ (read : Read). read.part) same ∙ given in
            let equal : span (at + 1) size ≡ place = cc in
            let last = stands_within atom (at + 1 + size) 62 ends in
            let whole : Within atom (span (at + 1) size) = record { order = omega arith; end = omega arith } in
            subst (Within atom) equal whole

    by : (opens : Bool) → (if opens then (if stands_at atom (at + 1 + size) 62 && are_parts (take size (drop (at + 1) atom)) then Some (part_read (at + 1) size (at + size + 2)) else None) else Some (nothing_read at)) ≡ Some read
        → Within atom place
    by true is = closed (stands_at atom (at + 1 + size) 62) refl is
    by false is =
        let same : nothing_read at ≡ read = cc in
        let places : ◌≡◌ {A = Option Span} None (Some place) = ap (λ (read : Read). read.part) same ∙ given in
        cc

-- what is said of the directory stays as it is
pub record Same (c : Catalogue) (atom more : List ℕ) (place : Option Span) : Type 0 where
  pub wild : has_wild (atom ++ more) place ≡ has_wild atom place
  pub named : (meant : ℕ) → by_directory c (atom ++ more) place meant ≡ by_directory c atom place meant

pub directory_same : (c : Catalogue) (atom more : List ℕ) (at : ℕ) (read : Read) → directory_read atom at ≡ Some read → Same c atom more read.part
directory_same c atom more at read is = by read.part refl
  where
    by : (place : Option Span) → read.part ≡ place → Same c atom more place
    by None given = record { wild = refl; named = λ meant. refl }
    by (Some place) given =
        let within = directory_within atom at read place is given in
        let bytes = part_more atom more place within.order within.end in
        record { wild = ap (list_any is_wild) bytes; named = λ meant. rw bytes refl }
