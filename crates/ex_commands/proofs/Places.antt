-- The parts of a specification, and the same parts of the text that it is in.
use Rattle.std.proofs.Common.{◌≡◌, ℕ, ◌+◌, ◌-◌, ◌<◌, ◌≤◌, ◌&&◌, ◌==◌, Bool, true, false, nat_lt, if◌then◌else◌, List, [], ◌∷◌, length, take, drop, Option, Some, None, option_map, option_and_then, slice_get, unwrap_or, Ok, refl, ap, sym, subst, ◌∙◌, arith, length-drop, length-append}
use Rattle.std.specs.List.{list_all, prefix_len}
use Rattle.std.proofs.lemmas.Bool.Decides.{nat_tests}
use Rattle.std.proofs.lemmas.List.{drop-drop, drop-take, length-take, take-take}
use Rattle.std.proofs.lemmas.List.Sums.{prefix_len-le-length}
use Rattle.cm_lists.proofs.Prefixes.{all_of_prefix}
use Rattle.cm_text.specs.Text.{finished}
use Rattle.cm_fields.specs.declared.value.Span.{Span}
use Rattle.cm_fields.specs.declared.value.Spec.{Spec}
use Rattle.cm_fields.specs.Try.{span}
use Rattle.cm_files.specs.Fields.{moved}
use Rattle.cm_files.specs.Spec.{are_parts, directory_read, is_path, is_pattern, name_read, nothing_read, part, part_read, pointed_read, read_spec, stands_at}
use Rattle.cm_files.proofs.Fronts.{part_more, stands_within}
use Rattle.cm_files.proofs.TypedFiles.{read_of}
use Rattle.cm_blocks.specs.Setting.{Setting}
use Rattle.cm_blocks.specs.FieldView.{FieldView}
use Rattle.ex_commands.specs.Line.{said_of}
use Rattle.cm_blocks.proofs.Fields.{IsTried, StandsIn}

-- a run from a place on, as a part
pub record IsRunPart (p : ℕ → Bool) (atom : List ℕ) (place : Span) : Type 0 where
  pub order : place.start ≤ place.end
  pub within : place.end ≤ length atom
  pub all : list_all p (part atom place) ≡ true
  pub size : length (part atom place) ≡ place.end - place.start

run_part : (p : ℕ → Bool) (atom : List ℕ) (at : ℕ) → at + prefix_len p (drop at atom) ≤ length atom
    → IsRunPart p atom (span at (prefix_len p (drop at atom)))
run_part p atom at within =
    let size : at + prefix_len p (drop at atom) - at ≡ prefix_len p (drop at atom) = omega arith in
    let rest = length-drop at atom in
    let taken = length-take (prefix_len p (drop at atom)) (drop at atom) in
    record {
      order = omega arith;
      within = within;
      all = subst (λ (n : ℕ). list_all p (take n (drop at atom)) ≡ true) (sym size) (all_of_prefix p (drop at atom));
      size = ap (λ (n : ℕ). length (take n (drop at atom))) size ∙ (let e : length (take (prefix_len p (drop at atom)) (drop at atom)) ≡ prefix_len p (drop at atom) = omega arith in e) ∙ sym size;
    }

-- the name of a file
name_run : (atom : List ℕ) (at : ℕ) (place : Span)
    → option_map (λ read. read.part) (name_read atom at) ≡ Some (Some place)
    → IsRunPart is_pattern atom place × (0 < length (part atom place))
name_run atom at place is = by (nat_lt 0 (prefix_len is_pattern (drop at atom))) refl (at == length atom) is
  where
    size : ℕ
    size = prefix_len is_pattern (drop at atom)

    by : (some : Bool) → nat_lt 0 (prefix_len is_pattern (drop at atom)) ≡ some → (ends : Bool)
        → option_map (λ read. read.part) (if some then Some (part_read at (prefix_len is_pattern (drop at atom)) (at + prefix_len is_pattern (drop at atom)))
        else (if ends then Some (nothing_read at) else None)) ≡ Some (Some place)
        → IsRunPart is_pattern atom place × (0 < length (part atom place))
    by true some ends is =
        let same : span at (prefix_len is_pattern (drop at atom)) ≡ place = cc in
        let more : 0 < prefix_len is_pattern (drop at atom) = grind (arith, nat_tests) in
        let most = prefix_len-le-length is_pattern (drop at atom) in
        let rest = length-drop at atom in
        let run = run_part is_pattern atom at (omega arith) in
        let long = run.size in
        subst (λ (it : Span). IsRunPart is_pattern atom it × (0 < length (part atom it))) same (run, omega arith)
    by false some true is = cc
    by false some false is = cc

-- its type
kind_run : (atom : List ℕ) (at : ℕ) (place : Span) → (pointed_read atom at).part ≡ Some place → IsRunPart is_pattern atom place
kind_run atom at place is = by (stands_at atom at 46) refl is
  where
    by : (stands : Bool) → stands_at atom at 46 ≡ stands
        → (if stands then part_read (at + 1) (prefix_len is_pattern (drop (at + 1) atom)) (at + 1 + prefix_len is_pattern (drop (at + 1) atom)) else nothing_read at).part ≡ Some place
        → IsRunPart is_pattern atom place
    by true stands is =
        let same : span (at + 1) (prefix_len is_pattern (drop (at + 1) atom)) ≡ place = cc in
        let inside = stands_within atom at 46 stands in
        let most = prefix_len-le-length is_pattern (drop (at + 1) atom) in
        let rest = length-drop (at + 1) atom in
        subst (IsRunPart is_pattern atom) same (run_part is_pattern atom (at + 1) (omega arith))
    by false stands is = cc

-- a directory between angle brackets
directory_run : (atom : List ℕ) (at : ℕ) (place : Span)
    → option_map (λ read. read.part) (directory_read atom at) ≡ Some (Some place)
    → IsRunPart is_path atom place × (are_parts (part atom place) ≡ true)
directory_run atom at place is =
    by (stands_at atom at 60) (stands_at atom (at + 1 + prefix_len is_path (drop (at + 1) atom)) 62) refl
    (are_parts (take (prefix_len is_path (drop (at + 1) atom)) (drop (at + 1) atom))) refl is
  where
    by : (opens closes : Bool) → stands_at atom (at + 1 + prefix_len is_path (drop (at + 1) atom)) 62 ≡ closes
        → (parts : Bool) → are_parts (take (prefix_len is_path (drop (at + 1) atom)) (drop (at + 1) atom)) ≡ parts
        → option_map (λ read. read.part) (if opens
        then (if closes && parts then Some (part_read (at + 1) (prefix_len is_path (drop (at + 1) atom)) (at + prefix_len is_path (drop (at + 1) atom) + 2)) else None)
        else Some (nothing_read at)) ≡ Some (Some place)
        → IsRunPart is_path atom place × (are_parts (part atom place) ≡ true)
    by true true closes true parts is =
        let same : span (at + 1) (prefix_len is_path (drop (at + 1) atom)) ≡ place = cc in
        let inside = stands_within atom (at + 1 + prefix_len is_path (drop (at + 1) atom)) 62 closes in
        let run = run_part is_path atom (at + 1) (omega arith) in
        let size : at + 1 + prefix_len is_path (drop (at + 1) atom) - (at + 1) ≡ prefix_len is_path (drop (at + 1) atom) = omega arith in
        let there : are_parts (part atom (span (at + 1) (prefix_len is_path (drop (at + 1) atom)))) ≡ true =
        ap (λ (n : ℕ). are_parts (take n (drop (at + 1) atom))) size ∙ parts in
        subst (λ (it : Span). IsRunPart is_path atom it × (are_parts (part atom it) ≡ true)) same (run, there)
    by true true closes false parts is = cc
    by true false closes parts are is = cc
    by false closes test parts are is = cc

-- the parts of a specification that is read
pub spec_name : (atom : List ℕ) (spec : Spec) (place : Span) → read_spec atom ≡ Ok spec → spec.name ≡ Some place
    → IsRunPart is_pattern atom place × (0 < length (part atom place))
spec_name atom spec place read is =
    let r = read_of atom spec read in
    name_run atom r.directory.next place (ap (option_map (λ read. read.part)) r.name_is ∙ ap (λ (it : Option Span). Some it) (sym r.spec_name ∙ is))

pub spec_kind : (atom : List ℕ) (spec : Spec) (place : Span) → read_spec atom ≡ Ok spec → spec.kind ≡ Some place
    → IsRunPart is_pattern atom place
spec_kind atom spec place read is =
    let r = read_of atom spec read in kind_run atom r.name.next place (sym r.spec_kind ∙ is)

pub spec_directory : (atom : List ℕ) (spec : Spec) (place : Span) → read_spec atom ≡ Ok spec → spec.directory ≡ Some place
    → IsRunPart is_path atom place × (are_parts (part atom place) ≡ true)
spec_directory atom spec place read is =
    let r = read_of atom spec read in
    directory_run atom _ place (ap (option_map (λ read. read.part)) r.directory_is ∙ ap (λ (it : Option Span). Some it) (sym r.spec_directory ∙ is))

-- a part of a part of a text
moved_part : (whole : List ℕ) (at size : ℕ) (place : Span) → place.start ≤ place.end → place.end ≤ size
    → part whole (moved at place) ≡ part (take size (drop at whole)) place
moved_part whole at size place order within =
    let long : at + place.end - (at + place.start) ≡ place.end - place.start = omega arith in
    let all : place.start + (size - place.start) ≡ size = omega arith in
    let inner : drop place.start (take size (drop at whole)) ≡ take (size - place.start) (drop (at + place.start) whole) =
    ap (λ (n : ℕ). drop place.start (take n (drop at whole))) (sym all)
    ∙ drop-take place.start (size - place.start) (drop at whole)
    ∙ ap (take (size - place.start)) (drop-drop place.start at whole) in
    ap (λ (n : ℕ). take n (drop (at + place.start) whole)) long
    ∙ sym (ap (take (place.end - place.start)) inner
    ∙ take-take (place.end - place.start) (size - place.start) (drop (at + place.start) whole) (omega arith))

-- a part of a field, as it is read and as it is said
pub said_part : (s : Setting) (text : List ℕ) (field : FieldView) (tried : IsTried s text field) (size : ℕ) (place : Span)
    → place.start ≤ place.end → place.end ≤ size → size < length (drop tried.at tried.said)
    → part (said_of s.graph text field) (moved tried.at place) ≡ part (take size (drop tried.at tried.said)) place
said_part s text field tried size place order within inside = by field.defaulted tried.stands
  where
    default : option_and_then (λ node. node.default) (slice_get s.graph.nodes field.node) ≡ tried.node.default
    default = ap (option_and_then (λ node. node.default)) tried.node_is

    cut : (word : List ℕ) → tried.said ≡ finished word → part word (moved tried.at place) ≡ part tried.said (moved tried.at place)
    cut word is =
        let rest = length-drop tried.at tried.said in
        let whole : length tried.said ≡ length word + 1 = ap length is ∙ (let both = length-append word (13 ∷ []) in omega arith) in
        sym (ap (λ (it : List ℕ). part it (moved tried.at place)) is ∙ part_more word (13 ∷ []) (moved tried.at place) (omega arith) (omega arith))

    by : (test : Bool) → StandsIn test tried.node.default text field tried.said tried.at tried.end
        → part (if test then unwrap_or (option_and_then (λ node. node.default) (slice_get s.graph.nodes field.node)) [] else text) (moved tried.at place)
        ≡ part (take size (drop tried.at tried.said)) place
    by false stands =
        ap (λ (it : List ℕ). part it (moved tried.at place)) (sym stands.0) ∙ moved_part tried.said tried.at size place order within
    by true stands =
        ap (λ (it : Option (List ℕ)). part (unwrap_or it []) (moved tried.at place)) (default ∙ stands.1)
        ∙ cut stands.0 stands.2 ∙ moved_part tried.said tried.at size place order within
