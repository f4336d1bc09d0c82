-- A name without wildcards selects at most one file, unless all generations are meant.
use Rattle.std.proofs.Common.{◌≡◌, ℕ, ◌<◌, ◌≤◌, ◌==◌, ◌||◌, ◌&&◌, nat_le, Bool, true, false, not, cond, List, [], ◌∷◌, length, slice_get, Option, Some, None, refl, ap, sym, ◌∙◌, arith}
use Rattle.std.specs.Char.{is_ascii_lowercase, to_ascii_lowercase, to_ascii_uppercase}
use Rattle.std.specs.List.{list_any}
use Rattle.std.specs.Option.{option_map_or}
use Rattle.std.proofs.lemmas.Bool.{and_from, and_parts, eqb-true, leb-true, or_parts}
use Rattle.std.proofs.lemmas.List.Elements.{filter_agree}
use Rattle.std.proofs.lemmas.Str.Ascii.{lowercase-uppercase}
use Rattle.cm_lists.proofs.Ascii.{same_from_lowercase, up, uppercase_is_no_mark}
use Rattle.cm_lists.proofs.Filters.{filter_at_most_one}
use Rattle.cm_lists.proofs.Quantifiers.{all_at, all_filter, all_kept_at}
use Rattle.cm_text.specs.Bytes.{is_name}
use Rattle.cm_fields.specs.declared.value.Gen.{Gen}
use Rattle.cm_fields.specs.declared.value.Gen.TheVariants.{Missing, Highest, Next, Lowest, All, Number}
use Rattle.cm_fields.specs.Phrase.{same_letter}
use Rattle.cm_files.specs.declared.row.FileRow.{FileRow}
use Rattle.cm_files.specs.Catalogue.{Catalogue, IsCatalogue, is_row, is_upper_name, rows_of}
use Rattle.cm_files.specs.Pattern.{is_wild, matches, one_and, some_end, stands_for}
use Rattle.cm_files.specs.Resolve.{is_all}
use Rattle.cm_files.specs.Selection.{Wanted, is_highest, is_lowest, is_same_file, is_seen, is_selected, name_matches, seen_with, selected, takes}
use Rattle.cm_files.proofs.RowOrder.{lower_generation, rows_ascend}
use Rattle.cm_files.proofs.Beside.{texts_same}

-- a byte of a pattern that is no wildcard stands for one byte of names

-- the outcome of a plain byte at the head of a pattern
plain_step : (mark : ℕ) (more name : List ℕ) → (mark == 42) ≡ false → matches (mark ∷ more) name ≡ one_and (matches more) mark name
plain_step mark more name other = ap (λ star. cond star (some_end (matches more) name) (one_and (matches more) mark name)) other

-- a pattern without wildcards
abbrev pub is_fixed : List ℕ → Bool
is_fixed pattern = not (list_any is_wild pattern)

-- its bytes
record IsFixed (mark : ℕ) (more : List ℕ) : Type 0 where
  star : (mark == 42) ≡ false
  any : (mark == 37) ≡ false
  rest : list_any is_wild more ≡ false

fixed_parts : (mark : ℕ) (more : List ℕ) → list_any is_wild (mark ∷ more) ≡ false → IsFixed mark more
fixed_parts mark more fixed =
    let both = or_parts (is_wild mark) (list_any is_wild more) fixed in
    let one = or_parts (mark == 42) (mark == 37) both.0 in
    record { star = one.0; any = one.1; rest = both.1 }

-- two names that it means are one
stands_once : (mark a b : ℕ) → (mark == 37) ≡ false → stands_for mark a ≡ true → stands_for mark b ≡ true
    → is_ascii_lowercase a ≡ false → is_ascii_lowercase b ≡ false → a ≡ b
stands_once mark a b other first second up_a up_b =
    let to_a : same_letter mark a ≡ true = ap (λ (any : Bool). any || same_letter mark a) (sym other) ∙ first in
    let to_b : same_letter mark b ≡ true = ap (λ (any : Bool). any || same_letter mark b) (sym other) ∙ second in
    same_from_lowercase a b (sym (eqb-true _ _ to_a) ∙ eqb-true _ _ to_b) up_a up_b

not_lower : (byte : ℕ) → (is_name byte && not (is_ascii_lowercase byte)) ≡ true → is_ascii_lowercase byte ≡ false
not_lower byte is = by (is_ascii_lowercase byte) (and_parts (is_name byte) (not (is_ascii_lowercase byte)) is).1
  where
    by : (low : Bool) → not low ≡ true → low ≡ false
    by true is = cc
    by false is = refl

pub one_name : (pattern a b : List ℕ) → list_any is_wild pattern ≡ false → matches pattern a ≡ true → matches pattern b ≡ true
    → is_upper_name a ≡ true → is_upper_name b ≡ true → a ≡ b
one_name [] [] [] fixed first second up_a up_b = refl
one_name [] [] (y ∷ b) fixed first second up_a up_b = cc
one_name [] (x ∷ a) b fixed first second up_a up_b = cc
one_name (mark ∷ more) a b fixed first second up_a up_b =
    let parts = fixed_parts mark more fixed in
    by a b parts (sym (plain_step mark more a parts.star) ∙ first) (sym (plain_step mark more b parts.star) ∙ second) up_a up_b
    (λ x y. one_name more x y parts.rest)
  where
    by : (a b : List ℕ) → IsFixed mark more → one_and (matches more) mark a ≡ true → one_and (matches more) mark b ≡ true
        → is_upper_name a ≡ true → is_upper_name b ≡ true
        → ((x y : List ℕ) → matches more x ≡ true → matches more y ≡ true → is_upper_name x ≡ true → is_upper_name y ≡ true → x ≡ y)
        → a ≡ b
    by [] b parts first second up_a up_b rest = cc
    by (x ∷ a) [] parts first second up_a up_b rest = cc
    by (x ∷ a) (y ∷ b) parts first second up_a up_b rest =
        let here = and_parts (stands_for mark x) (matches more a) first in
        let there = and_parts (stands_for mark y) (matches more b) second in
        let low = and_parts _ (is_upper_name a) up_a in
        let high = and_parts _ (is_upper_name b) up_b in
        let head : x ≡ y = stands_once mark x y parts.any here.0 there.0 (not_lower x low.0) (not_lower y high.0) in
        ap (λ (byte : ℕ). byte ∷ a) head ∙ ap (λ (tail : List ℕ). y ∷ tail) (rest a b here.1 there.1 low.1 high.1)

-- in capitals it means the same names
stands_upper : (mark byte : ℕ) → (mark == 37) ≡ false → stands_for (to_ascii_uppercase mark) byte ≡ stands_for mark byte
stands_upper mark byte other =
    rw (uppercase_is_no_mark mark 37 (omega arith) other, other)
    (ap (λ (low : ℕ). low == to_ascii_lowercase byte) (lowercase-uppercase mark))

pub up_matches : (pattern name : List ℕ) → list_any is_wild pattern ≡ false → matches (up pattern) name ≡ matches pattern name
up_matches [] name fixed = refl
up_matches (mark ∷ more) name fixed =
    let parts = fixed_parts mark more fixed in
    plain_step (to_ascii_uppercase mark) (up more) name (uppercase_is_no_mark mark 42 (omega arith) parts.star)
    ∙ by name parts (λ rest. up_matches more rest parts.rest)
    ∙ sym (plain_step mark more name parts.star)
  where
    by : (name : List ℕ) → IsFixed mark more → ((rest : List ℕ) → matches (up more) rest ≡ matches more rest)
        → one_and (matches (up more)) (to_ascii_uppercase mark) name ≡ one_and (matches more) mark name
    by [] parts later = refl
    by (byte ∷ rest) parts later =
        ap (λ (here : Bool). here && matches (up more) rest) (stands_upper mark byte parts.any)
        ∙ ap (λ (there : Bool). stands_for mark byte && there) (later rest)

-- the same rows are selected by what sees the same rows
pub selected_same : (w v : Wanted) → ((row : FileRow) → is_seen w row ≡ is_seen v row) → w.generation ≡ v.generation
    → w.all_generations ≡ v.all_generations → (rows : List FileRow) (row : FileRow) → is_selected w rows row ≡ is_selected v rows row
unfolding is_selected
selected_same w v seen generation all rows row =
    let others : seen_with w rows row ≡ seen_with v rows row =
    filter_agree (λ other. is_seen w other && is_same_file other row) (λ other. is_seen v other && is_same_file other row)
    (λ other. ap (λ (here : Bool). here && is_same_file other row) (seen other)) rows in
    ap (λ (here : Bool). here && takes w.generation w.all_generations (seen_with w rows row) row.generation) (seen row)
    ∙ ap (λ (g : Gen). is_seen v row && takes g w.all_generations (seen_with w rows row) row.generation) generation
    ∙ ap (λ (each : Bool). is_seen v row && takes v.generation each (seen_with w rows row) row.generation) all
    ∙ ap (λ (found : List FileRow). is_seen v row && takes v.generation v.all_generations found row.generation) others

-- of two files of one name and type that are selected, none has the higher generation
not_above : (w : Wanted) (rows : List FileRow) (i j : ℕ) (row other : FileRow) → w.all_generations ≡ false
    → is_all w.generation ≡ false → slice_get rows i ≡ Some row → slice_get rows j ≡ Some other
    → is_selected w rows row ≡ true → is_selected w rows other ≡ true → row.name ≡ other.name → row.kind ≡ other.kind
    → other.generation ≤ row.generation
unfolding is_selected
not_above w rows i j row other one plain is is_other first second name kind =
    let here = and_parts (is_seen w row) _ first in
    let there = and_parts (is_seen w other) _ second in
    by w.generation w.all_generations one plain here.1 there.1 (highest there.0) (lowest here.0)
  where
    highest : is_seen w other ≡ true → is_highest (seen_with w rows row) row.generation ≡ true → other.generation ≤ row.generation
    highest seen top =
        leb-true other.generation row.generation
        (all_kept_at (λ each. nat_le each.generation row.generation) (λ each. is_seen w each && is_same_file each row) rows j other top
        is_other (and_from (is_seen w other) (is_same_file other row) seen (texts_same other row (sym name) (sym kind))))

    lowest : is_seen w row ≡ true → is_lowest (seen_with w rows other) other.generation ≡ true → other.generation ≤ row.generation
    lowest seen bottom =
        leb-true other.generation row.generation
        (all_kept_at (λ each. nat_le other.generation each.generation) (λ each. is_seen w each && is_same_file each other) rows i row bottom
        is (and_from (is_seen w row) (is_same_file row other) seen (texts_same row other name kind)))

    by : (generation : Gen) (all : Bool) → all ≡ false → is_all generation ≡ false
        → takes generation all (seen_with w rows row) row.generation ≡ true
        → takes generation all (seen_with w rows other) other.generation ≡ true
        → (is_highest (seen_with w rows row) row.generation ≡ true → other.generation ≤ row.generation)
        → (is_lowest (seen_with w rows other) other.generation ≡ true → other.generation ≤ row.generation)
        → other.generation ≤ row.generation
    by Missing true one plain takes_row takes_other top bottom = absurd (cc)
    by Missing false one plain takes_row takes_other top bottom = top takes_row
    by Highest all one plain takes_row takes_other top bottom = top takes_row
    by Next all one plain takes_row takes_other top bottom = absurd (cc)
    by Lowest all one plain takes_row takes_other top bottom = bottom takes_other
    by All all one plain takes_row takes_other top bottom = absurd (cc)
    by (Number number) all one plain takes_row takes_other top bottom =
        let first = eqb-true row.generation number takes_row in
        let second = eqb-true other.generation number takes_other in
        omega arith

-- a name and a type that are looked for are given without wildcards
pub record IsSingle (w : Wanted) : Type 0 where
  pub name : option_map_or is_fixed w.name true ≡ true
  pub kind : list_any is_wild w.kind ≡ false
  pub generation : is_all w.generation ≡ false
  pub one : w.all_generations ≡ false

-- a row of the catalogue has its name and type in capitals
record IsUpper (row : FileRow) : Type 0 where
  name : is_upper_name row.name ≡ true
  kind : is_upper_name row.kind ≡ true

row_upper : (directories : ℕ) (row : FileRow) → is_row directories row ≡ true → IsUpper row
row_upper directories row is =
    let a = and_parts _ _ is in
    let b = and_parts _ _ a.0 in
    let c = and_parts _ _ b.0 in
    let d = and_parts _ _ c.0 in
    record { name = (and_parts _ _ d.0).1; kind = c.1 }

fixed_name : (name : Option (List ℕ)) (a b : List ℕ) → option_map_or is_fixed name true ≡ true → name_matches name a ≡ true
    → name_matches name b ≡ true → is_upper_name a ≡ true → is_upper_name b ≡ true → a ≡ b
fixed_name None a b fixed first second up_a up_b = absurd (cc)
fixed_name (Some pattern) a b fixed first second up_a up_b = one_name pattern a b (by (list_any is_wild pattern) fixed) first second up_a up_b
  where
    by : (wild : Bool) → not wild ≡ true → wild ≡ false
    by true is = cc
    by false is = refl

-- the parts of what is seen
record IsSeen (w : Wanted) (row : FileRow) : Type 0 where
  name : name_matches w.name row.name ≡ true
  kind : matches w.kind row.kind ≡ true

seen_parts : (w : Wanted) (rows : List FileRow) (row : FileRow) → is_selected w rows row ≡ true → IsSeen w row
unfolding is_selected is_seen
seen_parts w rows row is =
    let both = and_parts _ _ (and_parts _ _ is).0 in
    record { name = (and_parts _ _ both.0).1; kind = both.1 }

-- at most one file of a directory is selected
pub single : (c : Catalogue) → IsCatalogue c → (directory : ℕ) (w : Wanted) → IsSingle w → length (selected w (rows_of c directory)) ≤ 1
single c lawful directory w one =
    filter_at_most_one (is_selected w (rows_of c directory)) (rows_of c directory)
    (λ i j row other below is is_other first second. never i j row other below is is_other first second)
  where
    upper : (i : ℕ) (row : FileRow) → slice_get (rows_of c directory) i ≡ Some row → IsUpper row
    upper i row is =
        row_upper (length c.directories) row
        (all_at (is_row (length c.directories)) (rows_of c directory) i row
        (all_filter (is_row (length c.directories)) (λ each. each.directory == directory) c.rows lawful.rows_within) is)

    never : (i j : ℕ) (row other : FileRow) → i < j → slice_get (rows_of c directory) i ≡ Some row
        → slice_get (rows_of c directory) j ≡ Some other → is_selected w (rows_of c directory) row ≡ true
        → is_selected w (rows_of c directory) other ≡ true → ⊥
    never i j row other below is is_other first second =
        let seen = seen_parts w (rows_of c directory) row first in
        let seen_other = seen_parts w (rows_of c directory) other second in
        let capital = upper i row is in
        let capital_other = upper j other is_other in
        let name = fixed_name w.name row.name other.name one.name seen.name seen_other.name capital.name capital_other.name in
        let kind = one_name w.kind row.kind other.kind one.kind seen.kind seen_other.kind capital.kind capital_other.kind in
        let less = lower_generation row other name kind (rows_ascend c lawful directory i j row other below is is_other) in
        let most = not_above w (rows_of c directory) i j row other one.one one.generation is is_other first second name kind in
        omega arith
