-- Where the files of a directory end: where those of the next begin, and after the last are no others.
-- firsts is an equation in the invariant (IsStore), which one function makes anew after a change. A directory's files
-- end where the next one's begin, by number_order.
use Rattle.std.proofs.Common.{◌≡◌, ◌<◌, ◌≤◌, ◌+◌, ◌∷◌, ℕ, Bool, true, cond, zero, suc, List, [], length, Option, Some, None, refl, ap, arith, ◌∙◌, sym}
use Rattle.std.specs.List.{list_all, prefix_len, slice_get}
use Rattle.std.specs.Option.{option_map}
use Rattle.std.specs.Ordering.{is_le, is_lt, nat_cmp}
use Rattle.std.proofs.lemmas.Bool.{and_parts}
use Rattle.std.proofs.lemmas.Bool.Decides.{nat_tests}
use Rattle.std.proofs.lemmas.Option.{slice_get-map, slice_get_within}
use Rattle.std.proofs.lemmas.List.{length-map}
use Rattle.cm_lists.proofs.Quantifiers.{all_weaker}
use Rattle.cm_files.specs.Catalogue.{by_bytes}
use Rattle.ex_store.specs.declared.directory.Directory.{Directory}
use Rattle.ex_store.specs.Building.{by_directory}
use Rattle.ex_store.specs.Rows.{end_in, first_in}
use Rattle.ex_store.specs.State.{State, firsts_in, number_of}
use Rattle.ex_store.specs.WellFormed.{IsWellFormed, is_row_among}
use Rattle.cm_lists.proofs.Ascents.{sorted_ascends}
use Rattle.ex_store.proofs.BuiltLaws.{by_directory_total}
use Rattle.ex_store.proofs.CatalogueLaws.{directory_there, number_order, number_within}
use Rattle.ex_store.proofs.RowsInLaws.{number_at}

prefix_same : {X : Type 0} (all test other : X → Bool) → ((x : X) → all x ≡ true → test x ≡ other x) → (xs : List X)
    → list_all all xs ≡ true → prefix_len test xs ≡ prefix_len other xs
prefix_same all test other same [] pass = refl
prefix_same all test other same (x ∷ xs) pass =
    ap (λ is. cond is (1 + prefix_len test xs) 0) (same x (and_parts _ _ pass).0)
    ∙ ap (λ n. cond (other x) (1 + n) 0) (prefix_same all test other same xs (and_parts _ _ pass).1)

one_more : (m n : ℕ) → m ≡ n → 1 + m ≡ suc n
one_more m n same = omega (arith, same)

prefix_whole : {X : Type 0} (test : X → Bool) (xs : List X) → list_all test xs ≡ true → prefix_len test xs ≡ length xs
prefix_whole test [] pass = refl
prefix_whole test (x ∷ xs) pass =
    let here : test x ≡ true = (and_parts _ _ pass).0 in
    rw here (one_more (prefix_len test xs) (length xs) (prefix_whole test xs (and_parts _ _ pass).1))

next_number : (m n : ℕ) → is_le (nat_cmp m n) ≡ is_lt (nat_cmp m (n + 1))
next_number m n = grind (arith, nat_tests)

last_number : (m n : ℕ) → m < n + 1 → is_le (nat_cmp m n) ≡ true
last_number m n below = grind (arith, nat_tests)

-- the rows of a directory end where those of the next begin
end_below : (state : State) → IsWellFormed state → (n : ℕ) (directory next : Directory) → slice_get state.directories n ≡ Some directory
    → slice_get state.directories (n + 1) ≡ Some next → end_in directory.name state.rows ≡ first_in next.name state.rows
end_below state well n directory next here after =
    let sorted = sorted_ascends by_directory by_directory_total state.directories well.draft.directories_ascend in
    let own = number_at state.directories n directory sorted here in
    let other = number_at state.directories (n + 1) next sorted after in
    prefix_same (is_row_among state.directories) (λ row. is_le (by_bytes row.key.directory directory.name)) (λ row. is_lt (by_bytes row.key.directory next.name))
    (λ row is.
    let there = directory_there state.directories row is in
    ap is_le (sym (number_order state.directories row.key.directory directory.name sorted there own.0))
    ∙ ap (λ (k : ℕ). is_le (nat_cmp (number_of row.key.directory state.directories) k)) own.1
    ∙ next_number (number_of row.key.directory state.directories) n
    ∙ ap (λ (k : ℕ). is_lt (nat_cmp (number_of row.key.directory state.directories) k)) (sym other.1)
    ∙ ap is_lt (number_order state.directories row.key.directory next.name sorted there other.0))
    state.rows well.draft.rows.within

end_whole : (state : State) → IsWellFormed state → (n : ℕ) (directory : Directory) → slice_get state.directories n ≡ Some directory
    → n + 1 ≡ length state.directories → end_in directory.name state.rows ≡ length state.rows
end_whole state well n directory here last =
    let sorted = sorted_ascends by_directory by_directory_total state.directories well.draft.directories_ascend in
    let own = number_at state.directories n directory sorted here in
    prefix_whole (λ row. is_le (by_bytes row.key.directory directory.name)) state.rows
    (all_weaker (is_row_among state.directories) (λ row. is_le (by_bytes row.key.directory directory.name))
    (λ row is.
    let there = directory_there state.directories row is in
    let within = number_within state.directories row.key.directory there in
    ap is_le (sym (number_order state.directories row.key.directory directory.name sorted there own.0))
    ∙ ap (λ (k : ℕ). is_le (nat_cmp (number_of row.key.directory state.directories) k)) own.1
    ∙ last_number (number_of row.key.directory state.directories) n (omega (arith, within, last)))
    state.rows well.draft.rows.within)

-- an element within is there
nowhere : {X : Type 0} (xs : List X) (i : ℕ) → i < length xs → slice_get xs i ≡ None → ⊥
nowhere [] i within is = absurd (omega arith)
nowhere (x ∷ xs) zero within is = absurd (cc)
nowhere (x ∷ xs) (suc i) within is = nowhere xs i (omega arith) is

-- the end of those of a number, where the next number begins
end_next : (state : State) → IsWellFormed state → (n at : ℕ) → n + 1 < length state.directories
    → option_map (λ directory. first_in directory.name state.rows) (slice_get state.directories (n + 1)) ≡ Some at
    → option_map (λ directory. end_in directory.name state.rows) (slice_get state.directories n) ≡ Some at
end_next state well n at within starts =
    by (slice_get state.directories n) refl (slice_get state.directories (n + 1)) refl starts
  where
    by : (own : Option Directory) → slice_get state.directories n ≡ own → (next : Option Directory) → slice_get state.directories (n + 1) ≡ next
        → option_map (λ directory. first_in directory.name state.rows) next ≡ Some at
        → option_map (λ directory. end_in directory.name state.rows) own ≡ Some at
    by own here None after is = absurd (cc)
    by None here (Some next) after is = absurd (nowhere state.directories n (omega (arith, within)) here)
    by (Some directory) here (Some next) after is = ap Some (end_below state well n directory next here after) ∙ is

-- and that of the last
end_last : (state : State) → IsWellFormed state → (n : ℕ) → n + 1 ≡ length state.directories
    → option_map (λ directory. end_in directory.name state.rows) (slice_get state.directories n) ≡ Some (length state.rows)
end_last state well n last = by (slice_get state.directories n) refl
  where
    by : (own : Option Directory) → slice_get state.directories n ≡ own
        → option_map (λ directory. end_in directory.name state.rows) own ≡ Some (length state.rows)
    by None here = absurd (nowhere state.directories n (omega (arith, last)) here)
    by (Some directory) here = ap Some (end_whole state well n directory here last)

-- the same by the list of where the files of each directory begin
pub end_some : (state : State) → IsWellFormed state → (n at : ℕ) (firsts : List ℕ) → firsts ≡ firsts_in state.directories state.rows
    → slice_get firsts (n + 1) ≡ Some at → option_map (λ directory. end_in directory.name state.rows) (slice_get state.directories n) ≡ Some at
end_some state well n at firsts is found =
    let there = slice_get_within firsts (n + 1) at found in
    let size = ap length is ∙ length-map state.directories (λ (directory : Directory). first_in directory.name state.rows) in
    end_next state well n at (omega (arith, there, size))
    (sym (slice_get-map (λ (directory : Directory). first_in directory.name state.rows) state.directories (n + 1))
    ∙ ap (λ (each : List ℕ). slice_get each (n + 1)) (sym is) ∙ found)

pub end_none : (state : State) → IsWellFormed state → (n : ℕ) (firsts : List ℕ) → firsts ≡ firsts_in state.directories state.rows
    → n < length state.directories → length firsts ≤ n + 1
    → option_map (λ directory. end_in directory.name state.rows) (slice_get state.directories n) ≡ Some (length state.rows)
end_none state well n firsts is within past =
    let size = ap length is ∙ length-map state.directories (λ (directory : Directory). first_in directory.name state.rows) in
    end_last state well n (omega (arith, within, past, size))
