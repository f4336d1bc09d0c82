-- What two texts share, and what many do, is the longest text that they begin with.
use Rattle.std.proofs.Common.{◌≡◌, ◌≢◌, ℕ, nat_eq, List, [], ◌∷◌, length, drop, map, unwrap_or, arith, refl, ap, sym, subst, ◌∙◌}
use Rattle.std.specs.Char.{to_ascii_lowercase}
use Rattle.std.specs.Io.{StartsWith}
use Rattle.std.specs.List.{common_prefix_len, fold, reduce}
use Rattle.std.proofs.lemmas.List.{length-map, take-map, take_all, take-take}
use Rattle.std.proofs.lemmas.List.Sums.{common_prefix_len-le}
use Rattle.cm_lists.proofs.Starts.{common_most, starts_take, starts_trans, take_common}
use Rattle.cm_text.specs.BeginLaws.{lower}
use Rattle.cm_tables.specs.Common.{AllBeginWith, common, rests, shared, shared_letters}
use Rattle.cm_tables.specs.Look.{candidates}
use Rattle.cm_tables.specs.declared.entry.Entry.{Entry}

shared-first : (text other : List ℕ) → StartsWith text (shared text other)
shared-first text other = starts_take _ text (common_prefix_len-le nat_eq text other).0

shared-second : (text other : List ℕ) → StartsWith other (shared text other)
shared-second text other = rw (take_common text other) (starts_take _ other (common_prefix_len-le nat_eq text other).1)

shared-longest : (text other front : List ℕ) → StartsWith text front → StartsWith other front
    → StartsWith (shared text other) front
shared-longest text other front first second =
    take-take (length front) (common_prefix_len nat_eq text other) text (common_most text other front first second) ∙ first

pub fold-first : (text : List ℕ) (texts : List (List ℕ)) → StartsWith text (fold shared text texts)
fold-first text [] = take_all (length text) text (omega arith)
fold-first text (other ∷ texts) =
    starts_trans text (shared text other) _ (shared-first text other) (fold-first (shared text other) texts)

pub fold-all : (text : List ℕ) (texts : List (List ℕ)) → AllBeginWith texts (fold shared text texts)
fold-all text [] = tt
fold-all text (other ∷ texts) = (
  starts_trans other (shared text other) _ (shared-second text other) (fold-first (shared text other) texts),
  fold-all (shared text other) texts,
)

pub fold-longest : (text : List ℕ) (texts : List (List ℕ)) (front : List ℕ) → StartsWith text front
    → AllBeginWith texts front
    → StartsWith (fold shared text texts) front
fold-longest text [] front first all = first
fold-longest text (other ∷ texts) front first all =
    fold-longest (shared text other) texts front (shared-longest text other front first all.0) all.1

-- all begin with what they share
reduce-shared : (texts : List (List ℕ)) → AllBeginWith texts (unwrap_or (reduce shared texts) [])
reduce-shared [] = tt
reduce-shared (text ∷ texts) = (fold-first text texts, fold-all text texts)

-- what texts share in letters is, in small letters, what their small letters share
lower_shared : (text other : List ℕ) → lower (shared_letters text other) ≡ shared (lower text) (lower other)
lower_shared text other = sym (take-map to_ascii_lowercase _ text)

lower_fold : (text : List ℕ) (texts : List (List ℕ))
    → lower (fold shared_letters text texts) ≡ fold shared (lower text) (map lower texts)
lower_fold text [] = refl
lower_fold text (other ∷ texts) =
    lower_fold (shared_letters text other) texts
    ∙ ap (λ (first : List ℕ). fold shared first (map lower texts)) (lower_shared text other)

lower_reduce : (texts : List (List ℕ))
    → lower (unwrap_or (reduce shared_letters texts) []) ≡ unwrap_or (reduce shared (map lower texts)) []
lower_reduce [] = refl
lower_reduce (text ∷ texts) = lower_fold text texts

pub common_is_shared : (table : List Entry) (atom : List ℕ)
    → AllBeginWith (map lower (rests table atom)) (lower (common table atom))
unfolding common
common_is_shared table atom =
    subst (AllBeginWith (map lower (rests table atom))) (sym (lower_reduce (rests table atom)))
    (reduce-shared (map lower (rests table atom)))

pub common_is_longest : (table : List Entry) (atom front : List ℕ) → candidates table atom ≢ []
    → AllBeginWith (map lower (rests table atom)) front → StartsWith (lower (common table atom)) front
unfolding common
common_is_longest table atom front some all = by (candidates table atom) some all
  where
    after : ℕ × Entry → List ℕ
    after e = drop (length atom) e.1.text

    by : (entries : List (ℕ × Entry)) → entries ≢ [] → AllBeginWith (map lower (map after entries)) front
        → StartsWith (lower (unwrap_or (reduce shared_letters (map after entries)) [])) front
    by [] some all = absurd (some refl)
    by (e ∷ more) some all =
        subst (λ (whole : List ℕ). StartsWith whole front) (sym (lower_fold (after e) (map after more)))
        (fold-longest (lower (after e)) (map lower (map after more)) front all.0 all.1)

-- the first has it as it is
first_has : (text : List ℕ) (texts : List (List ℕ)) → StartsWith text (fold shared_letters text texts)
first_has text [] = take_all (length text) text (omega arith)
first_has text (other ∷ texts) =
    let size = length-map text to_ascii_lowercase in
    let within = (common_prefix_len-le nat_eq (lower text) (lower other)).0 in
    starts_trans text (shared_letters text other) _ (starts_take _ text (omega (arith, size, within)))
    (first_has (shared_letters text other) texts)

pub common_is_first : (table : List Entry) (atom text : List ℕ) (more : List (List ℕ)) → rests table atom ≡ text ∷ more
    → StartsWith text (common table atom)
unfolding common
common_is_first table atom text more is =
    subst (λ (texts : List (List ℕ)). StartsWith text (unwrap_or (reduce shared_letters texts) [])) (sym is)
    (first_has text more)

-- with no candidate it is empty
pub common_of_none : (table : List Entry) (atom : List ℕ) → candidates table atom ≡ [] → common table atom ≡ []
unfolding common
common_of_none table atom none =
    ap (λ (entries : List (ℕ × Entry)). unwrap_or (reduce shared_letters (map (λ (e : ℕ × Entry). drop (length atom) e.1.text) entries)) []) none
