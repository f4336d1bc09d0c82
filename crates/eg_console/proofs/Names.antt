-- The names of the interfaces: each has its number, and what completes an atom to one is taken.
use Rattle.std.proofs.Common.{is_some, ◌≡◌, ℕ, zero, suc, ◌≤◌, ◌<◌, ◌==◌, ◌&&◌, nat_le, Bool, true, false, cond, List, [], ◌∷◌, ◌++◌, length, drop, None, Some, slice_get, refl, arith, ap, sym, ◌∙◌, subst, length-append}
use Rattle.std.specs.List.{enumerate_from, list_all}
use Rattle.std.specs.Str.{bytes_eq}
use Rattle.std.proofs.lemmas.Bool.{and_parts}
use Rattle.std.proofs.lemmas.Bool.Decides.{nat_tests}
use Rattle.std.proofs.lemmas.Slice.Eq.{bytes_eq-Decides}
use Rattle.cm_lists.proofs.Quantifiers.{all_drop, all_filter}
use Rattle.cm_text.specs.Bytes.{is_name, is_word}
use Rattle.cm_text.specs.BeginLaws.{length-whole}
use Rattle.cm_hooks.specs.Among.{has_name, is_under, only, under, verdict_among}
use Rattle.cm_hooks.specs.AmongLaws.{one_whole}
use Rattle.cm_hooks.specs.Meanings.{Completes, IsLawful}
use Rattle.cm_hooks.specs.declared.answer.Answer.TheVariants.{No, Yes}
use Rattle.cm_hooks.specs.declared.answer.Tail.TheVariants as tails
use Rattle.cm_net.specs.Values.{ipv4_prefix_value}
use Rattle.eg_console.specs.Rules.{console_meanings, is_console_byte, name_at, names, no_address, rest_by}

pub listed : (number : ℕ) → number < 4 → slice_get names number ≡ Some (name_at number)
listed zero within = refl
listed (suc zero) within = refl
listed (suc (suc zero)) within = refl
listed (suc (suc (suc zero))) within = refl
listed (suc (suc (suc (suc number)))) within = absurd (omega (arith, within))

pub past : (number : ℕ) → 4 ≤ number → slice_get names number ≡ None
past zero far = absurd (omega (arith, far))
past (suc zero) far = absurd (omega (arith, far))
past (suc (suc zero)) far = absurd (omega (arith, far))
past (suc (suc (suc zero))) far = absurd (omega (arith, far))
past (suc (suc (suc (suc number)))) far = refl

-- a name with its number, of few bytes that a field may have
abbrev is_listed : ℕ × List ℕ → Bool
is_listed one = bytes_eq one.1 (name_at one.0) && list_all is_console_byte one.1 && nat_le (length one.1) 39

all_listed : list_all is_listed (enumerate_from 0 names) ≡ true
unfolding is_name is_word
all_listed = refl

-- so is the one that an atom stands for
one_listed : (atom : List ℕ) (one : ℕ × List ℕ) → under names atom ≡ one ∷ [] → is_listed one ≡ true
one_listed atom one is =
    (and_parts _ _ (ap (list_all is_listed) (sym is)
    ∙ all_filter is_listed (λ name. is_under (has_name names atom) atom name.1) (enumerate_from 0 names) all_listed)).0

one_completes : (atom : List ℕ) (one : ℕ × List ℕ) → 0 < length atom → under names atom ≡ one ∷ []
    → Completes is_console_byte (verdict_among names) atom (tails.Whole (drop (length atom) (name_at one.0)))
unfolding verdict_among
one_completes atom one some is =
    let named = bytes_eq one.1 (name_at one.0) in
    let bytes = list_all is_console_byte one.1 in
    let parts = and_parts (named && bytes) (nat_le (length one.1) 39) (one_listed atom one is) in
    let front = and_parts named bytes parts.0 in
    let few : nat_le (length one.1) 39 ≡ true = parts.1 in
    let short : length one.1 ≤ 39 = grind (arith, nat_tests, few) in
    let whole = one_whole names atom one is in
    let size = length-whole one.1 atom whole.0 in
    let more : 0 < length (atom ++ drop (length atom) one.1) = simp length-append (omega arith) in
    let full : (length (atom ++ drop (length atom) one.1) == 0) ≡ false = grind (arith, nat_tests) in
    let alone : under names (atom ++ drop (length atom) one.1) ≡ one ∷ [] = whole.1 in
    subst (λ (name : List ℕ). Completes is_console_byte (verdict_among names) atom (tails.Whole (drop (length atom) name)))
    ((bytes_eq-Decides one.1 (name_at one.0)).0 front.0) (
      all_drop is_console_byte (length atom) one.1 front.1,
      record {
        short = omega (arith, size, short);
        taken = rw (full, alone) tt;
      },
    )

name_completes : (atom : List ℕ)
    → Completes is_console_byte (verdict_among names) atom (rest_by (verdict_among names atom) (length atom))
unfolding verdict_among
name_completes atom = by (length atom == 0) refl (under names atom) refl
  where
    kept : (short : Bool) (rest : List ℕ) → Completes is_console_byte (verdict_among names) atom (tails.Whole rest)
        → Completes is_console_byte (verdict_among names) atom (cond short tails.None (tails.Whole rest))
    kept true rest whole = tt
    kept false rest whole = whole

    by : (b : Bool) → (length atom == 0) ≡ b → (those : List (ℕ × List ℕ)) → under names atom ≡ those
        → Completes is_console_byte (verdict_among names) atom (rest_by (cond b No (only those)) (length atom))
    by true empty those is = tt
    by false full [] is = tt
    by false full (one ∷ []) is = kept _ _ (one_completes atom one (grind (arith, nat_tests)) is)
    by false full (one ∷ other ∷ more) is = tt

pub console_lawful : IsLawful console_meanings
console_lawful = record { completes = λ id atom short. by (id == 0) atom }
  where
    by : (name : Bool) (atom : List ℕ)
        → Completes is_console_byte (λ (whole : List ℕ).
        cond name (verdict_among names whole) (cond (is_some (ipv4_prefix_value whole)) (Yes 0) no_address))
        atom (cond name (rest_by (verdict_among names atom) (length atom)) tails.None)
    by true atom = name_completes atom
    by false atom = tt
