-- A guide word or a token that is completed is taken.
use Rattle.std.proofs.Common.{◌≡◌, ℕ, ◌+◌, ◌≤◌, Bool, true, false, not, ◌==◌, ◌&&◌, if◌then◌else◌, List, [], ◌∷◌, ◌++◌, length, drop, take, slice_get, refl, ap, sym, subst, ◌∙◌, arith, length-append, append_assoc}
use Rattle.std.specs.Char.{to_ascii_lowercase}
use Rattle.std.specs.List.{common_prefix_len, list_all, list_any, prefix_len}
use Rattle.std.specs.Option.{option_map_or}
use Rattle.std.proofs.lemmas.Bool.{and_parts, or_parts}
use Rattle.std.proofs.lemmas.Bool.Decides.{nat_tests}
use Rattle.std.proofs.lemmas.List.{drop-append-le, take-append-le, take_all}
use Rattle.std.proofs.lemmas.List.Folds.{prefix_len-append}
use Rattle.std.proofs.Math.Seq.{take-append_seam}
use Rattle.cm_lists.proofs.Bools.{by_test}
use Rattle.cm_lists.proofs.Elements.{slice_get_at}
use Rattle.cm_lists.proofs.Prefixes.{all_of_prefix_len, prefix_len_both, prefix_len_drop}
use Rattle.cm_text.specs.Bytes.{is_shown_byte}
use Rattle.cm_text.specs.BeginLaws.{begins-le, begins_same, begins_whole, length-whole, lower, same_begins}
use Rattle.cm_text.specs.Case.{begins_with, equals}
use Rattle.cm_fields.specs.declared.code.Code.TheVariants.{BadNoise}
use Rattle.cm_fields.specs.declared.trial.Try.{Try}
use Rattle.cm_fields.specs.declared.trial.Try.TheVariants.{Accept, Refuse, More}
use Rattle.cm_fields.specs.declared.value.Value.TheVariants.{Noise, Token}
use Rattle.cm_fields.specs.Phrase.{is_inside, noise, same_letter, token, typed_noise}
use Rattle.cm_fields.proofs.Phrases.{token_whole}
use Rattle.cm_blocks.specs.Fault.{is_parenthesis}
use Rattle.cm_recognise.specs.declared.outcome.Outcome.TheVariants.{Nothing, Whole}
use Rattle.cm_recognise.specs.Candidates.{missing}
use Rattle.cm_recognise.specs.Outcome.{guide, phrase_outcome}

-- what a phrase that begins with the atom is completed by
pub record Begins (text atom bytes : List ℕ) : Type 0 where
  pub begins : begins_with text atom ≡ true
  pub bytes_is : drop (length atom) text ≡ bytes

pub phrase_completes : (text : List ℕ) (next : ℕ) (atom bytes : List ℕ) (after : ℕ)
    → phrase_outcome text next atom ≡ Whole bytes after → Begins text atom bytes × (next ≡ after)
phrase_completes text next atom bytes after is = by (begins_with text atom) refl is
  where
    by : (test : Bool) → begins_with text atom ≡ test
        → (if test then Whole (missing text atom) next else Nothing) ≡ Whole bytes after → Begins text atom bytes × (next ≡ after)
    by true begins is =
        let rest : drop (length atom) text ≡ bytes = cc in
        let leads : next ≡ after = cc in
        (record { begins = begins; bytes_is = rest }, leads)
    by false begins is = cc

-- the two have the same letters
pub lower_whole : (text atom bytes : List ℕ) → Begins text atom bytes → lower text ≡ lower (atom ++ bytes)
lower_whole text atom bytes b =
    let whole = atom ++ drop (length atom) text in
    let size = length-whole text atom b.begins in
    let all : take (length whole) text ≡ text = take_all (length whole) text (omega (arith, size)) in
    let same = begins_same text whole (begins_whole text atom b.begins) in
    sym (ap lower all) ∙ same ∙ ap (λ (rest : List ℕ). lower (atom ++ rest)) b.bytes_is

same_letters : (text whole : List ℕ) → lower text ≡ lower whole → common_prefix_len same_letter text whole ≡ length text
same_letters [] whole same = refl
same_letters (letter ∷ text) [] same = cc
same_letters (letter ∷ text) (byte ∷ whole) same =
    let here : to_ascii_lowercase letter ≡ to_ascii_lowercase byte = cc in
    let rest : lower text ≡ lower whole = cc in
    let test : (to_ascii_lowercase letter == to_ascii_lowercase byte) ≡ true = grind (arith, nat_tests) in
    let later = same_letters text whole rest in
    rw test (omega arith)

-- a token, completed
pub token_takes : (text atom bytes more : List ℕ) (at : ℕ) → Begins text atom bytes
    → token text (atom ++ (bytes ++ 32 ∷ more)) at ≡ Accept Token (length text) (at + length (atom ++ bytes))
token_takes text atom bytes more at b =
    let size : length (atom ++ bytes) ≡ length text =
    ap (λ (rest : List ℕ). length (atom ++ rest)) (sym b.bytes_is) ∙ length-whole text atom b.begins in
    let taken = token_whole text (atom ++ bytes) (32 ∷ more) at (same_letters text (atom ++ bytes) (lower_whole text atom bytes b)) in
    rw (← append_assoc atom bytes (32 ∷ more)) (taken ∙ ap (λ n. Accept Token (length text) (at + n)) (sym size))

-- the text of a guide word has neither a parenthesis nor the end of the line
pub noise_bytes : (text : List ℕ) → list_all is_shown_byte text ≡ true → list_any is_parenthesis text ≡ false
    → list_all is_inside text ≡ true
noise_bytes [] shown none = refl
noise_bytes (byte ∷ text) shown none =
    let first = and_parts (is_shown_byte byte) (list_all is_shown_byte text) shown in
    let second = or_parts (is_parenthesis byte) (list_any is_parenthesis text) none in
    let here : is_inside byte ≡ true = (let p = first.0 in let q = second.0 in grind (arith, nat_tests)) in
    rw here (noise_bytes text first.1 second.1)

-- not the closing parenthesis
is_open : ℕ → Bool
is_open byte = not (byte == 41)

open_lower : (text : List ℕ) → list_all is_inside text ≡ true → list_all is_open (lower text) ≡ true
unfolding is_open
open_lower [] all = refl
open_lower (byte ∷ text) all =
    let parts = and_parts (is_inside byte) (list_all is_inside text) all in
    let here : not (to_ascii_lowercase byte == 41) ≡ true = (let p = parts.0 in grind (arith, nat_tests)) in
    rw here (open_lower text parts.1)

closed_lower : (text : List ℕ) → list_all is_open (lower (text ++ 41 ∷ [])) ≡ false
unfolding is_open
closed_lower [] = refl
closed_lower (byte ∷ text) = by (not (to_ascii_lowercase byte == 41)) (closed_lower text)
  where
    by : (test : Bool) → list_all is_open (lower (text ++ 41 ∷ [])) ≡ false → (test && list_all is_open (lower (text ++ 41 ∷ []))) ≡ false
    by true later = later
    by false later = refl

-- what is typed of a guide word ends before its closing parenthesis
noise_fits : (text inside : List ℕ) → list_all is_inside inside ≡ true → begins_with (text ++ 41 ∷ []) inside ≡ true
    → length inside ≤ length text
noise_fits text inside all begins =
    by_test _ (length inside == length (text ++ 41 ∷ []))
    (λ equal.
    let whole : take (length inside) (text ++ 41 ∷ []) ≡ text ++ 41 ∷ [] = take_all (length inside) (text ++ 41 ∷ []) (grind (arith, nat_tests)) in
    let same : lower (text ++ 41 ∷ []) ≡ lower inside = sym (ap lower whole) ∙ begins_same (text ++ 41 ∷ []) inside begins in
    let one = closed_lower text in
    let other = open_lower inside all in
    let never : false ≡ true = sym one ∙ ap (list_all is_open) same ∙ other in
    cc)
    (λ differs.
    let most = begins-le (text ++ 41 ∷ []) inside begins in
    let size = length-append text (41 ∷ []) in
    grind (arith, nat_tests))

noise_begins : (text inside : List ℕ) → length inside ≤ length text → begins_with (text ++ 41 ∷ []) inside ≡ true
    → begins_with text inside ≡ true
noise_begins text inside fits begins =
    same_begins text inside
    (sym (ap lower (take-append-le (length inside) text (41 ∷ []) fits)) ∙ begins_same (text ++ 41 ∷ []) inside begins)

inside_same : (byte : ℕ) → is_inside byte ≡ true → is_inside byte ≡ true
inside_same byte is = is

-- a whole phrase in parentheses
closed_takes : (text body more : List ℕ) (at : ℕ) → prefix_len is_inside body ≡ length body → begins_with text body ≡ true
    → typed_noise text (body ++ 41 ∷ more) at ≡ Accept (Noise true) (length body + 2) (at + (length body + 2))
unfolding typed_noise
closed_takes text body more at all begins =
    let run : prefix_len is_inside (body ++ 41 ∷ more) ≡ length body =
    (let both = prefix_len-append is_inside body (41 ∷ more) in grind (arith, nat_tests)) in
    let other : (length body == length (body ++ 41 ∷ more)) ≡ false =
    (let size = length-append body (41 ∷ more) in grind (arith, nat_tests)) in
    let byte = slice_get_at 41 more body in
    let same : take (length body) (body ++ 41 ∷ more) ≡ body = take-append_seam body (41 ∷ more) in
    rw (run, other, byte, same, begins)

-- after the opening parenthesis
inside_takes : (text inside more : List ℕ) (at : ℕ) → list_all is_inside text ≡ true → prefix_len is_inside inside ≡ length inside
    → begins_with (text ++ 41 ∷ []) inside ≡ true
    → typed_noise text (inside ++ (drop (length inside) (text ++ 41 ∷ []) ++ more)) at
    ≡ Accept (Noise true) (length text + 2)
    (at + (1 + length (inside ++ drop (length inside) (text ++ 41 ∷ []))))
inside_takes text inside more at plain run begins =
    let fits = noise_fits text inside (all_of_prefix_len is_inside inside run) begins in
    let begin = noise_begins text inside fits begins in
    let body = inside ++ drop (length inside) text in
    let tail = drop-append-le (length inside) text (41 ∷ []) fits in
    let size : length (inside ++ drop (length inside) text) ≡ length text = length-whole text inside begin in
    let all : prefix_len is_inside body ≡ length body =
    prefix_len_both is_inside inside (drop (length inside) text) run (prefix_len_drop is_inside is_inside inside_same (length inside) text plain) in
    let taken = closed_takes text body more at all (begins_whole text inside begin) in
    let joined : inside ++ ((drop (length inside) text ++ 41 ∷ []) ++ more) ≡ body ++ 41 ∷ more = simp append_assoc in
    let end : length (inside ++ (drop (length inside) text ++ 41 ∷ [])) ≡ length text + 1 =
    sym (ap length (append_assoc inside (drop (length inside) text) (41 ∷ [])))
    ∙ length-append body (41 ∷ []) ∙ ap (λ n. n + 1) size in
    rw (tail, joined, taken, size)
    (ap (λ n. Accept (Noise true) (length text + 2) (at + n)) (let e = end in omega arith))

typed_wants : (text inside : List ℕ) (at : ℕ) → typed_noise text inside at ≡ More → prefix_len is_inside inside ≡ length inside
unfolding typed_noise
typed_wants text inside at is = by (prefix_len is_inside inside == length inside) refl is
  where
    size : ℕ
    size = prefix_len is_inside inside

    said : Bool → Try
    said test = if test then Accept (Noise true) (size + 2) (at + (size + 2)) else Refuse BadNoise (size + 2)

    decided : (test : Bool) → said test ≡ More → ⊥
    decided true is = cc
    decided false is = cc

    by : (test : Bool) → (prefix_len is_inside inside == length inside) ≡ test
        → (if test then More else said (option_map_or (λ byte. byte == 41) (slice_get inside size) false && begins_with text (take size inside))) ≡ More
        → prefix_len is_inside inside ≡ length inside
    by true ends is = grind (arith, nat_tests)
    by false ends is = absurd (decided _ is)

begins_nothing : (text : List ℕ) → begins_with text [] ≡ true
unfolding begins_with equals
begins_nothing text = refl

-- a guide word that wants more, completed
pub noise_takes : (text atom bytes more : List ℕ) (at : ℕ) → list_all is_inside text ≡ true → noise text atom at ≡ More
    → Begins (guide text) atom bytes
    → noise text (atom ++ (bytes ++ 32 ∷ more)) at ≡ Accept (Noise true) (length text + 2) (at + length (atom ++ bytes))
noise_takes text [] bytes more at plain wants b =
    let taken = inside_takes text [] (32 ∷ more) at plain refl (begins_nothing (text ++ 41 ∷ [])) in
    subst (λ (bytes : List ℕ). noise text (bytes ++ 32 ∷ more) at ≡ Accept (Noise true) (length text + 2) (at + length bytes)) b.bytes_is
    (taken ∙ ap (λ n. Accept (Noise true) (length text + 2) (at + n)) (omega arith))
noise_takes text (byte ∷ inside) bytes more at plain wants b = by (byte == 40) refl wants
  where
    begins : begins_with (text ++ 41 ∷ []) inside ≡ true
    begins =
        let same = begins_same (guide text) (byte ∷ inside) b.begins in
        let rest : lower (take (length inside) (text ++ 41 ∷ [])) ≡ lower inside = cc in
        same_begins (text ++ 41 ∷ []) inside rest

    by : (test : Bool) → (byte == 40) ≡ test → (if test then typed_noise text inside at else Accept (Noise false) 1 at) ≡ More
        → (if byte == 40 then typed_noise text (inside ++ (bytes ++ 32 ∷ more)) at else Accept (Noise false) 1 at)
        ≡ Accept (Noise true) (length text + 2) (at + length (byte ∷ inside ++ bytes))
    by false mark wants = cc
    by true mark wants =
        let taken = inside_takes text inside (32 ∷ more) at plain (typed_wants text inside at wants) begins in
        let completed : typed_noise text (inside ++ (bytes ++ 32 ∷ more)) at
        ≡ Accept (Noise true) (length text + 2) (at + (1 + length (inside ++ bytes))) =
        subst (λ (bytes : List ℕ). typed_noise text (inside ++ (bytes ++ 32 ∷ more)) at
        ≡ Accept (Noise true) (length text + 2) (at + (1 + length (inside ++ bytes)))) b.bytes_is taken in
        rw mark (completed ∙ ap (λ n. Accept (Noise true) (length text + 2) (at + n)) (omega arith))
