-- The keys that are left where one line is over.
use Rattle.std.proofs.Common.{arith, length-append, ℕ, zero, suc, ◌≡◌, ◌+◌, ◌-◌, List, [], ◌++◌, drop, length, ap, sym, ◌∙◌, refl}
use Rattle.std.proofs.lemmas.List.{drop_all}
use Rattle.ex_program.specs.GeneratedKeys.{keys_after, line_keys, next_number}

-- after the last line there are none
pub none_left : (keys : List ℕ) → (taken position number lines : ℕ) → taken ≡ length keys → lines ≡ 0
    → drop taken keys ++ keys_after position number lines ≡ []
unfolding keys_after
none_left keys taken position number lines over last =
    ap (λ more. drop taken keys ++ more) (ap (keys_after position number) last)
    ∙ (ap (λ front. front ++ []) (drop_all taken keys (omega (arith, over))))

-- after another those of the next line come first
pub more_left : (keys : List ℕ) → (taken position number lines : ℕ) → taken ≡ length keys → (lines ≡ 0 → ⊥)
    → line_keys (position + 1) (next_number number) ++ keys_after (position + 1) (next_number number) (lines - 1)
    ≡ drop taken keys ++ keys_after position number lines
unfolding keys_after
more_left keys taken position number zero over more = absurd (more refl)
more_left keys taken position number (suc lines) over more =
    let less : suc lines - 1 ≡ lines = omega arith in
    rw less (sym (ap (λ front. front ++ keys_after position number (suc lines))
    (drop_all taken keys (omega (arith, over)))))

-- so many keys were counted, and so many are after them
abbrev AreCounted : ℕ → ℕ → ℕ → ℕ → ℕ → Type 0
AreCounted count position number lines all = count + length (keys_after position number lines) ≡ all

-- where no line is left all are
pub all_counted : (count position number lines all : ℕ) → AreCounted count position number lines all → lines ≡ 0 → count ≡ all
unfolding keys_after
all_counted count position number lines all counted last =
    omega (arith, counted, ap (λ left. length (keys_after position number left)) last)

-- the keys of one more line are
pub more_counted : (count size position number next lines all : ℕ) → AreCounted count position number lines all
    → (lines ≡ 0 → ⊥) → next ≡ next_number number → size ≡ length (line_keys (position + 1) next)
    → AreCounted (count + size) (position + 1) next (lines - 1) all
unfolding keys_after
more_counted count size position number next zero all counted more is long = absurd (more refl)
more_counted count size position number next (suc lines) all counted more is long =
    let less : suc lines - 1 ≡ lines = omega arith in
    let line : length (line_keys (position + 1) (next_number number) ++ keys_after (position + 1) (next_number number) lines)
    ≡ size + length (keys_after (position + 1) next lines) =
    rw (sym is, long) (length-append (line_keys (position + 1) next) (keys_after (position + 1) next lines)) in
    rw less (omega (arith, counted, line))
