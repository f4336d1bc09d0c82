-- A name that a quoted text is put after, byte by byte.
use Rattle.std.proofs.Common.{◌≡◌, ◌≢◌, ℕ, ◌-◌, ◌<◌, ◌≤◌, ◌↔◌, Bool, true, false, ◌&&◌, ◌==◌, if◌then◌else◌, nat_lt, List, [], ◌∷◌, ◌++◌, length, take, drop, get_or, IsTrue, refl, sym, ap, ◌∙◌, arith, append_assoc, length-append}
use Rattle.std.specs.Bool.{OnTrue, OnFalse}
use Rattle.std.proofs.lemmas.Bool.Decides.{nat_tests}
use Rattle.std.proofs.lemmas.List.{append-nil, take-append-le, take_all}
use Rattle.cm_lists.proofs.Bools.{by_test}
use Rattle.std.proofs.lemmas.Bool.{ne_eqb}
use Rattle.cm_text.specs.declared.name.TheConstants.{NAME_LIMIT}
use Rattle.cm_fields.specs.Quoted.{unquoted}

-- a name with a byte more, where it fits, is a name
pub pushed_within : (fits : Bool) (name longer : List ℕ) (byte : ℕ) → (IsTrue fits ↔ (length name < NAME_LIMIT))
    → OnTrue fits (longer ≡ name ++ byte ∷ []) → OnFalse fits (longer ≡ name) → length name ≤ NAME_LIMIT
    → length longer ≤ NAME_LIMIT
pushed_within true name longer byte fits pushed full within =
    let below = fits.0 refl in
    rw pushed (simp length-append (omega (arith, below)))
pushed_within false name longer byte fits pushed full within = rw full within

-- what is put after that name is put after the byte
after : (fits : Bool) (name longer : List ℕ) (byte : ℕ) (rest : List ℕ) → (IsTrue fits ↔ (length name < NAME_LIMIT))
    → OnTrue fits (longer ≡ name ++ byte ∷ []) → OnFalse fits (longer ≡ name) → length name ≤ NAME_LIMIT
    → take NAME_LIMIT (longer ++ rest) ≡ take NAME_LIMIT (name ++ byte ∷ rest)
after true name longer byte rest fits pushed full within = rw pushed (ap (take NAME_LIMIT) (append_assoc name (byte ∷ []) rest))
after false name longer byte rest fits pushed full within =
    by_test _ (nat_lt (length name) NAME_LIMIT)
    (λ below. let wrong = fits.1 (grind (arith, nat_tests)) in cc)
    (λ above.
    let most : NAME_LIMIT ≤ length name = grind (arith, nat_tests) in
    rw full (take-append-le NAME_LIMIT name rest most ∙ sym (take-append-le NAME_LIMIT name (byte ∷ rest) most)))

-- nothing is put after a name
pub nothing_pushed : (name text : List ℕ) → length text < 1 → length name ≤ NAME_LIMIT
    → name ≡ take NAME_LIMIT (name ++ unquoted text)
nothing_pushed name [] below within = sym (ap (take NAME_LIMIT) (append-nil name) ∙ take_all NAME_LIMIT name within)
nothing_pushed name (byte ∷ more) below within = absurd (omega arith)

-- after a byte that is no quote
pub plain_passed : (byte : ℕ) (more : List ℕ) → byte ≢ 34 → unquoted (byte ∷ more) ≡ byte ∷ unquoted more
plain_passed byte [] plain = refl
plain_passed byte (next ∷ more) plain = let quote = ne_eqb byte 34 plain in rw quote refl

-- after a quote that stands twice
pub quote_passed : (byte : ℕ) (more : List ℕ) → byte ≡ 34 → 1 ≤ length more → get_or more 0 0 ≡ 34
    → unquoted (byte ∷ more) ≡ byte ∷ unquoted (take (length more - 1) (drop 1 more))
quote_passed byte [] quote some second = absurd (omega arith)
quote_passed byte (next ∷ more) quote some second =
    let rest : take (length (next ∷ more) - 1) more ≡ more = take_all _ more (omega arith) in
    rw (quote, second, rest) refl

-- after a quote that stands once, where a byte follows or none
pub lone_quote_passed : (byte : ℕ) (more : List ℕ) → 1 ≤ length more → get_or more 0 0 ≢ 34
    → unquoted (byte ∷ more) ≡ byte ∷ unquoted more
lone_quote_passed byte [] some second = absurd (omega arith)
lone_quote_passed byte (next ∷ more) some second = by (byte == 34) (next == 34) (ne_eqb next 34 second)
  where
    by : (first last : Bool) → last ≡ false
        → (if first && last then 34 ∷ unquoted more else byte ∷ unquoted (next ∷ more)) ≡ byte ∷ unquoted (next ∷ more)
    by true true other = cc
    by true false other = refl
    by false last other = refl

pub last_passed : (byte : ℕ) (more : List ℕ) → length more < 1 → unquoted (byte ∷ more) ≡ byte ∷ unquoted more
last_passed byte [] below = refl
last_passed byte (next ∷ more) below = absurd (omega arith)

-- a byte is put after a name, and then what is left
pub byte_pushed : (fits : Bool) (name longer text rest : List ℕ) → 1 ≤ length text
    → (IsTrue fits ↔ (length name < NAME_LIMIT)) → OnTrue fits (longer ≡ name ++ get_or text 0 0 ∷ [])
    → OnFalse fits (longer ≡ name) → length name ≤ NAME_LIMIT
    → unquoted (get_or text 0 0 ∷ take (length text - 1) (drop 1 text)) ≡ get_or text 0 0 ∷ unquoted rest
    → take NAME_LIMIT (longer ++ unquoted rest) ≡ take NAME_LIMIT (name ++ unquoted text)
byte_pushed fits name longer [] rest some is_fit pushed full within said = absurd (omega arith)
byte_pushed fits name longer (byte ∷ more) rest some is_fit pushed full within said =
    let left : take (length (byte ∷ more) - 1) more ≡ more = take_all _ more (omega arith) in
    let all : unquoted (byte ∷ more) ≡ byte ∷ unquoted rest =
    ap (λ (it : List ℕ). unquoted (byte ∷ it)) (sym left) ∙ said in
    after fits name longer byte (unquoted rest) is_fit pushed full within
    ∙ ap (λ (it : List ℕ). take NAME_LIMIT (name ++ it)) (sym all)

-- the same after bytes that have room for all
pub said_after : (before text rest : List ℕ) → 1 ≤ length text
    → unquoted (get_or text 0 0 ∷ take (length text - 1) (drop 1 text)) ≡ get_or text 0 0 ∷ unquoted rest
    → (before ++ get_or text 0 0 ∷ []) ++ unquoted rest ≡ before ++ unquoted text
said_after before [] rest some said = absurd (omega arith)
said_after before (byte ∷ more) rest some said =
    let left : take (length (byte ∷ more) - 1) more ≡ more = take_all _ more (omega arith) in
    append_assoc before (byte ∷ []) (unquoted rest)
    ∙ ap (λ (it : List ℕ). before ++ it) (sym said ∙ ap (λ (it : List ℕ). unquoted (byte ∷ it)) left)

pub nothing_said : (before text : List ℕ) → length text < 1 → before ≡ before ++ unquoted text
nothing_said before [] below = sym (append-nil before)
nothing_said before (byte ∷ more) below = absurd (omega arith)
