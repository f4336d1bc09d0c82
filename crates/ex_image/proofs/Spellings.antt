-- A reader and its writer: what is read was written, and what is written is read.
-- A field's reader and its writer are one record (IsSpelling).
use Rattle.std.proofs.Common.{◌≡◌, ℕ, Bool, true, false, not, ◌==◌, cond, List, ◌∷◌, ◌++◌, Result, Ok, Err, refl, ap, subst, sym, ◌∙◌}
use Rattle.std.specs.List.{list_all}
use Rattle.std.proofs.lemmas.Bool.{eqb-true, false≢true}
use Rattle.cm_lists.proofs.Quantifiers.{all_weaker}
use Rattle.cm_io.specs.declared.status.Kind.{Kind}
use Rattle.cm_io.specs.declared.status.Kind.TheVariants.{Form}
use Rattle.ex_image.specs.Fields.{◌>>=◌, cut, formed, part_at}
use Rattle.ex_image.proofs.Cuts.{IsCut, cut_again, cut_takes, lacks}

-- a step that may fail, and what follows it
pub record Steps {A B : Type 0} (step : Result A Kind) (next : A → Result B Kind) (end : B) : Type 0 where
  pub value : A
  pub first : step ≡ Ok value
  pub then : next value ≡ Ok end

pub steps_of : {A B : Type 0} (step : Result A Kind) (next : A → Result B Kind) (end : B) → (step >>= next) ≡ Ok end
    → Steps step next end
steps_of (Ok value) next end is = record { value = value; first = refl; then = is }
steps_of (Err kind) next end is = absurd (cc)

-- values of a kind are read from just what is written of them, all of whose bytes pass a test
pub record IsSpelling {A : Type 0} (read : List ℕ → Result A Kind) (write : A → List ℕ) (Good : A → Type 0)
    (test : ℕ → Bool) : Type 0 where
  pub takes : (bytes : List ℕ) (x : A) → read bytes ≡ Ok x → (bytes ≡ write x) × Good x
  pub again : (x : A) → Good x → read (write x) ≡ Ok x
  pub only : (x : A) → Good x → list_all test (write x) ≡ true

-- a byte that does not pass is not among those that do
pub lacks_of : (test : ℕ → Bool) (byte : ℕ) → test byte ≡ false → (bytes : List ℕ) → list_all test bytes ≡ true
    → lacks byte bytes ≡ true
lacks_of test byte fails bytes all = all_weaker test (λ b. not (b == byte)) differs bytes all
  where
    by : (b : ℕ) (same : Bool) → (b == byte) ≡ same → test b ≡ true → not same ≡ true
    by b true is passes = absurd (false≢true (sym fails ∙ ap test (sym (eqb-true b byte is)) ∙ passes))
    by b false is passes = refl

    differs : (b : ℕ) → test b ≡ true → not (b == byte) ≡ true
    differs b passes = by b (b == byte) refl passes

-- a reader that tests, and gives the bytes themselves
pub tested : (good : List ℕ → Bool) (test : ℕ → Bool)
    → ((bytes : List ℕ) → good bytes ≡ true → list_all test bytes ≡ true)
    → IsSpelling (formed good) (λ bytes. bytes) (λ bytes. good bytes ≡ true) test
tested good test only = record {
  takes = λ bytes x is. by (good bytes) bytes x refl is;
  again = λ bytes is. ap (λ passes. cond passes (Ok bytes) (Err Form)) is;
  only = only;
}
  where
    by : (passes : Bool) (bytes x : List ℕ) → good bytes ≡ passes → cond passes (Ok bytes) (Err Form) ≡ Ok x
        → (bytes ≡ x) × (good x ≡ true)
    by true bytes x holds is = let same : bytes ≡ x = cc in (same, subst (λ at. good at ≡ true) same holds)
    by false bytes x holds is = absurd (cc)

-- a part that was read up to a byte
pub record IsTaken {A : Type 0} (write : A → List ℕ) (Good : A → Type 0) (byte : ℕ) (bytes : List ℕ) (part : A × List ℕ)
    : Type 0 where
  pub joined : bytes ≡ write part.0 ++ byte ∷ part.1
  pub good : Good part.0

-- what was read, with no fault
abbrev pub done : {A : Type 0} → A → Result A Kind
done x = Ok x

taken_of : {A : Type 0} (write : A → List ℕ) (Good : A → Type 0) (byte : ℕ) (bytes before after : List ℕ) (x : A)
    (part : A × List ℕ) → IsCut byte bytes before after → (before ≡ write x) × Good x → done (x, after) ≡ done part
    → IsTaken write Good byte bytes part
taken_of write Good byte bytes before after x part parts taken is =
    let same : (x, after) ≡ part = cc in
    subst (λ at. IsTaken write Good byte bytes at) same
    (record { joined = parts.joined ∙ ap (λ front. front ++ byte ∷ after) taken.0; good = taken.1 })

pub part_takes : {A : Type 0} (read : List ℕ → Result A Kind) (write : A → List ℕ) (Good : A → Type 0) (test : ℕ → Bool)
    → IsSpelling read write Good test → (byte : ℕ) (kind : Kind) (bytes : List ℕ) (part : A × List ℕ)
    → part_at byte kind read bytes ≡ Ok part → IsTaken write Good byte bytes part
part_takes read write Good test spelling byte kind bytes part is =
    let one = steps_of (cut byte kind bytes) (λ cut. read cut.0 >>= λ value. Ok (value, cut.1)) part is in
    let two = steps_of (read one.value.0) (λ value. Ok (value, one.value.1)) part one.then in
    taken_of write Good byte bytes one.value.0 one.value.1 two.value part
    (cut_takes byte kind bytes one.value one.first) (spelling.takes one.value.0 two.value two.first) two.then

pub part_again : {A : Type 0} (read : List ℕ → Result A Kind) (write : A → List ℕ) (Good : A → Type 0) (test : ℕ → Bool)
    → IsSpelling read write Good test → (byte : ℕ) (kind : Kind) → test byte ≡ false → (x : A) (rest : List ℕ) → Good x
    → part_at byte kind read (write x ++ byte ∷ rest) ≡ Ok (x, rest)
part_again read write Good test spelling byte kind fails x rest good =
    rw (
      cut_again byte kind (write x) rest (lacks_of test byte fails (write x) (spelling.only x good)),
      spelling.again x good,
    ) refl

-- what holds after a part that was read, whatever it was, holds after the whole
pub by_part : {A B : Type 0} (read : List ℕ → Result A Kind) (write : A → List ℕ) (Good : A → Type 0) (test : ℕ → Bool)
    → IsSpelling read write Good test → (byte : ℕ) (kind : Kind) (bytes : List ℕ) (next : A × List ℕ → Result B Kind)
    (end : B) (P : Type 0) → (part_at byte kind read bytes >>= next) ≡ Ok end
    → ((x : A) (rest : List ℕ) → bytes ≡ write x ++ byte ∷ rest → Good x → next (x, rest) ≡ Ok end → P) → P
by_part read write Good test spelling byte kind bytes next end P is later =
    let step = steps_of (part_at byte kind read bytes) next end is in
    let taken = part_takes read write Good test spelling byte kind bytes step.value step.first in
    later step.value.0 step.value.1 taken.joined taken.good step.then

-- the same of what is read of all bytes that are left
pub by_rest : {A B : Type 0} (read : List ℕ → Result A Kind) (write : A → List ℕ) (Good : A → Type 0) (test : ℕ → Bool)
    → IsSpelling read write Good test → (bytes : List ℕ) (next : A → Result B Kind) (end : B) (P : Type 0)
    → (read bytes >>= next) ≡ Ok end → ((x : A) → bytes ≡ write x → Good x → next x ≡ Ok end → P) → P
by_rest read write Good test spelling bytes next end P is later =
    let step = steps_of (read bytes) next end is in
    let taken = spelling.takes bytes step.value step.first in
    later step.value taken.0 taken.1 step.then
