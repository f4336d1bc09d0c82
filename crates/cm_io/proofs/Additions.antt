-- Bytes put one piece after another, and counts of faults that rise.
use Rattle.std.proofs.Common.{◌≡◌, ℕ, ◌-◌, ◌^◌, ◌≤◌, List, [], ◌++◌, length, take, drop, refl, ap, sym, subst, ◌∙◌, arith, append_assoc, length-append}
use Rattle.std.proofs.lemmas.List.{append-nil, take-append-drop}
use Rattle.cm_lists.proofs.Numbers.{max_min_add}
use Rattle.cm_io.specs.Contents.{Contents, Nothing, Number, Bytes, add, AddsPart}
use Rattle.cm_io.specs.declared.sink.Put.{Put}
use Rattle.cm_io.specs.Fault.{PutCause, Rose}

-- no bytes add nothing
pub add_none : (contents : Contents) → add contents [] ≡ contents
unfolding add
add_none Nothing = refl
add_none (Number n) = ap Number (omega arith)
add_none (Bytes given) = ap Bytes (append-nil given)

-- two pieces put one after the other are put as one
pub add_append : (contents : Contents) (first second : List ℕ) → add contents (first ++ second) ≡ add (add contents first) second
unfolding add
add_append Nothing first second = refl
add_append (Number n) first second =
    ap Number (rw (length-append first second) (max_min_add n (length first) (length second) (2 ^ 64 - 1)))
add_append (Bytes given) first second = ap Bytes (sym (append_assoc given first second))

-- a part of the first piece is a part of both
pub adds_early : (before now : Contents) (first second : List ℕ) → AddsPart before now first
    → AddsPart before now (first ++ second)
adds_early before now first second adds = record {
  part = adds.part;
  is_part = record {
    rest = adds.is_part.rest ++ second;
    joined = sym (append_assoc adds.part adds.is_part.rest second)
        ∙ ap (λ bytes. bytes ++ second) adds.is_part.joined;
  };
  added = adds.added;
}

-- the first piece and a part of the second are a part of both
pub adds_late : (before now : Contents) (first second : List ℕ) → AddsPart (add before first) now second
    → AddsPart before now (first ++ second)
adds_late before now first second adds = record {
  part = first ++ adds.part;
  is_part = record {
    rest = adds.is_part.rest;
    joined = append_assoc first adds.part adds.is_part.rest
        ∙ ap (λ bytes. first ++ bytes) adds.is_part.joined;
  };
  added = adds.added ∙ sym (add_append before first adds.part);
}

-- a part of the second of three pieces is a part of all
pub adds_between : (before now : Contents) (first second third : List ℕ) → AddsPart (add before first) now second
    → AddsPart before now ((first ++ second) ++ third)
adds_between before now first second third adds = adds_early before now (first ++ second) third
    (adds_late before now first second adds)

-- a count that stayed, and then is as a later put says
pub cause_both : (a b c : ℕ) (outcome : Put) → b ≡ a → PutCause b c outcome → PutCause a c outcome
cause_both a b c outcome stays cause = subst (λ n. PutCause n c outcome) stays cause

-- a count that rose has risen also later
pub rose_early : (before middle now : ℕ) → Rose before middle → middle ≤ now → Rose before now
unfolding Rose
rose_early before middle now rose later = omega arith

-- a count that rose has risen also since earlier
pub rose_late : (before middle now : ℕ) → before ≤ middle → Rose middle now → Rose before now
unfolding Rose
rose_late before middle now later rose = omega arith

-- a prefix of the bytes is a part of them
pub adds_prefix : (given bytes : List ℕ) (n : ℕ) → AddsPart (Bytes given) (Bytes (given ++ take n bytes)) bytes
unfolding add
adds_prefix given bytes n = record {
  part = take n bytes;
  is_part = record { rest = drop n bytes; joined = take-append-drop n bytes };
  added = refl;
}

-- to a sink that tells nothing any part may have been added
pub adds_nothing : (bytes : List ℕ) → AddsPart Nothing Nothing bytes
unfolding add
adds_nothing bytes = record {
  part = [];
  is_part = record { rest = bytes; joined = refl };
  added = refl;
}
