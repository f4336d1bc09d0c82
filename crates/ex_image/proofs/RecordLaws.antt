-- A record: what is read of bytes is a record that may be there, and such a record is read.
-- What an image is, and how it is read, meet in two laws about one record. A function of the reader ensures Gives view
-- result (definition bytes); its caller, with ? for ◌>>=◌, closes by its own word.
use Rattle.std.proofs.Common.{◌≡◌, ℕ, suc, ◌+◌, ◌<◌, ◌==◌, Bool, true, false, nat_le, cond, List, [], ◌∷◌, ◌++◌, length, take, drop, get_or, Option, Some, None, Result, Ok, Err, refl, ap, subst, sym, ◌∙◌, arith, add-one, append_assoc, length-append}
use Rattle.std.proofs.Math.Seq.{drop-append-add, get_or-append_seam, length-take-le, split_at, take-append_seam}
use Rattle.std.proofs.lemmas.Bool.{eqb-true, false≢true, leb-false, lt-leb}
use Rattle.cm_io.specs.declared.status.Kind.{Kind}
use Rattle.cm_io.specs.declared.status.Kind.TheVariants.{Cut, Form}
use Rattle.ex_image.specs.declared.tag.Tag.{Tag}
use Rattle.ex_image.specs.declared.tag.Tag.TheVariants as tags
use Rattle.ex_image.specs.declared.version.Version.{Version}
use Rattle.ex_image.specs.Fields.{content_at}
use Rattle.ex_image.specs.Grammar.{HasContent, MayStand}
use Rattle.ex_image.specs.Reading.{Reading, after, fault_of, is_ended, may_follow, record_after, record_at, standing, tag_of, unless}
use Rattle.ex_image.specs.Record.{Entry, File, content_text, line_text, record_text}
use Rattle.ex_image.proofs.EntryLaws.{IsEntry, entry_spelling}
use Rattle.ex_image.proofs.FieldLaws.{is_inside}
use Rattle.ex_image.proofs.Spellings.{IsSpelling, by_part, by_rest, done, part_again, steps_of}

-- an entry that may be after a record, in an image of a version
pub record IsPlaced (version : Version) (last : Tag) (entry : Entry) : Type 0 where
  pub is : IsEntry version entry
  pub place : may_follow last (tag_of entry) ≡ true

standing_takes : (version : Version) (last : Tag) (line : List ℕ) (entry : Entry)
    → standing version last line ≡ Ok entry → (line ≡ line_text entry) × IsPlaced version last entry
unfolding standing
standing_takes version last line entry is =
    by_rest _ _ _ _ (entry_spelling version) line _ entry _ is λ other one good is.
    by other (may_follow last (tag_of other)) refl one good is
  where
    by : (other : Entry) (may : Bool) → may_follow last (tag_of other) ≡ may → line ≡ line_text other
        → IsEntry version other → cond may (done other) (Err Form) ≡ done entry
        → (line ≡ line_text entry) × IsPlaced version last entry
    by other true place one good is =
        let same : other ≡ entry = cc in
        subst (λ entry. (line ≡ line_text entry) × IsPlaced version last entry) same
        (one, record { is = good; place = place })
    by other false place one good is = absurd (cc)

standing_again : (version : Version) (last : Tag) (entry : Entry) → IsPlaced version last entry
    → standing version last (line_text entry) ≡ Ok entry
unfolding standing
standing_again version last entry placed =
    rw ((entry_spelling version).again entry placed.is, placed.place) refl

standing_spelling : (version : Version) (last : Tag)
    → IsSpelling (standing version last) line_text (IsPlaced version last) is_inside
standing_spelling version last = record {
  takes = standing_takes version last;
  again = standing_again version last;
  only = λ entry placed. (entry_spelling version).only entry placed.is;
}

-- the bytes of a file
abbrev IsContent : ℕ → List ℕ → List ℕ × List ℕ → Type 0
IsContent size bytes parts = (bytes ≡ (parts.0 ++ 10 ∷ []) ++ parts.1) × (length parts.0 ≡ size)

content_there : (size : ℕ) (bytes : List ℕ) → size < length bytes → get_or bytes size 0 ≡ 10
    → IsContent size bytes (take size bytes, drop (size + 1) bytes)
content_there size bytes long ends = (
  split_at bytes size 0 long
      ∙ rw (ends, add-one size, append_assoc (take size bytes) (10 ∷ []) (drop (suc size) bytes)) refl,
  length-take-le size bytes (omega arith),
)

content_takes : (size : ℕ) (bytes : List ℕ) (parts : List ℕ × List ℕ) → content_at size bytes ≡ Ok parts
    → IsContent size bytes parts
unfolding content_at
content_takes size bytes parts is =
    by (nat_le (length bytes) size) (get_or bytes size 0 == 10) (leb-false (length bytes) size)
    (eqb-true (get_or bytes size 0) 10) is
  where
    by : (short ends : Bool) → (short ≡ false → size < length bytes) → (ends ≡ true → get_or bytes size 0 ≡ 10)
        → cond short (Err Cut) (cond ends (done (take size bytes, drop (size + 1) bytes)) (Err Form)) ≡ done parts
        → IsContent size bytes parts
    by true ends long there is = absurd (cc)
    by false true long there is =
        let same : (take size bytes, drop (size + 1) bytes) ≡ parts = cc in
        subst (IsContent size bytes) same (content_there size bytes (long refl) (there refl))
    by false false long there is = absurd (cc)

content_again : (bytes rest : List ℕ) → content_at (length bytes) ((bytes ++ 10 ∷ []) ++ rest) ≡ Ok (bytes, rest)
unfolding content_at
content_again bytes rest =
    let joined = append_assoc bytes (10 ∷ []) rest in
    let size = length-append bytes (10 ∷ rest) in
    let long = lt-leb (length (bytes ++ 10 ∷ rest)) (length bytes) (omega arith) in
    rw (
      joined,
      long,
      get_or-append_seam bytes 10 rest 0,
      take-append_seam bytes (10 ∷ rest),
      drop-append-add bytes (10 ∷ rest) 1,
    ) refl

-- what is after a line
nothing_takes : (bytes : List ℕ) (parts : List ℕ × List ℕ) → done ([], bytes) ≡ done parts
    → (bytes ≡ parts.1) × (parts.0 ≡ [])
nothing_takes bytes parts is =
    let same : ([], bytes) ≡ parts = cc in
    (ap (λ (both : List ℕ × List ℕ). both.1) same, ap (λ (both : List ℕ × List ℕ). both.0) (sym same))

after_takes : (entry : Entry) (bytes : List ℕ) (parts : List ℕ × List ℕ) → after entry bytes ≡ Ok parts
    → (bytes ≡ content_text entry parts.0 ++ parts.1) × HasContent entry parts.0
after_takes (File version row size) bytes parts is = content_takes size bytes parts is
after_takes entry bytes parts is = nothing_takes bytes parts is

after_again : (entry : Entry) (bytes rest : List ℕ) → HasContent entry bytes
    → after entry (content_text entry bytes ++ rest) ≡ Ok (bytes, rest)
after_again (File version row size) bytes rest content =
    ap (λ size. content_at size ((bytes ++ 10 ∷ []) ++ rest)) (sym content) ∙ content_again bytes rest
after_again entry bytes rest content = ap (λ bytes. done (bytes, rest)) (sym content)

-- a fault or none
unless_takes : {A : Type 0} (fault : Option Kind) (value end : A) → unless fault value ≡ done end
    → (fault ≡ None) × (value ≡ end)
unless_takes None value end is = (refl, cc)
unless_takes (Some kind) value end is = absurd (cc)

-- a record that was read, and what is left
pub record IsRead (reading : Reading) (bytes : List ℕ) (part : (Entry × List ℕ) × List ℕ) : Type 0 where
  pub joined : bytes ≡ record_text part.0 ++ part.1
  pub stands : MayStand reading part.0

read_of : (reading : Reading) (bytes line : List ℕ) (entry : Entry) (parts : List ℕ × List ℕ)
    (part : (Entry × List ℕ) × List ℕ) → bytes ≡ line_text entry ++ 10 ∷ line → IsPlaced reading.version reading.last entry
    → (line ≡ content_text entry parts.0 ++ parts.1) × HasContent entry parts.0
    → (fault_of reading.state entry ≡ None) × (((entry, parts.0), parts.1) ≡ part) → IsRead reading bytes part
read_of reading bytes line entry parts part one placed two three =
    subst (IsRead reading bytes) three.1 (record {
      joined =
          one ∙ ap (λ line. line_text entry ++ 10 ∷ line) two.0
          ∙ sym (append_assoc (line_text entry) (10 ∷ content_text entry parts.0) parts.1);
      stands = record {
        shape = placed.is.shape;
        written = placed.is.written;
        place = placed.place;
        content = two.1;
        faultless = three.0;
      };
    })

after_record : (reading : Reading) (bytes : List ℕ) (part : (Entry × List ℕ) × List ℕ)
    → record_after reading bytes ≡ Ok part → IsRead reading bytes part
unfolding record_after
after_record reading bytes part is =
    by_part _ _ _ _ (standing_spelling reading.version reading.last) 10 Cut bytes _ part _ is λ entry line one placed is.
    let step = steps_of (after entry line) _ part is in
    let two = after_takes entry line step.value step.first in
    let three = unless_takes (fault_of reading.state entry) ((entry, step.value.0), step.value.1) part step.then in
    read_of reading bytes line entry step.value part one placed two three

-- what is read may be there
pub record_takes : (reading : Reading) (bytes : List ℕ) (part : (Entry × List ℕ) × List ℕ)
    → record_at reading bytes ≡ Ok part → IsRead reading bytes part
unfolding record_at
record_takes reading bytes part is =
    by (is_ended reading.last) (record_after reading bytes) (after_record reading bytes part) is
  where
    by : (ended : Bool) (read : Result ((Entry × List ℕ) × List ℕ) Kind)
        → (read ≡ Ok part → IsRead reading bytes part) → cond ended (Err Form) read ≡ Ok part
        → IsRead reading bytes part
    by true read after is = absurd (cc)
    by false read after is = after is

-- nothing may be after an end
not_ended : (last next : Tag) → may_follow last next ≡ true → is_ended last ≡ false
not_ended tags.End next place = absurd (false≢true place)
not_ended last next place = refl

again_after : (reading : Reading) (entry : Entry) (bytes rest : List ℕ) → MayStand reading (entry, bytes)
    → record_after reading (line_text entry ++ 10 ∷ (content_text entry bytes ++ rest)) ≡ Ok ((entry, bytes), rest)
unfolding record_after
again_after reading entry bytes rest stands =
    rw (
      part_again _ _ _ _ (standing_spelling reading.version reading.last) 10 Cut refl entry (content_text entry bytes ++ rest)
          (record { is = record { shape = stands.shape; written = stands.written }; place = stands.place }),
      after_again entry bytes rest stands.content,
      stands.faultless,
    ) refl

-- what may be there is read
pub record_again : (reading : Reading) (r : Entry × List ℕ) (rest : List ℕ) → MayStand reading r
    → record_at reading (record_text r ++ rest) ≡ Ok (r, rest)
unfolding record_at
record_again reading r rest stands =
    rw (
      append_assoc (line_text r.0) (10 ∷ content_text r.0 r.1) rest,
      not_ended reading.last (tag_of r.0) stands.place,
    ) (again_after reading r.0 r.1 rest stands)

-- a record takes a byte at least
pub record_shorter : (reading : Reading) (bytes : List ℕ) (part : (Entry × List ℕ) × List ℕ)
    → record_at reading bytes ≡ Ok part → length part.1 < length bytes
record_shorter reading bytes part is =
    let taken = record_takes reading bytes part is in
    omega (
      arith,
      ap length taken.joined,
      length-append (record_text part.0) part.1,
      length-append (line_text part.0.0) (10 ∷ content_text part.0.0 part.0.1),
    )
