-- Where the records of bytes end.
-- Image to text goes by the tag of the last record, text to image by one induction (same_end).
use Rattle.std.proofs.Common.{◌≡◌, ◌⊎◌, ◌<◌, ◌≤◌, ◌-◌, inl, inr, ℕ, zero, suc, Bool, true, false, ◌&&◌, ◌==◌, List, [], ◌∷◌, ◌++◌, length, Result, Ok, Err, refl, ap, subst, sym, ◌∙◌, arith, append_assoc, length-append}
use Rattle.std.specs.List.{flat_map}
use Rattle.std.proofs.lemmas.Bool.{and_parts, false≢true}
use Rattle.std.proofs.lemmas.List.{append-nil}
use Rattle.cm_lists.proofs.Pieces.{nil_of_length}
use Rattle.ex_store.specs.State.{State}
use Rattle.cm_io.specs.declared.status.Kind.{Kind}
use Rattle.cm_io.specs.declared.status.Kind.TheVariants.{Form}
use Rattle.ex_image.specs.declared.tag.Tag.{Tag}
use Rattle.ex_image.specs.declared.tag.Tag.TheVariants as tags
use Rattle.ex_image.specs.declared.version.Version.{Version}
use Rattle.ex_image.specs.Grammar.{FirstBad, IsImage, IsImageIn, Leads, Makes, MayStand, state_in}
use Rattle.ex_image.specs.Reading.{Reading, is_ended, record_at, start, with_record}
use Rattle.ex_image.specs.Record.{Entry, record_text}
use Rattle.ex_image.proofs.Leads.{makes_more, makes_start}
use Rattle.ex_image.proofs.RecordLaws.{record_again, record_shorter}
use Rattle.ex_image.proofs.Spellings.{done}

-- no record is read here
pub record IsStuck (reading : Reading) (rest : List ℕ) : Type 0 where
  pub kind : Kind
  pub is : record_at reading rest ≡ Err kind

-- so after an end
ended_stuck : (reading : Reading) (rest : List ℕ) → is_ended reading.last ≡ true → IsStuck reading rest
unfolding record_at
ended_stuck reading rest ended = record { kind = Form; is = rw ended refl }

not_stuck : (reading : Reading) (next : Entry × List ℕ) (more : List (Entry × List ℕ)) (end to : Reading)
    (rest left : List ℕ) → end ≡ reading → Leads reading (next ∷ more) to
    → rest ≡ flat_map record_text (next ∷ more) ++ left → IsStuck end rest → ⊥
not_stuck reading next more end to rest left same leads text stuck =
    let again = record_again reading next (flat_map record_text more ++ left) leads.0 in
    let joined = append_assoc (record_text next) (flat_map record_text more) left in
    let here : record_at end rest ≡ Ok (next, flat_map record_text more ++ left) = rw (same, text, joined) again in
    let fault = stuck.is in
    absurd (cc)

-- one record is read of one text
one_record : (from : Reading) (next other : Entry × List ℕ) (rest left : List ℕ) → MayStand from next
    → MayStand from other → record_text next ++ rest ≡ record_text other ++ left → (next ≡ other) × (rest ≡ left)
one_record from next other rest left first second same =
    let here = record_again from next rest first in
    let there = record_again from other left second in
    let read : done (next, rest) ≡ done (other, left) =
    sym here ∙ ap (λ bytes. record_at from bytes) same ∙ there in
    let both : (next, rest) ≡ (other, left) = cc in (
      ap (λ (part : (Entry × List ℕ) × List ℕ). part.0) both,
      ap (λ (part : (Entry × List ℕ) × List ℕ). part.1) both,
    )

two_joined : (next other : Entry × List ℕ) (records others : List (Entry × List ℕ)) (rest left : List ℕ)
    → flat_map record_text (next ∷ records) ++ rest ≡ flat_map record_text (other ∷ others) ++ left
    → record_text next ++ (flat_map record_text records ++ rest)
    ≡ record_text other ++ (flat_map record_text others ++ left)
two_joined next other records others rest left same =
    sym (append_assoc (record_text next) (flat_map record_text records) rest)
    ∙ same ∙ append_assoc (record_text other) (flat_map record_text others) left

-- records from one place, in one text, end at one place
pub same_end : (from one two : Reading) (records others : List (Entry × List ℕ)) (rest left : List ℕ)
    → Leads from records one → Leads from others two
    → flat_map record_text records ++ rest ≡ flat_map record_text others ++ left
    → IsStuck one rest → IsStuck two left → (one ≡ two) × (rest ≡ left)
same_end from one two [] [] rest left first second same stuck ends = (first ∙ sym second, same)
same_end from one two [] (next ∷ others) rest left first second same stuck ends =
    absurd (not_stuck from next others one two rest left first second same stuck)
same_end from one two (next ∷ records) [] rest left first second same stuck ends =
    absurd (not_stuck from next records two one left rest second first (sym same) ends)
same_end from one two (next ∷ records) (other ∷ others) rest left first second same stuck ends =
    let one_first =
    one_record from next other (flat_map record_text records ++ rest) (flat_map record_text others ++ left)
    first.0 second.0 (two_joined next other records others rest left same) in
    same_end (with_record from next) one two records others rest left first.1
    (subst (λ at. Leads (with_record from at) others two) (sym one_first.0) second.1) one_first.1 stuck ends

-- what was read of bytes up to where no record is read
pub one_end : (bytes : List ℕ) (one two : Reading) (rest left : List ℕ) → Makes bytes one rest → Makes bytes two left
    → IsStuck one rest → IsStuck two left → (one ≡ two) × (rest ≡ left)
unfolding Makes
one_end bytes one two rest left first second stuck ends =
    same_end start one two first.0 second.0 rest left first.1 second.1 (sym first.2 ∙ second.2) stuck ends

-- the end of an image
abbrev pub whole : Version → State → Reading
whole version state = record { version = version; last = tags.End; state = state }

image_made : (version : Version) (bytes : List ℕ) (state : State) → IsImageIn version bytes state
    → Makes bytes (whole version state) []
unfolding IsImageIn
image_made version bytes state image = image

none_after : (version other : Version) (bytes more : List ℕ) (first second : State) → IsImageIn version bytes first
    → IsImageIn other (bytes ++ more) second → more ≡ []
unfolding IsImageIn Makes
none_after version other bytes more first second image longer =
    (same_end start (whole version first) (whole other second) image.0 longer.0 more [] image.1 longer.1
    (ap (λ bytes. bytes ++ more) (sym (append-nil (flat_map record_text image.0)) ∙ sym image.2) ∙ longer.2)
    (ended_stuck (whole version first) more refl) (ended_stuck (whole other second) [] refl)).1

-- after an image nothing may stand
pub nothing_after : (bytes more : List ℕ) (state other : State) → IsImage bytes state → IsImage (bytes ++ more) other
    → more ≡ []
unfolding IsImage
nothing_after bytes more state other image longer =
    none_after image.0 longer.0 bytes more image.1 longer.1 image.2 longer.2

-- what was read of an image of a state
state_of : Reading → State
state_of reading = state_in reading.version reading.state

pub one_state : (bytes : List ℕ) (state other : State) → IsImage bytes state → IsImage bytes other → state ≡ other
unfolding IsImage state_of
one_state bytes state other image second =
    let same =
    one_end bytes (whole image.0 image.1) (whole second.0 second.1) [] [] (image_made image.0 bytes image.1 image.2)
    (image_made second.0 bytes second.1 second.2)
    (ended_stuck (whole image.0 image.1) [] refl) (ended_stuck (whole second.0 second.1) [] refl) in
    image.3 ∙ (ap state_of same.0 ∙ sym second.3)

bad_stuck : (bytes : List ℕ) (place : ℕ) (kind : Kind) (bad : FirstBad bytes place kind) → IsStuck bad.reading bad.rest
bad_stuck bytes place kind bad = record { kind = kind; is = bad.bad }

at_end : (version : Version) (state : State) (reading : Reading) (rest : List ℕ) → whole version state ≡ reading
    → [] ≡ rest → (is_ended reading.last && length rest == 0) ≡ false → ⊥
at_end version state reading rest same none goes = false≢true (sym goes ∙ rw (← same, ← none) refl)

-- an image goes wrong nowhere
pub never_bad : (bytes : List ℕ) (state : State) (place : ℕ) (kind : Kind) → IsImage bytes state
    → FirstBad bytes place kind → ⊥
unfolding IsImage
never_bad bytes state place kind image bad =
    let same =
    one_end bytes (whole image.0 image.1) bad.reading [] bad.rest (image_made image.0 bytes image.1 image.2) bad.made
    (ended_stuck (whole image.0 image.1) [] refl) (bad_stuck bytes place kind bad) in
    at_end image.0 image.1 bad.reading bad.rest same.0 same.1 bad.goes_on

same_fault : (one two : Reading) (rest left : List ℕ) (kind fault : Kind) → one ≡ two → rest ≡ left
    → record_at one rest ≡ Err kind → record_at two left ≡ Err fault → kind ≡ fault
same_fault one two rest left kind fault same after first second = cc

-- bytes go wrong at one place
pub one_bad : (bytes : List ℕ) (place other : ℕ) (kind fault : Kind) → FirstBad bytes place kind
    → FirstBad bytes other fault → (place ≡ other) × (kind ≡ fault)
one_bad bytes place other kind fault first second =
    let same =
    one_end bytes first.reading second.reading first.rest second.rest first.made second.made
    (bad_stuck bytes place kind first) (bad_stuck bytes other fault second) in
    let size = ap length same.1 in
    let here = first.placed in
    let there = second.placed in (
      omega arith,
      same_fault first.reading second.reading first.rest second.rest kind fault same.0 same.1 first.bad second.bad,
    )

-- an image, or a place where the bytes go wrong
abbrev pub Judged : List ℕ → Type 0
Judged bytes = ((state : State) × IsImage bytes state) ⊎ ((place : ℕ) × (kind : Kind) × FirstBad bytes place kind)

reading_at : Version → State → Tag → Reading
reading_at version state last = record { version = version; last = last; state = state }

ended_is : (last : Tag) → is_ended last ≡ true → last ≡ tags.End
ended_is tags.End ended = refl
ended_is last ended = absurd (false≢true ended)

-- an image ends where all of it is read
pub whole_here : (bytes : List ℕ) (reading : Reading) (rest : List ℕ) → Makes bytes reading rest
    → (is_ended reading.last && length rest == 0) ≡ true → IsImageIn reading.version bytes reading.state
unfolding IsImageIn reading_at
whole_here bytes reading rest made ends =
    let both = and_parts (is_ended reading.last) (length rest == 0) ends in
    let last = ended_is reading.last both.0 in
    subst (λ at. Makes bytes at []) (ap (reading_at reading.version reading.state) last)
    (subst (λ left. Makes bytes reading left) (nil_of_length rest both.1) made)

pub image_here : (bytes : List ℕ) (version : Version) (said : State) → IsImageIn version bytes said
    → IsImage bytes (state_in version said)
unfolding IsImage
image_here bytes version said image = (version, said, image, refl)

after_size : (bytes : List ℕ) (reading : Reading) (rest : List ℕ) → Makes bytes reading rest
    → length rest ≤ length bytes
unfolding Makes
after_size bytes reading rest made =
    omega (arith, ap length made.2, length-append (flat_map record_text made.0) rest)

-- bytes go wrong where no record is read, and more are wanted
pub bad_here : (bytes : List ℕ) (reading : Reading) (rest : List ℕ) (kind : Kind) → Makes bytes reading rest
    → (is_ended reading.last && length rest == 0) ≡ false → record_at reading rest ≡ Err kind
    → FirstBad bytes (length bytes - length rest) kind
bad_here bytes reading rest kind made goes bad = record {
  reading = reading;
  rest = rest;
  made = made;
  placed = let most = after_size bytes reading rest made in omega arith;
  goes_on = goes;
  bad = bad;
}

judged_from : (room : ℕ) (bytes : List ℕ) (reading : Reading) (rest : List ℕ) → length rest < room
    → Makes bytes reading rest → Judged bytes
judged_from zero bytes reading rest less made = absurd (none (length rest) less)
  where
    none : (n : ℕ) → n < 0 → ⊥
    none n less = omega arith
judged_from (suc room) bytes reading rest less made =
    by (is_ended reading.last && length rest == 0) refl (record_at reading rest) refl (judged_from room bytes)
  where
    by : (ends : Bool) → (is_ended reading.last && length rest == 0) ≡ ends
        → (read : Result ((Entry × List ℕ) × List ℕ) Kind) → record_at reading rest ≡ read
        → ((next : Reading) (left : List ℕ) → length left < room → Makes bytes next left → Judged bytes) → Judged bytes
    by true ends read is later = inl (
      state_in reading.version reading.state,
      image_here bytes reading.version reading.state (whole_here bytes reading rest made ends),
    )
    by false ends (Ok part) is later =
        let shorter = record_shorter reading rest part is in
        later (with_record reading part.0) part.1 (omega arith) (makes_more bytes reading rest part made is)
    by false ends (Err kind) is later =
        inr (length bytes - length rest, kind, bad_here bytes reading rest kind made ends is)

-- bytes are an image, or go wrong somewhere
pub judged : (bytes : List ℕ) → Judged bytes
judged bytes = judged_from (suc (length bytes)) bytes start bytes (omega arith) (makes_start bytes)
