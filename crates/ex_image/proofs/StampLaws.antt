-- How many generations a file keeps, when it was written and when it was last read, in either version: what is read was
-- written, and what is written is read.
-- The version is in the entry and in the reading, so what is said of records (Leads, Makes, IsRun) knows none.
-- Where versions differ lemmas go by cases.
use Rattle.std.proofs.Common.{◌≡◌, ℕ, ◌==◌, ◌^◌, true, not, ◌&&◌, List, ◌∷◌, ◌++◌, Option, None, Result, Ok, refl, ap, subst, sym, ◌∙◌, append_assoc, arith}
use Rattle.std.specs.Fmt.{decimal}
use Rattle.std.specs.List.{list_all}
use Rattle.std.specs.Option.{is_some}
use Rattle.std.proofs.lemmas.Bool.{and_from, and_parts, eqb-true, lt-ltb}
use Rattle.cm_lists.proofs.Options.{none_of_not_some}
use Rattle.cm_io.specs.declared.status.Kind.{Kind}
use Rattle.cm_io.specs.declared.status.Kind.TheVariants.{Form}
use Rattle.ex_image.specs.declared.version.Version.{Version}
use Rattle.ex_image.specs.declared.version.Version.TheVariants as versions
use Rattle.ex_image.specs.Fields.{◌>>=◌}
use Rattle.ex_image.specs.Grammar.{is_short, is_short_optional, is_stamp, is_told_in}
use Rattle.ex_image.specs.Lines.{first_stamp, second_stamp, stamp_at}
use Rattle.ex_image.specs.Record.{Stamp, optional_text, stamp_text}
use Rattle.ex_image.proofs.FieldLaws.{field_more, is_inside, number_spelling, within}
use Rattle.ex_image.proofs.FileLaws.{optional_spelling}
use Rattle.ex_image.proofs.Spellings.{by_part, done, part_again, steps_of}

-- what a stamp must be
pub record IsStampShape (version : Version) (stamp : Stamp) : Type 0 where
  pub told : is_told_in version stamp ≡ true
  pub keep : is_short stamp.keep ≡ true
  pub moment : is_short stamp.moment ≡ true
  pub read : is_short_optional stamp.read ≡ true

pub stamp_shape : (version : Version) (stamp : Stamp) → is_stamp version stamp ≡ true → IsStampShape version stamp
stamp_shape version stamp is =
    let read = and_parts _ _ is in
    let moment = and_parts _ _ read.0 in
    let keep = and_parts _ _ moment.0 in
    record { told = keep.0; keep = keep.1; moment = moment.1; read = read.1 }

pub stamp_shaped : (version : Version) (stamp : Stamp) → IsStampShape version stamp → is_stamp version stamp ≡ true
stamp_shaped version stamp shape =
    and_from _ _ (and_from _ _ (and_from _ _ shape.told shape.keep) shape.moment) shape.read

-- a stamp that was read, and what follows
record IsStampTaken (version : Version) (bytes : List ℕ) (part : Stamp × List ℕ) : Type 0 where
  joined : bytes ≡ stamp_text version part.0 ++ 32 ∷ part.1
  good : is_stamp version part.0 ≡ true

stamp_end : (version : Version) (bytes : List ℕ) (stamp : Stamp) (rest : List ℕ) (part : Stamp × List ℕ)
    → bytes ≡ stamp_text version stamp ++ 32 ∷ rest → is_stamp version stamp ≡ true
    → done (stamp, rest) ≡ done part → IsStampTaken version bytes part
stamp_end version bytes stamp rest part joined good is =
    let same : (stamp, rest) ≡ part = cc in
    subst (IsStampTaken version bytes) same (record { joined = joined; good = good })

-- three fields, and what follows
three_joined : (one two three rest : List ℕ)
    → one ++ 32 ∷ (two ++ 32 ∷ (three ++ 32 ∷ rest)) ≡ (one ++ 32 ∷ (two ++ 32 ∷ three)) ++ 32 ∷ rest
three_joined one two three rest =
    sym (append_assoc one (32 ∷ (two ++ 32 ∷ three)) (32 ∷ rest)
    ∙ ap (λ after. one ++ 32 ∷ after) (append_assoc two (32 ∷ three) (32 ∷ rest)))

stamp_takes : (version : Version) (bytes : List ℕ) (part : Stamp × List ℕ) → stamp_at version bytes ≡ Ok part
    → IsStampTaken version bytes part
unfolding first_stamp second_stamp
stamp_takes versions.One bytes part is =
    by_part _ _ _ _ number_spelling 32 Form bytes _ part _ is λ moment rest one short is.
    stamp_end versions.One bytes (record { keep = 0; moment = moment; read = None }) rest part one
    (stamp_shaped versions.One (record { keep = 0; moment = moment; read = None })
    (record { told = refl; keep = lt-ltb 0 (10 ^ 10) (omega arith); moment = short; read = refl }))
    is
stamp_takes versions.Two bytes part is =
    by_part _ _ _ _ number_spelling 32 Form bytes _ part _ is λ keep moments one few is.
    by_part _ _ _ _ number_spelling 32 Form moments _ part _ is λ moment reads two short is.
    by_part _ _ _ _ optional_spelling 32 Form reads _ part _ is λ read rest three late is.
    stamp_end versions.Two bytes (record { keep = keep; moment = moment; read = read }) rest part
    (rw (one, two, three) (three_joined (decimal keep) (decimal moment) (optional_text read) rest))
    (stamp_shaped versions.Two (record { keep = keep; moment = moment; read = read })
    (record { told = refl; keep = few; moment = short; read = late }))
    is

-- what holds after a stamp that was read, whatever it was, holds after the whole
pub by_stamp : {B : Type 0} (version : Version) (bytes : List ℕ) (next : Stamp × List ℕ → Result B Kind) (end : B)
    (P : Type 0) → (stamp_at version bytes >>= next) ≡ Ok end
    → ((stamp : Stamp) (rest : List ℕ) → bytes ≡ stamp_text version stamp ++ 32 ∷ rest → is_stamp version stamp ≡ true
    → next (stamp, rest) ≡ Ok end → P) → P
by_stamp version bytes next end P is later =
    let step = steps_of (stamp_at version bytes) next end is in
    let taken = stamp_takes version bytes step.value step.first in
    later step.value.0 step.value.1 taken.joined taken.good step.then

-- version 1 tells 0 and none
abbrev stamped : ℕ → ℕ → Option ℕ → Stamp
stamped keep moment read = record { keep = keep; moment = moment; read = read }

first_is : (keep moment : ℕ) (read : Option ℕ) (rest : List ℕ) → (keep == 0 && not (is_some read)) ≡ true
    → done {A = Stamp × List ℕ} (stamped 0 moment None, rest) ≡ done (stamped keep moment read, rest)
first_is keep moment read rest told =
    let both = and_parts (keep == 0) (not (is_some read)) told in
    rw (eqb-true keep 0 both.0, none_of_not_some read both.1) refl

pub stamp_again : (version : Version) (stamp : Stamp) (rest : List ℕ) → is_stamp version stamp ≡ true
    → stamp_at version (stamp_text version stamp ++ 32 ∷ rest) ≡ Ok (stamp, rest)
unfolding first_stamp second_stamp
stamp_again versions.One stamp rest good =
    let shape = stamp_shape versions.One stamp good in
    rw (part_again _ _ _ _ number_spelling 32 Form refl stamp.moment rest shape.moment)
    (first_is stamp.keep stamp.moment stamp.read rest shape.told)
stamp_again versions.Two stamp rest good =
    let shape = stamp_shape versions.Two stamp good in
    rw (
      ← three_joined (decimal stamp.keep) (decimal stamp.moment) (optional_text stamp.read) rest,
      part_again _ _ _ _ number_spelling 32 Form refl stamp.keep
          (decimal stamp.moment ++ 32 ∷ (optional_text stamp.read ++ 32 ∷ rest)) shape.keep,
      part_again _ _ _ _ number_spelling 32 Form refl stamp.moment (optional_text stamp.read ++ 32 ∷ rest)
          shape.moment,
      part_again _ _ _ _ optional_spelling 32 Form refl stamp.read rest shape.read,
    ) refl

pub stamp_only : (version : Version) (stamp : Stamp) → is_stamp version stamp ≡ true
    → list_all is_inside (stamp_text version stamp) ≡ true
stamp_only versions.One stamp good =
    within number_spelling stamp.moment (stamp_shape versions.One stamp good).moment
stamp_only versions.Two stamp good =
    let shape = stamp_shape versions.Two stamp good in
    field_more (decimal stamp.keep) _ (within number_spelling stamp.keep shape.keep)
    (field_more (decimal stamp.moment) (optional_text stamp.read) (within number_spelling stamp.moment shape.moment)
    (within optional_spelling stamp.read shape.read))
