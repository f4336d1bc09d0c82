-- Pieces that are appended to the open file of a host, one after the other.
-- A private trait over all hosts (Target) has one ghost member, and its method ensures one record, Appends
-- (appends_both, appends_early).
use Rattle.std.proofs.Common.{◌≡◌, ℕ, Bool, List, ◌++◌, Option, Some, None, refl, sym, ap, subst, ◌∙◌, arith, append_assoc}
use Rattle.std.specs.Option.{option_map}
use Rattle.cm_io.specs.Host.{Writes}
use Rattle.cm_io.specs.declared.sink.Put.{Put}
use Rattle.cm_io.specs.declared.sink.Put.TheVariants.{Done, Failed}
use Rattle.cm_io.proofs.Additions.{cause_both}
use Rattle.ex_image.specs.Writing.{Appends, Outside}

-- what is appended to a file, if it is there
abbrev longer : Option (List ℕ) → List ℕ → Option (List ℕ)
longer file bytes = option_map (λ content. content ++ bytes) file

longer_both : (file : Option (List ℕ)) (first second : List ℕ) → longer (longer file first) second ≡ longer file (first ++ second)
longer_both None first second = refl
longer_both (Some content) first second = ap Some (append_assoc content first second)

-- the second piece is written after the first
writes_both : (before middle now : Option (List ℕ)) (first second : List ℕ) (result : Put)
    → middle ≡ longer before first → Writes middle now second result → Writes before now (first ++ second) result
writes_both before middle now first second Done wrote writes =
    writes ∙ ap (λ file. longer file second) wrote ∙ longer_both before first second
writes_both before middle now first second Failed wrote writes = record {
  part = first ++ writes.part;
  is_part = record {
    rest = writes.is_part.rest;
    joined = append_assoc first writes.part writes.is_part.rest ∙ ap (λ bytes. first ++ bytes) writes.is_part.joined;
  };
  appended = writes.appended ∙ ap (λ file. longer file writes.part) wrote ∙ longer_both before first writes.part;
}

-- a second piece is appended after the first
pub appends_both : (tells : Bool) (before middle now : Outside) (first second : List ℕ) (result : Put)
    → Appends tells before middle first Done → Appends tells middle now second result
    → Appends tells before now (first ++ second) result
appends_both tells before middle now first second result one two = record {
  stays_open = two.stays_open;
  target = λ told. two.target told ∙ one.target told;
  file = λ told.
      writes_both (before.files before.target) (middle.files before.target) (now.files before.target) first second result
      (one.file told)
      (subst (λ target. Writes (middle.files target) (now.files target) second result) (one.target told) (two.file told));
  others = λ told other differs.
      two.others told other (λ same. differs (same ∙ one.target told)) ∙ one.others told other differs;
  loads = two.loads ∙ one.loads;
  creates = two.creates ∙ one.creates;
  later = omega arith;
  cause = cause_both before.faults middle.faults now.faults result one.cause two.cause;
}

-- where a part of the first piece is appended, a part of both is
pub appends_early : (tells : Bool) (before now : Outside) (first second : List ℕ)
    → Appends tells before now first Failed → Appends tells before now (first ++ second) Failed
appends_early tells before now first second one = record {
  stays_open = one.stays_open;
  target = one.target;
  file = λ told. record {
    part = (one.file told).part;
    is_part = record {
      rest = (one.file told).is_part.rest ++ second;
      joined =
          sym (append_assoc (one.file told).part (one.file told).is_part.rest second)
          ∙ ap (λ bytes. bytes ++ second) (one.file told).is_part.joined;
    };
    appended = (one.file told).appended;
  };
  others = one.others;
  loads = one.loads;
  creates = one.creates;
  later = one.later;
  cause = one.cause;
}

-- both pieces are appended, or a part of the first, or the first and a part of the second
pub ruleset pieces = (appends_both, appends_early)
