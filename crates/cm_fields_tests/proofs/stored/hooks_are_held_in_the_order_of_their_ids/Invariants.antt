use Rattle.std.proofs.Common.{◌+◌, ◌==◌, [], ◌∷◌, codes, if◌then◌else◌, length}
use Rattle.cm_hooks.specs.declared.answer.Answer.TheVariants.{Yes, No, NoBecause}
use Rattle.cm_hooks.specs.declared.answer.Tail.TheVariants as tails
use Rattle.cm_hooks.specs.FieldBytes.{name_bytes}
use Rattle.cm_hooks.specs.Meanings.{Meanings}
use Rattle.cm_hooks.specs.Ties.{Ties}
use Rattle.cm_fields_tests.proofs.stored.hooks_are_held_in_the_order_of_their_ids.Given as goal

-- the meanings of the sample
abbrev sample : Meanings
sample = record {
  bytes = λ id. name_bytes;
  names = λ id. [];
  verdict = λ id atom. if length atom == 3 then No
      else if length atom == 5 then NoBecause (record { number = 200; text = codes "Five bytes" })
      else Yes (length atom + id);
  completion = λ id atom. tails.Part (88 ∷ []);
  help = λ id. 88 ∷ [];
}

abbrev pub invariant-loop-id : goal.invariant-loop-id
invariant-loop-id g l = Ties sample l.hooks
