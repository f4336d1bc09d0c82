-- What decides a trial, and what an accepted field reaches.
use Rattle.std.proofs.Common.{◌≡◌, ℕ, ◌+◌, ◌<◌, ◌≤◌, Bool, true, false, if◌then◌else◌, List, [], ◌++◌, length, subst, arith, append-nil}
use Rattle.cm_fields.specs.declared.value.Value.{Value}
use Rattle.cm_fields.specs.declared.trial.Try.{Try}
use Rattle.cm_fields.specs.declared.trial.Try.TheVariants.{Accept, Refuse, More}
use Rattle.cm_fields.specs.Local.{Holds, IsLocal, IsSeen, Stays}

-- a decision looks at more bytes than so many
abbrev pub LooksBeyond : ℕ → Try → Type 0
LooksBeyond size (Accept value looked end) = size < looked
LooksBeyond size (Refuse code looked) = size < looked
LooksBeyond size More = Unit {0}

pub holds_beyond : (size : ℕ) (first later : Try) → LooksBeyond size first → Holds size first later
holds_beyond size (Accept value looked end) later beyond = λ seen. absurd (omega arith)
holds_beyond size (Refuse code looked) later beyond = λ seen. absurd (omega arith)
holds_beyond size More later beyond = tt

pub holds_same : (size : ℕ) (first later : Try) → later ≡ first → Holds size first later
holds_same size (Accept value looked end) later same = λ seen. same
holds_same size (Refuse code looked) later same = λ seen. same
holds_same size More later same = tt

pub holds_both : (size : ℕ) (test : Bool) (t u t' u' : Try) → Holds size t t' → Holds size u u'
    → Holds size (if test then t else u) (if test then t' else u')
holds_both size true t u t' u' first second = first
holds_both size false t u t' u' first second = second

stays_seen : (size : ℕ) (first later : Try) → Holds size first later → IsSeen size first → Stays first later
stays_seen size (Accept value looked end) later holds seen = holds seen
stays_seen size (Refuse code looked) later holds seen = holds seen
stays_seen size More later holds seen = tt

-- a trial is local where the first bytes decide alike and no decision looks further than the text
pub is_local : (trial : List ℕ → ℕ → Try)
    → ((front more other : List ℕ) (at : ℕ) → Holds (length front) (trial (front ++ more) at) (trial (front ++ other) at))
    → ((rest : List ℕ) (at : ℕ) → IsSeen (length rest) (trial rest at)) → IsLocal trial
is_local trial decided seen = record {
  decided = decided;
  seen = seen;
  stays = λ rest more at.
      let holds = subst (λ (text : List ℕ). Holds (length rest) (trial text at) (trial (rest ++ more) at)) (append-nil rest) (decided rest [] more at) in
      stays_seen (length rest) (trial rest at) (trial (rest ++ more) at) holds (seen rest at);
}

-- where an accepted field from a place of a text of so many bytes ends, and how far the trial looked
pub record Reaches (at most looked end : ℕ) : Type 0 where
  pub some : 1 ≤ looked
  pub begins : at ≤ end
  pub seen : end ≤ at + looked
  pub within : end ≤ at + most

-- the same of a trial, where it accepts
abbrev pub ReachesIfAccept : ℕ → ℕ → Try → Type 0
ReachesIfAccept at most (Accept value looked end) = Reaches at most looked end
ReachesIfAccept at most (Refuse code looked) = Unit {0}
ReachesIfAccept at most More = Unit {0}

pub reaches_accepted : (at most : ℕ) (tried : Try) (value : Value) (looked end : ℕ) → ReachesIfAccept at most tried
    → tried ≡ Accept value looked end → Reaches at most looked end
reaches_accepted at most tried value looked end reached is = subst (ReachesIfAccept at most) is reached
