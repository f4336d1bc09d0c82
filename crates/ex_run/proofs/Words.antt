-- What is known of a run by the words alone.
use Rattle.std.proofs.Common.{◌≡◌, Option, Some, sym, ap, ◌∙◌, subst}
use Rattle.cm_lists.proofs.Options.{one_some}
use Rattle.cm_io.specs.declared.status.Status.{Status}
use Rattle.ex_system.specs.Disk.{Disk}
use Rattle.ex_system.specs.Form.{Form}
use Rattle.ex_system.specs.Start.{Starts}
use Rattle.ex_run.specs.Course.{Course, Finishes, Follows, Heads, StartCause, logs}
use Rattle.ex_run.specs.Over.{Over}
use Rattle.ex_run.specs.Scene.{Scene, Telling}

module _ {S : Type 0} (known : Telling) (o : Over S) (asked : Option Form) (form : Form) (a b : Scene) (before now : Disk) (result : Status)
    (is : Some form ≡ asked) (course : Course known o form a b before now result) where
  pub heads : Heads known o asked a b before now result
  heads = record {
    unlogged = λ none. course.unlogged (ap (λ (it : Option Form). logs it) is ∙ none);
    cause = course.cause;
    host_cause = course.host_cause;
    start = subst (λ (it : Option Form). StartCause before it result) is course.start;
    follows = λ tells other start asks.
        let same = one_some asked form other is asks.0 in
        subst (λ (it : Form). Follows o it start a b before now result) same
        (course.follows tells start (subst (λ (it : Form). Starts before it.input start) (sym same) asks.1));
    finishes = λ tells other start asks.
        let same = one_some asked form other is asks.0 in
        subst (λ (it : Form). Finishes known o it start a b before now result) same
        (course.finishes tells start (subst (λ (it : Form). Starts before it.input start) (sym same) asks.1));
  }
