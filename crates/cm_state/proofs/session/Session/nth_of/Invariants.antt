use Rattle.std.proofs.Common.{◌≡◌, drop}
use Rattle.std.specs.List.{slice_get}
use Rattle.cm_state.specs.Roles.{fields_of}
use Rattle.cm_state.proofs.session.Session.nth_of.Given as goal

-- so many more fields of this role are before the one that is sought
abbrev pub invariant-loop-at : goal.invariant-loop-at
invariant-loop-at l =
    slice_get (fields_of l.role (drop l.at l.self.fields)) l.left ≡ slice_get (fields_of l.role l.self.fields) l.number
