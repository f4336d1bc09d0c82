use Rattle.std.proofs.Common.{rules, arith, ◌≡◌, ℕ, List, ◌++◌, length, ap, sym, ◌∙◌}
use Rattle.std.proofs.lemmas.Grind.{common_steps}
use Rattle.cm_blocks.specs.KeptParse.{common}
use Rattle.cm_state.proofs.Fronts.{common_longer}
use Rattle.cm_state.proofs.session.Session.insert.Goals as goal

pub append-requires : goal.append-requires
append-requires g c = rw c.as_slice.ensures.value c.complete-insertion.ensures.text

pub returns-clause-front : goal.returns-clause-front
returns-clause-front g c =
    let same : c.append.new.self ≡ c.args.self.now.line ++ c.complete-insertion.result.bytes =
    grind (arith, common_steps) in
    let size : length c.bytes-front.result.now ≡ length c.args.self.now.line = search rules in
    size ∙ sym (common_longer c.args.self.now.line c.complete-insertion.result.bytes)
    ∙ ap (λ (now : List ℕ). common c.args.self.now.line now) (sym same)
