use Rattle.std.proofs.Common.{◌≡◌, ℕ, [], ap, arith, drop, length, map, rules, sym, unwrap_or, ◌∙◌}
use Rattle.std.specs.List.{reduce}
use Rattle.std.specs.Option.{option_copied}
use Rattle.cm_tables.specs.Common.{common, shared_letters}
use Rattle.cm_tables.specs.declared.entry.Entry.{Entry}
use Rattle.cm_tables.proofs.CommonLemmas.{rests_from, sharing}
use Rattle.cm_tables.proofs.StartLaws.{candidates_stop, rests_in}
use Rattle.cm_tables.proofs.common.common_text.Goals as goal

pub loop-entry-init : goal.loop-entry-init
loop-entry-init c =
    let is = c.from_first.ensures.first in
    record {
      same = ap (reduce shared_letters) (rests_in c.args.atom.now c.args.entries.now _ c.from_first.result.1.now is);
      short = tt;
      above = is.above;
      ascends = is.ascends;
    }

pub returns-then-not-begins_with-clause-value : goal.returns-then-not-begins_with-clause-value
unfolding common
returns-then-not-begins_with-clause-value c =
    let loop = c.loop-entry in
    let entry = c.entry-item in
    let atom = c.args.atom.now in
    let found = option_copied loop.found in
    let ends : c.unwrap_or.result.now ≡ unwrap_or (sharing found []) [] = search rules in
    let none = candidates_stop loop.entry-index atom c.from_first.result.1.now loop.entry-index entry.result (omega arith)
    entry.is (search rules) loop.invariant.above loop.invariant.ascends in
    let rests_none : rests_from loop.entry-index (drop loop.entry-index c.from_first.result.1.now) atom ≡ [] =
    ap (map (λ (e : ℕ × Entry). drop (length atom) e.1.text)) none in
    ends ∙ ap (λ shared. unwrap_or shared []) (ap (sharing found) (sym rests_none) ∙ loop.invariant.same)
