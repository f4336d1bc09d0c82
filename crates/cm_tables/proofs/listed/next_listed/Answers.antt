use Rattle.std.proofs.Common.{◌≡◌, ◌+◌, ap, arith, drop, rules, sym, ◌∙◌}
use Rattle.cm_tables.specs.Listing.{first_place}
use Rattle.cm_tables.proofs.StartLaws.{listed_in, listed_stop}
use Rattle.cm_tables.proofs.ListedEntries.{listed_of}
use Rattle.cm_tables.proofs.listed.next_listed.Goals as goal

pub loop-offset-init : goal.loop-offset-init
loop-offset-init c =
    let from = c.args.from in
    let first = c.from_first-first.result.0 in
    let rest = c.from_first-first.result.1.now in
    let is = c.from_first-first.ensures.first in
    let atom = c.args.atom.now in
    let here : from + first + 0 ≡ from + first = omega arith in
    let start : c.from-start.result ≡ from = cc in
    record {
      same =
          ap first_place
          (ap (λ place. listed_of place rest atom) here
          ∙ listed_in atom c.split_at.result.1.now first rest from is
          ∙ ap (λ rest. listed_of from rest atom)
          (c.split_at.ensures.back ∙ ap (λ size. drop size c.args.entries.now) start));
      above = is.above;
      ascends = is.ascends;
    }

pub returns-then-not-begins_with-clause-value : goal.returns-then-not-begins_with-clause-value
returns-then-not-begins_with-clause-value c =
    let loop = c.loop-offset in
    let entry = c.index-rest-offset in
    ap first_place
    (sym
    (listed_stop (c.args.from + c.from_first-first.result.0 + loop.offset) c.args.atom.now c.from_first-first.result.1.now
    loop.offset entry.result (omega arith) entry.is (search rules) loop.invariant.above loop.invariant.ascends))
    ∙ loop.invariant.same
