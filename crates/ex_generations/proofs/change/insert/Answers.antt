use Rattle.std.proofs.Common.{◌≡◌, insert, sym, subst, ap, ◌∙◌}
use Rattle.std.proofs.lemmas.List.Sums.{prefix_len-le-length}
use Rattle.ex_generations.specs.Generations.{IsAscending, inserted}
use Rattle.ex_generations.proofs.Places.{IsAscending-inserted, IsNew, inserted_at, place_of}
use Rattle.ex_generations.proofs.change.insert.Goals as goal

pub put_at-requires-clause-within : goal.put_at-requires-clause-within
put_at-requires-clause-within c =
    rw (c.place-at.ensures.place, c.deref.ensures.value) (prefix_len-le-length _ c.args.files.now.items)

pub returns-clause-items : goal.returns-clause-items
returns-clause-items c =
    let new : IsNew c.args.file c.args.files.now.items = record { short = c.requires.short; within = c.requires.to_limit; absent = c.requires.absent } in
    let place : c.place-at.result ≡ place_of c.args.file c.args.files.now.items = rw (c.place-at.ensures.place, c.deref.ensures.value) in
    c.put_at.ensures.items ∙ (ap (λ at. insert c.args.files.now.items at c.args.file) place ∙ sym (inserted_at c.args.file c.args.files.now.items 0 new c.requires.ascending))

pub returns-clause-ascending : goal.returns-clause-ascending
returns-clause-ascending c =
    let new : IsNew c.args.file c.args.files.now.items = record { short = c.requires.short; within = c.requires.to_limit; absent = c.requires.absent } in
    let place : c.place-at.result ≡ place_of c.args.file c.args.files.now.items = rw (c.place-at.ensures.place, c.deref.ensures.value) in
    let items : c.put_at.new.files.items ≡ inserted c.args.file c.args.files.now.items = c.put_at.ensures.items ∙ (ap (λ at. insert c.args.files.now.items at c.args.file) place ∙ sym (inserted_at c.args.file c.args.files.now.items 0 new c.requires.ascending)) in
    subst (IsAscending 0) (sym items) (IsAscending-inserted c.args.file c.args.files.now.items 0 c.requires.from_one new c.requires.ascending)
