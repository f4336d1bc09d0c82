use Rattle.std.proofs.Common.{◌≡◌, ℕ, ◌+◌, ◌<◌, List, ◌∷◌, drop, get_or, length, map, set, true, false, refl, sym, ap, ◌∙◌, arith}
use Rattle.std.proofs.lemmas.List.{drop-set-lt, drop_more, get_or_default}
use Rattle.std.proofs.lemmas.Grind.{common_steps}
use Rattle.cm_lists.proofs.Elements.{set_map_more}
use Rattle.cm_lists.specs.Ascent.{ascends}
use Rattle.ex_generations.specs.Generations.{marked, pages}
use Rattle.ex_store.specs.declared.family.Family.{Family}
use Rattle.ex_store.specs.Families.{by_family, is_under_directory, rooms_of, rows_of}
use Rattle.ex_store.specs.Rows.{pages_marked}
use Rattle.ex_store.proofs.SweepLaws.{ascends_swept, rooms_swept, pages_other, pages_own, pages_within, rows_swept, swept}
use Rattle.ex_store.proofs.sweep.drop_marked.Goals as goal

-- what is left after a turn
left_is : (families : List Family) (i : ℕ) (item new : Family) → i < length families → item ≡ get_or families i item
    → (directory : List ℕ) (more : ℕ) → (pages_marked directory (rows_of (item ∷ drop (i + 1) families)) ≡ more + pages_marked directory (rows_of (drop (i + 1) families)))
    → pages_marked directory (rows_of (drop i families)) ≡ more + pages_marked directory (rows_of (drop (i + 1) (set families i new)))
left_is families i item new within is directory more first =
    ap (λ (it : List Family). pages_marked directory (rows_of it))
    (drop_more families i item within ∙ ap (λ (it : Family). it ∷ drop (i + 1) families) (sym is))
    ∙ first
    ∙ ap (λ (it : List Family). more + pages_marked directory (rows_of it)) (sym (drop-set-lt (i + 1) families i new (omega arith)))

pub loop-family-preserved-then-not-is_in : goal.loop-family-preserved-then-not-is_in
loop-family-preserved-then-not-is_in c =
    let within : c.loop-family.family-index < length c.loop-family.families = omega (arith, c.loop-family-test.true, c.loop-family.auto.families) in
    let item = get_or c.loop-family.families c.loop-family.family-index c.family-item.result in
    let apart : is_under_directory c.args.directory.now item ≡ false = sym c.is_in.ensures ∙ c.if-not-is_in.true in
    let there : item ≡ get_or c.loop-family.families c.loop-family.family-index item = get_or_default c.loop-family.families c.loop-family.family-index c.family-item.result item within in
    let none : pages_marked c.args.directory.now (rows_of (item ∷ drop (c.loop-family.family-index + 1) c.loop-family.families)) ≡ 0 + pages_marked c.args.directory.now (rows_of (drop (c.loop-family.family-index + 1) c.loop-family.families)) =
    pages_other c.args.directory.now item (drop (c.loop-family.family-index + 1) c.loop-family.families) apart ∙ omega arith in
    let left = left_is c.loop-family.families c.loop-family.family-index item item within there c.args.directory.now 0 none in
    record {
      swept_are = set_map_more (swept c.args.directory.now) c.loop-family.families (map (swept c.args.directory.now) c.args.families.now) c.loop-family.family-index item item
          within there (sym (rw apart refl)) c.loop-family.invariant.swept_are;
      counted = omega (arith, left, c.loop-family.invariant.counted);
    }

pub overflow_add-pages : goal.overflow_add-pages
overflow_add-pages c =
    let within : c.loop-family.family-index < length c.loop-family.families = omega (arith, c.loop-family-test.true, c.loop-family.auto.families) in
    let item = get_or c.loop-family.families c.loop-family.family-index c.family-item.result in
    let own : is_under_directory c.args.directory.now item ≡ true = sym c.is_in.ensures ∙ c.if-not-is_in.false in
    let there : item ≡ get_or c.loop-family.families c.loop-family.family-index item = get_or_default c.loop-family.families c.loop-family.family-index c.family-item.result item within in
    let left = left_is c.loop-family.families c.loop-family.family-index item item within there c.args.directory.now (pages (marked item.gens.files))
    (pages_own c.args.directory.now item (drop (c.loop-family.family-index + 1) c.loop-family.families) own) in
    let most = pages_within c.args.directory.now (rows_of c.args.families.now) c.requires.short in
    omega (arith, left, most, c.requires.few, c.expunge-pages.ensures.pages, c.loop-family.invariant.counted)

pub loop-family-preserved : goal.loop-family-preserved
loop-family-preserved c =
    let within : c.loop-family.family-index < length c.loop-family.families = omega (arith, c.loop-family-test.true, c.loop-family.auto.families) in
    let item = get_or c.loop-family.families c.loop-family.family-index c.family-item.result in
    let new : Family = c.expunge-pages.new.self in
    let own : is_under_directory c.args.directory.now item ≡ true = sym c.is_in.ensures ∙ c.if-not-is_in.false in
    let there : item ≡ get_or c.loop-family.families c.loop-family.family-index item = get_or_default c.loop-family.families c.loop-family.family-index c.family-item.result item within in
    let left = left_is c.loop-family.families c.loop-family.family-index item new within there c.args.directory.now (pages (marked item.gens.files))
    (pages_own c.args.directory.now item (drop (c.loop-family.family-index + 1) c.loop-family.families) own) in
    record {
      swept_are = set_map_more (swept c.args.directory.now) c.loop-family.families (map (swept c.args.directory.now) c.args.families.now) c.loop-family.family-index item new
          within there (c.expunge-pages.ensures.kept ∙ sym (rw own refl)) c.loop-family.invariant.swept_are;
      counted = omega (arith, left, c.expunge-pages.ensures.pages, c.loop-family.invariant.counted);
    }

pub returns-clause-rows : goal.returns-clause-rows
returns-clause-rows c =
    let all : c.loop-family.families ≡ map (swept c.args.directory.now) c.args.families.now = grind (arith, common_steps) in
    ap rows_of all ∙ rows_swept c.args.directory.now c.args.families.now

pub returns-clause-ascend : goal.returns-clause-ascend
returns-clause-ascend c =
    let all : c.loop-family.families ≡ map (swept c.args.directory.now) c.args.families.now = grind (arith, common_steps) in
    ap (ascends by_family) all ∙ ascends_swept c.args.directory.now c.args.families.now c.requires.families

pub returns-clause-rooms : goal.returns-clause-rooms
returns-clause-rooms c =
    let all : c.loop-family.families ≡ map (swept c.args.directory.now) c.args.families.now = grind (arith, common_steps) in
    ap rooms_of all ∙ rooms_swept c.args.directory.now c.args.families.now
