use Rattle.std.proofs.Common.{◌≡◌, ap, refl, rules, tests, ◌∙◌}
use Rattle.std.specs.Char.{to_ascii_lowercase}
use Rattle.std.specs.Iterator.Adapters.{map_callee, map_source}
use Rattle.std.specs.Ordering.{nat_cmp}
use Rattle.std.proofs.lemmas.Iterator.{YieldsList-from_map, YieldsList-from_slice}
use Rattle.std.proofs.lemmas.Iterator.Consumers.{YieldsList-at}
use Rattle.std.proofs.lemmas.Iterator.Search.{cmp_from_yields_List}
use Rattle.cm_graph.proofs.table.text_order.Goals as goal

pub returns : goal.returns
returns c =
    cmp_from_yields_List (λ other it. it ≡ other) c.map.result nat_cmp _ c.cmp.ensures.ran
    (YieldsList-from_map _ to_ascii_lowercase
    (YieldsList-at c.map-letters.ensures.source (YieldsList-from_slice c.args.text.now (cc)))
    c.map-letters.ensures.closure (λ x r q k. search (rules, tests)))
    (λ it becomes.
    YieldsList-from_map _ to_ascii_lowercase
    (YieldsList-at (ap map_source becomes ∙ c.map.ensures.source) (YieldsList-from_slice c.args.other.now (cc)))
    (ap map_callee becomes ∙ c.map.ensures.closure) (λ x r q k. search (rules, tests)))
    (λ x y. refl)
