use Rattle.cm_language.proofs.Languages.{place_is_where_a_line_may_be}
use Rattle.cm_language.proofs.laws.a_place_is_where_a_line_may_be.Goals as goal

pub returns : goal.returns
returns c = place_is_where_a_line_may_be
