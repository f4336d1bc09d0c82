use Rattle.std.proofs.Common.{◌≡◌, ◌<◌, length, length-append, get_or, ap, sym, ◌∙◌, arith}
use Rattle.cm_lists.proofs.Elements.{get_or_of_some}
use Rattle.cm_lists.proofs.Quantifiers.{all_below_next, all_drop_next}
use Rattle.ex_store.specs.declared.row.Row.{Row}
use Rattle.ex_store.specs.Views.{row_of_view}
use Rattle.ex_store.proofs.ElementsLaws.{elements_more}
use Rattle.ex_store.proofs.ConcatenationLaws.{fits_within, concatenation_err, concatenation_more}
use Rattle.ex_store.proofs.append.concatenate.Goals as goal

pub returns-in-Err-clause-refused : goal.returns-in-Err-clause-refused
returns-in-Err-clause-refused c =
    let within : c.from.result < length c.args.files.now.rows = all_below_next _ c.args.positions.now c.loop-at.at-index c.from.result c.loop-at-test.true c.from.ensures c.loop-at.invariant.within in
    let size : c.len.result ≡ length c.loop-at.bytes.items = omega arith in
    sym c.loop-at.invariant.so_far
    ∙ concatenation_err c.loop-at.all c.len.result c.loop-at.bytes.items c.as_slice-more.result.now (get_or c.args.files.now.rows c.from.result (row_of_view c.row_at.result)) _ _ c.in-Err.code (elements_more c.args.files.now.rows c.args.positions.now c.loop-at.at-index c.from.result (row_of_view c.row_at.result) c.loop-at-test.true c.from.ensures within) (c.as_slice-more.ensures ∙ ap (λ (row : Row). row.file.bytes) (get_or_of_some c.args.files.now.rows c.from.result (row_of_view c.row_at.result) c.row_at.ensures)) size (sym c.fits.ensures ∙ c.in-Err.is)

pub loop-at-preserved : goal.loop-at-preserved
loop-at-preserved c =
    let within : c.from.result < length c.args.files.now.rows = all_below_next _ c.args.positions.now c.loop-at.at-index c.from.result c.loop-at-test.true c.from.ensures c.loop-at.invariant.within in
    let size : c.len.result ≡ length c.loop-at.bytes.items = omega arith in
    let fits = fits_within c.loop-at.all c.len.result (length c.as_slice-more.result.now) c.in-Ok.field-0 (sym c.fits.ensures ∙ c.in-Ok.is) in
    record {
      so_far = concatenation_more c.loop-at.all c.len.result c.loop-at.bytes.items c.as_slice-more.result.now c.extend_from_slice.new.self.items (get_or c.args.files.now.rows c.from.result (row_of_view c.row_at.result)) _ _ c.in-Ok.field-0 (elements_more c.args.files.now.rows c.args.positions.now c.loop-at.at-index c.from.result (row_of_view c.row_at.result) c.loop-at-test.true c.from.ensures within) (c.as_slice-more.ensures ∙ ap (λ (row : Row). row.file.bytes) (get_or_of_some c.args.files.now.rows c.from.result (row_of_view c.row_at.result) c.row_at.ensures)) size c.in-Ok-extend_from_slice.ensures.items (sym c.fits.ensures ∙ c.in-Ok.is) ∙ c.loop-at.invariant.so_far;
      within = all_drop_next _ c.args.positions.now c.loop-at.at-index 0 c.loop-at-test.true c.loop-at.invariant.within;
      small = fits.1;
      short = rw c.in-Ok-extend_from_slice.ensures.items (simp length-append (omega (arith, fits.0)));
    }
