-- Copies that are put one after the other.
use Rattle.std.proofs.Common.{◌≡◌, ℕ, suc, ◌+◌, List, [], ◌++◌, refl, sym, ap, ◌∙◌, subst, arith}
use Rattle.cm_io.proofs.Texts.{writes_both, writes_none}
use Rattle.cm_io.specs.Writer.{Writes}
use Rattle.cm_io.specs.declared.sink.Sink.{Ghosts}
use Rattle.cm_io.specs.declared.writer.Writer.{Writer}
use Rattle.ex_store.specs.declared.queue.QueueEntry.{QueueEntry}
use Rattle.ex_spool.specs.Spool.{copies_text, copy_text}

-- no copy is nothing
none_is : (entry : QueueEntry) (bytes : List ℕ) → copies_text entry bytes 0 ≡ []
unfolding copies_text
none_is entry bytes = refl

-- one copy more has its pages at the end
more_is : (entry : QueueEntry) (bytes : List ℕ) (n : ℕ)
    → copies_text entry bytes (n + 1) ≡ copies_text entry bytes n ++ copy_text entry bytes (n + 1)
unfolding copies_text
more_is entry bytes n =
    let e : n + 1 ≡ suc n = omega arith in
    ap (λ (k : ℕ). copies_text entry bytes k) e ∙ ap (λ (k : ℕ). copies_text entry bytes n ++ copy_text entry bytes k) (sym e)

pub copies_none : {T : Type 0} (s : Ghosts T) (a : Writer T) (entry : QueueEntry) (bytes : List ℕ)
    → Writes s a a (copies_text entry bytes 0)
copies_none s a entry bytes = subst (λ (text : List ℕ). Writes s a a text) (sym (none_is entry bytes)) (writes_none s a)

pub copies_more : {T : Type 0} (s : Ghosts T) (a b c : Writer T) (entry : QueueEntry) (bytes : List ℕ) (n : ℕ)
    → Writes s b c (copy_text entry bytes (n + 1)) → Writes s a b (copies_text entry bytes n)
    → Writes s a c (copies_text entry bytes (n + 1))
copies_more s a b c entry bytes n late early =
    subst (λ (text : List ℕ). Writes s a c text) (sym (more_is entry bytes n))
    (writes_both s a b c (copies_text entry bytes n) (copy_text entry bytes (n + 1)) late early)
