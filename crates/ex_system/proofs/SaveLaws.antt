-- [save] What is saved is read again.
use Rattle.std.proofs.Common.{◌≡◌, ℕ, List, Option, Some, None, IsTrue, refl, sym, ◌∙◌, subst, arith}
use Rattle.cm_io.specs.declared.status.Status.{Status}
use Rattle.cm_io.specs.declared.status.Status.TheVariants as status
use Rattle.ex_image.specs.Grammar.{IsImage}
use Rattle.ex_image.specs.Image.{image_text}
use Rattle.ex_image.proofs.Sizes.{image_size}
use Rattle.ex_image.proofs.Versions.{written_read}
use Rattle.ex_store.specs.State.{State}
use Rattle.ex_store.specs.WellFormed.{IsWellFormed}
use Rattle.ex_system.specs.Disk.{Disk}
use Rattle.ex_system.specs.Saving.{Keeps, Saves}
use Rattle.ex_system.specs.Start.{HasImage}

-- where the host did not fail the image is there
kept : (image : List ℕ) (before now : Option (List ℕ)) (result : Status) → (result ≡ status.HostFault → ⊥) → Keeps image before now result
    → now ≡ Some image
kept image before now status.HostFault outcome keeps = absurd (outcome refl)
kept image before now result outcome keeps = keeps

-- the text of a state that is well formed is its image
has_text : (state : State) → IsWellFormed state → HasImage (Some (image_text state)) state
has_text state well =
    let image : IsImage (image_text state) state = (written_read state None (image_text state) well refl).0 in
    (omega (arith, image_size (image_text state) state image), image)

pub saved_image : (before now next : Disk) (out : List ℕ) (state : State) (result : Status) → Saves before now out state result
    → (result ≡ status.HostFault → ⊥) → IsTrue before.tells → next.files out ≡ now.files out → HasImage (next.files out) state
saved_image before now next out state result saves outcome tells same =
    subst (λ (file : Option (List ℕ)). HasImage file state)
    (sym (same ∙ kept (image_text state) (before.files out) (now.files out) result outcome (saves.file tells)))
    (has_text state saves.well)
