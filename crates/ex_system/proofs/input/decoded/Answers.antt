use Rattle.std.proofs.Common.{Err, subst}
use Rattle.ex_image.specs.declared.fault.ImageFault.{ImageFault}
use Rattle.ex_image.specs.Decoding.{IsBadAt, IsStore}
use Rattle.ex_system.proofs.Starts.{goes_wrong}
use Rattle.ex_system.proofs.input.decoded.Goals as goal

pub returns-in-Err-Bad-clause-cause : goal.returns-in-Err-Bad-clause-cause
returns-in-Err-Bad-clause-cause c =
    goes_wrong c.args.bytes.now c.in-Err-Bad.at c.in-Err-Bad.kind c.requires
    (λ place fault bad. subst (λ (it : ImageFault). IsBadAt (Err it) place fault) c.in-Err-Bad.field-0-is
    (c.in-Err-Bad.ensures.first place fault bad))
    (λ start image. subst (λ (it : ImageFault). IsStore (Err it) start) c.in-Err-Bad.field-0-is
    (c.in-Err-Bad.ensures.only start image))
