use Rattle.std.proofs.Common.{IfErr, subst, sym}
use Rattle.ex_system.specs.Saving.{HostCause}
use Rattle.ex_system.proofs.input.loaded.Goals as goal

pub returns-in-Bytes-clause-early : goal.returns-in-Bytes-clause-early
returns-in-Bytes-clause-early g c = c.decoded.ensures.early c.args.name.now

pub returns-in-Bytes-clause-host_cause : goal.returns-in-Bytes-clause-host_cause
returns-in-Bytes-clause-host_cause g c =
    subst (λ count. IfErr c.decoded.result (λ status. HostCause (g.H.Host.faults c.args.host.now) count status))
    (sym c.in-Bytes.ensures.cause) (c.decoded.ensures.host_cause (g.H.Host.faults c.args.host.now))
