use Rattle.std.proofs.Common.{refl}
use Rattle.registry_status.proofs.status.read_optional.Goals as goal

pub returns : goal.returns
returns g c =
    rw (← c.count_up_to-n.ensures) (λ z. absurd (c.if-n-eq0.false z), λ z. (c.read-r.result, c.read-r.ensures, refl))
