-- The place of an event behind a state (docs/RULES.md, "Refusals").
use Rattle.std.specs.Prelude.{◌+◌, ◌-◌, ◌^◌, cond, eqb}
use Rattle.cesr_sn.specs.Numbers.{value, sn_of}
use Rattle.cesr_sn.specs.declared.Sn.{Sn}
use Rattle.registry_error.specs.declared.RegistryRejection.TheVariants.{SequenceNumberOverflow, OutOfOrder}
use Rattle.registry_error.specs.Errors.{Answer}
use Rattle.std.specs.Prelude.{Err}
use Rattle.registry_answer.specs.Answers.{accept_if}

-- the sn that comes behind another
abbrev pub sn_behind : Sn → Sn
sn_behind held = sn_of (value held + 1)

-- 15: nothing comes behind the last; 16: the event has another sn than the next
unfoldable pub next_sn : Sn → Sn → Answer
next_sn held sn =
    cond (eqb (value held) (2 ^ 128 - 1)) (Err SequenceNumberOverflow)
    (accept_if (eqb (value sn) (value (sn_behind held))) (OutOfOrder (sn_behind held) sn))
