-- The check of the bytes, before a refusal (docs/RULES.md, "Orders").
use Rattle.std.specs.Prelude.{Bool, cond}
use Rattle.registry_error.specs.declared.RegistryRejection.{RegistryRejection}
use Rattle.registry_error.specs.declared.RegistryRejection.TheVariants.{Malformed}

-- 1 of bytes that are no attempt, before a refusal
abbrev pub behind_reading : Bool → RegistryRejection → RegistryRejection
behind_reading read refusal = cond read refusal Malformed
